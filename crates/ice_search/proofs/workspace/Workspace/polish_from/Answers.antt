use Rattle.std.proofs.Common.{sym, subst}
use Rattle.ice_defs.specs.Sweep.{IsLive}
use Rattle.ice_search.specs.Workspace.{IsPolishedAt}
use Rattle.ice_search.proofs.workspace.Workspace.polish_from.Goals as goal

pub polish-requires-clause-live : goal.polish-requires-clause-live
polish-requires-clause-live c =
    subst (IsLive c.self.inside.problem.trees) (sym c.put_multipliers.ensures.marks) (subst (λ l. IsLive l.instance.trees l.side) (sym c.self.view_is) c.requires.live)

pub returns-clause-polished : goal.returns-clause-polished
returns-clause-polished c =
    let new = c.polish.new.incumbent in
    let at = c.polish.result.bounded in
    subst (λ l. IsPolishedAt l.instance l.side c.args.incumbent.now new at) c.self.view_is
    (subst (λ xs. IsPolishedAt c.self.inside.problem xs c.args.incumbent.now new at) c.put_multipliers.ensures.marks c.polish.ensures.polished)
