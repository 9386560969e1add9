use Rattle.std.proofs.Common.{sym, subst}
use Rattle.ice_defs.specs.Sweep.{IsLive}
use Rattle.ice_search.specs.Workspace.{IsPolishedAt}
use Rattle.ice_search.proofs.Polishing.{polished_at}
use Rattle.ice_search.proofs.workspace.Workspace.repeat.Goals as goal

pub repeat-evaluated-requires-clause-live : goal.repeat-evaluated-requires-clause-live
repeat-evaluated-requires-clause-live c = subst (λ ts. IsLive ts c.self.inside.kept.marks) (sym c.self.invariant.trees) (subst (λ l. IsLive l.instance.trees l.side) (sym c.self.view_is) c.requires.live)

pub returns-clause-polished : goal.returns-clause-polished
returns-clause-polished c =
    let found = c.repeat-evaluated in
    let at = c.bounded.result in
    subst (λ l. IsPolishedAt l.instance l.side c.args.incumbent.now found.new.incumbent at) c.self.view_is
    (polished_at c.self.inside.problem c.self.inside.kept c.args.incumbent.now found.new.incumbent found.result at c.self.invariant.trees c.self.invariant.weights c.self.invariant.exact
    c.bounded.ensures.multipliers c.bounded.ensures.low c.bounded.ensures.high found.ensures.polished)
