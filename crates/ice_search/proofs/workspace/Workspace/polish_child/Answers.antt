use Rattle.std.proofs.Common.{ap, sym, ◌∙◌, ◌≡◌, subst}
use Rattle.ice_defs.specs.Log.{IsFreeNode}
use Rattle.ice_defs.specs.Steps.{with_mark}
use Rattle.ice_defs.specs.Sweep.{IsLive}
use Rattle.ice_defs.specs.Conditions.{AreFixingsOf}
use Rattle.ice_search.specs.Workspace.{IsPolishedAt}
use Rattle.ice_search.proofs.Standing.{taken_back}
use Rattle.ice_search.proofs.workspace.Workspace.polish_child.Goals as goal

pub polish_marked-polished-requires-clause-live : goal.polish_marked-polished-requires-clause-live
polish_marked-polished-requires-clause-live c =
    let place = c.args.candidate in
    subst (IsLive c.self.inside.problem.trees) (sym c.mark.ensures.marks)
    (subst (λ l. IsLive l.instance.trees (with_mark l.side place.bidder place.node c.args.mark)) (sym c.self.view_is) c.requires.live)

pub returns-clause-side : goal.returns-clause-side
returns-clause-side c =
    let kept = c.self.inside.kept in
    let place = c.args.candidate in
    let marked : c.self-2.inside.kept.marks ≡ with_mark kept.marks place.bidder place.node c.args.mark =
    ap (λ l. l.side) c.self-2.view_is ∙ c.polish_marked-polished.ensures.side ∙ c.mark.ensures.marks in
    let free = subst (λ l. IsFreeNode l.instance.trees l.side place.bidder place.node) (sym c.self.view_is) c.requires.free in
    let fit = subst (λ l. AreFixingsOf l.instance.trees l.side) (sym c.self.view_is) c.marks-marks.ensures in
    ap (λ l. l.side) c.look_at_tree.ensures ∙ c.mark-2.ensures.marks ∙ taken_back c.self.inside.problem.trees kept.marks c.self-2.inside.kept.marks place.bidder place.node c.args.mark fit free marked
    ∙ ap (λ l. l.side) c.self.view_is

pub returns-clause-polished : goal.returns-clause-polished
returns-clause-polished c =
    let place = c.args.candidate in
    let found = c.polish_marked-polished in
    let at = found.result.bounded in
    subst (λ l. IsPolishedAt l.instance (with_mark l.side place.bidder place.node c.args.mark) c.args.incumbent.now found.new.incumbent at) c.self.view_is
    (subst (λ xs. IsPolishedAt c.self.inside.problem xs c.args.incumbent.now found.new.incumbent at) c.mark.ensures.marks found.ensures.polished)
