use Rattle.std.proofs.Common.{length, sym, subst, ◌≤◌}
use Rattle.std.specs.Prelude.{sum_by}
use Rattle.ice_defs.specs.Sweep.{IsLive, IsSweptBound}
use Rattle.ice_defs.specs.Conditions.{AreWeightsOf}
use Rattle.ice_search_log.specs.Nodes.{HasNoNode}
use Rattle.ice_search.proofs.Offering.{closed_at}
use Rattle.ice_search.proofs.workspace.Workspace.offer.Goals as goal

pub offer-requires-clause-live : goal.offer-requires-clause-live
offer-requires-clause-live c = subst (λ ts. IsLive ts c.self.inside.kept.marks) (sym c.self.invariant.trees) (subst (λ l. IsLive l.instance.trees l.side) (sym c.self.view_is) c.requires.live)

pub returns-clause-closed : goal.returns-clause-closed
returns-clause-closed c none v swept =
    let kept = c.self.inside.kept in
    let x = c.self.inside.problem in
    let live = subst (λ ts. IsLive ts kept.marks) (sym c.self.invariant.trees) (subst (λ l. IsLive l.instance.trees l.side) (sym c.self.view_is) c.requires.live) in
    let weights = subst (λ ts. AreWeightsOf ts kept.weights) (sym c.self.invariant.trees) (subst (AreWeightsOf x.trees) (sym c.self.invariant.weights) c.self.invariant.instance.weights) in
    let few = subst (λ ts. sum_by length ts ≤ 2000) (sym c.self.invariant.trees) c.self.invariant.instance.few_nodes in
    let none_here = subst (λ ts. HasNoNode ts kept.marks) (sym c.self.invariant.trees) (subst (λ l. HasNoNode l.instance.trees l.side) (sym c.self.view_is) none) in
    let swept_here = subst (λ ts. IsSweptBound ts kept.exact kept.weights kept.marks v) (sym c.self.invariant.trees)
    (subst (λ e. IsSweptBound x.trees e kept.weights kept.marks v) (sym c.self.invariant.exact)
    (subst (λ ws. IsSweptBound x.trees x.exact ws kept.marks v) (sym c.self.invariant.weights)
    (subst (λ l. IsSweptBound l.instance.trees l.instance.exact l.instance.weights l.side v) (sym c.self.view_is) swept))) in
    closed_at kept c.args.incumbent.now c.offer.new.self live c.sets-sets.ensures.relaxed weights few c.requires.low c.offer.ensures.offered c.offer.ensures.taken none_here v swept_here
