use Rattle.std.proofs.Common.{sym, subst}
use Rattle.ice_defs.specs.Log.{IsFreeNode}
use Rattle.ice_search.specs.Nodes.{IsSplitNode}
use Rattle.ice_search.proofs.workspace.Workspace.dive.Goals as goal

pub polish_children-must-requires-clause-node : goal.polish_children-must-requires-clause-node
polish_children-must-requires-clause-node c =
    let at = c.loop-level.node in
    subst (λ l. IsSplitNode l.instance.trees l.side at.bidder at.node) (sym c.splits.ensures.same) (c.splits.ensures.yes c.if-not-splits.false)

pub go_to-requires : goal.go_to-requires
go_to-requires c =
    let at = c.loop-level.node in
    let before = c.splits.new.self in
    let after = c.polish_children-must.new.self in
    let node = subst (λ l. IsSplitNode l.instance.trees l.side at.bidder at.node) (sym c.splits.ensures.same) (c.splits.ensures.yes c.if-not-splits.false) in
    subst (λ i. IsFreeNode i.trees after.side at.bidder at.node) (sym c.polish_children-must.ensures.instance)
    (subst (λ side. IsFreeNode before.instance.trees side at.bidder at.node) (sym c.polish_children-must.ensures.side) node.free)
