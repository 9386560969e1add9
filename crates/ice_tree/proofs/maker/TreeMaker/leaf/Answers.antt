use Rattle.std.proofs.Common.{sym}
use mir.Syntax.{w64}
use mir.Val.{to_z, of_z}
use Rattle.ice_tree.proofs.Drafting.{IsTaken-from_draft, IsMaking-leaf, few_children, parent_in, innermost-reverse}
use Rattle.ice_tree.proofs.maker.TreeMaker.leaf.Goals as goal

pub push-requires-clause-nodes : goal.push-requires-clause-nodes
push-requires-clause-nodes c =
    let taken = IsTaken-from_draft c.self.inside.goods c.self.inside.rows.nodes.items c.self.inside.rows.lo.items c.self.inside.rows.hi.items c.self.inside.path.items c.args.kind
    (to_z w64 (of_z w64 c.args.lo)) (to_z w64 (of_z w64 c.args.hi)) (rw (← c.self.view_is) at (sym c.in_default.ensures)) in
    taken.room

pub push-requires-clause-parent : goal.push-requires-clause-parent
push-requires-clause-parent c =
    let taken = IsTaken-from_draft c.self.inside.goods c.self.inside.rows.nodes.items c.self.inside.rows.lo.items c.self.inside.rows.hi.items c.self.inside.path.items c.args.kind
    (to_z w64 (of_z w64 c.args.lo)) (to_z w64 (of_z w64 c.args.hi)) (rw (← c.self.view_is) at (sym c.in_default.ensures)) in
    rw (c.innermost-parent.ensures, ← c.self.view_is, innermost-reverse) (parent_in _ _ _ _ _ _ c.self.invariant c.args.kind _ _ taken)

pub push-requires-clause-few : goal.push-requires-clause-few
push-requires-clause-few c =
    let taken = IsTaken-from_draft c.self.inside.goods c.self.inside.rows.nodes.items c.self.inside.rows.lo.items c.self.inside.rows.hi.items c.self.inside.path.items c.args.kind
    (to_z w64 (of_z w64 c.args.lo)) (to_z w64 (of_z w64 c.args.hi)) (rw (← c.self.view_is) at (sym c.in_default.ensures)) in
    few_children _ _ _ _ _ _ c.self.invariant c.innermost-parent.result taken.room

pub invariant_of-self : goal.invariant_of-self
invariant_of-self c =
    let taken = IsTaken-from_draft c.self.inside.goods c.self.inside.rows.nodes.items c.self.inside.rows.lo.items c.self.inside.rows.hi.items c.self.inside.path.items c.args.kind
    (to_z w64 (of_z w64 c.args.lo)) (to_z w64 (of_z w64 c.args.hi)) (rw (← c.self.view_is) at (sym c.in_default.ensures)) in
    rw (c.push.ensures.nodes, c.push.ensures.lo, c.push.ensures.hi, c.push.ensures.children, c.innermost-parent.ensures, ← c.self.view_is, innermost-reverse)
    (IsMaking-leaf _ _ _ _ _ _ c.self.invariant c.args.kind _ _ taken c.requires)
