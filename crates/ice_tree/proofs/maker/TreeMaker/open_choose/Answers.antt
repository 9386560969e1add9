use Rattle.std.proofs.Common.{◌≡◌, sym, arith, rules}
use Rattle.ice_defs.specs.declared.NodeKind.TheVariants.{Choose}
use mir.Syntax.{w64}
use mir.Val.{to_z, of_z}
use Rattle.ice_tree.proofs.Drafting.{IsTaken-from_draft, IsMaking-open, few_children, parent_in, innermost-reverse, draft_of-open}
use Rattle.ice_tree.proofs.maker.TreeMaker.open_choose.Goals as goal

pub push-requires-clause-nodes : goal.push-requires-clause-nodes
push-requires-clause-nodes c =
    let taken = IsTaken-from_draft c.self.inside.goods c.self.inside.rows.nodes.items c.self.inside.rows.lo.items c.self.inside.rows.hi.items c.self.inside.path.items (Choose c.args.least c.args.most)
    (to_z w64 (of_z w64 c.args.lo)) (to_z w64 (of_z w64 c.args.hi)) (rw (← c.self.view_is) at (sym c.in_default.ensures)) in
    taken.room

pub push-requires-clause-parent : goal.push-requires-clause-parent
push-requires-clause-parent c =
    let taken = IsTaken-from_draft c.self.inside.goods c.self.inside.rows.nodes.items c.self.inside.rows.lo.items c.self.inside.rows.hi.items c.self.inside.path.items (Choose c.args.least c.args.most)
    (to_z w64 (of_z w64 c.args.lo)) (to_z w64 (of_z w64 c.args.hi)) (rw (← c.self.view_is) at (sym c.in_default.ensures)) in
    rw (c.innermost-parent.ensures, ← c.self.view_is, innermost-reverse) (parent_in _ _ _ _ _ _ c.self.invariant (Choose c.args.least c.args.most) _ _ taken)

pub push-requires-clause-few : goal.push-requires-clause-few
push-requires-clause-few c =
    let taken = IsTaken-from_draft c.self.inside.goods c.self.inside.rows.nodes.items c.self.inside.rows.lo.items c.self.inside.rows.hi.items c.self.inside.path.items (Choose c.args.least c.args.most)
    (to_z w64 (of_z w64 c.args.lo)) (to_z w64 (of_z w64 c.args.hi)) (rw (← c.self.view_is) at (sym c.in_default.ensures)) in
    few_children _ _ _ _ _ _ c.self.invariant c.innermost-parent.result taken.room

pub invariant_of-self : goal.invariant_of-self
invariant_of-self c =
    let taken = IsTaken-from_draft c.self.inside.goods c.self.inside.rows.nodes.items c.self.inside.rows.lo.items c.self.inside.rows.hi.items c.self.inside.path.items (Choose c.args.least c.args.most)
    (to_z w64 (of_z w64 c.args.lo)) (to_z w64 (of_z w64 c.args.hi)) (rw (← c.self.view_is) at (sym c.in_default.ensures)) in
    rw (c.push.ensures.nodes, c.push.ensures.lo, c.push.ensures.hi, c.push.ensures.children, c.push-2.ensures.items, c.nodes-node.ensures.value, c.innermost-parent.ensures, ← c.self.view_is, innermost-reverse)
    (IsMaking-open _ _ _ _ _ _ c.self.invariant (Choose c.args.least c.args.most) _ _ taken)

pub push-requires-2 : goal.push-requires-2
push-requires-2 c =
    let taken = IsTaken-from_draft c.self.inside.goods c.self.inside.rows.nodes.items c.self.inside.rows.lo.items c.self.inside.rows.hi.items c.self.inside.path.items (Choose c.args.least c.args.most)
    (to_z w64 (of_z w64 c.args.lo)) (to_z w64 (of_z w64 c.args.hi)) (rw (← c.self.view_is) at (sym c.in_default.ensures)) in
    (omega arith, taken.shallow)

pub returns-clause-made : goal.returns-clause-made
returns-clause-made c =
    let same_lo : to_z w64 (of_z w64 c.args.lo) ≡ c.args.lo = search rules in
    let same_hi : to_z w64 (of_z w64 c.args.hi) ≡ c.args.hi = search rules in
    rw (← c.self.view_is)
    (draft_of-open c.self.inside.goods c.self.inside.rows.nodes.items _ c.self.inside.rows.lo.items _ c.self.inside.rows.hi.items _ c.self.inside.path.items _ c.innermost-parent.result c.nodes-node.result
    (Choose c.args.least c.args.most) c.args.lo c.args.hi c.push.ensures.nodes (rw same_lo at c.push.ensures.lo) (rw same_hi at c.push.ensures.hi) c.push-2.ensures.items (rw (← c.self.view_is) at c.innermost-parent.ensures) (rw (← c.self.view_is) at c.nodes-node.ensures.value))
