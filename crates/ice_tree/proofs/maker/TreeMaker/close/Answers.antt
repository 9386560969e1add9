use Rattle.std.proofs.Common.{◌<◌, ◌∙◌, length, ap, sym, rules}
use Rattle.std.specs.Prelude.{option_map}
use Rattle.ice_tree.specs.Fault.{tree_fault_number}
use Rattle.ice_tree.proofs.Drafting.{open_node_in, open_count_in, close_refusal-open, IsMaking-close, innermost-reverse, draft_of-close}
use Rattle.ice_tree.proofs.maker.TreeMaker.close.Goals as goal

pub bounds-deref-node : goal.bounds-deref-node
bounds-deref-node c =
    let some : 0 < length c.self.inside.path.items = search rules in
    rw (c.deref.ensures.0, c.innermost-node.ensures, ← c.self.view_is, innermost-reverse) (open_node_in _ _ _ _ _ _ c.self.invariant some)

pub bounds-deref-node-2 : goal.bounds-deref-node-2
bounds-deref-node-2 c =
    let some : 0 < length c.self.inside.path.items = search rules in
    rw (c.deref-2.ensures.0, c.innermost-node.ensures, ← c.self.view_is, innermost-reverse) (open_count_in _ _ _ _ _ _ c.self.invariant some)

pub returns-in-Some-clause-refused : goal.returns-in-Some-clause-refused
returns-in-Some-clause-refused c =
    let some : 0 < length c.self.inside.path.items = search rules in
    let refusal = rw (c.deref.ensures.0, c.deref-2.ensures.0, c.innermost-node.ensures, ← c.self.view_is, innermost-reverse) at c.close_refusal.ensures in
    rw (← c.self.view_is) (sym (close_refusal-open _ _ _ _ _ _ c.self.invariant some) ∙ sym refusal ∙ ap (option_map tree_fault_number) c.in-Some.is)

pub returns-clause-refused : goal.returns-clause-refused
returns-clause-refused c =
    let some : 0 < length c.self.inside.path.items = search rules in
    let refusal = rw (c.deref.ensures.0, c.deref-2.ensures.0, c.innermost-node.ensures, ← c.self.view_is, innermost-reverse) at c.close_refusal.ensures in
    rw (← c.self.view_is) (sym (close_refusal-open _ _ _ _ _ _ c.self.invariant some) ∙ sym refusal ∙ ap (option_map tree_fault_number) c.in_default.is)

pub invariant_of-self : goal.invariant_of-self
invariant_of-self c =
    let some : 0 < length c.self.inside.path.items = search rules in
    let refusal = rw (c.deref.ensures.0, c.deref-2.ensures.0, c.innermost-node.ensures, ← c.self.view_is, innermost-reverse) at c.close_refusal.ensures in
    let fits = sym refusal ∙ ap (option_map tree_fault_number) c.in_default.is in
    rw (c.truncate.ensures.items, c.len.ensures.value) (IsMaking-close _ _ _ _ _ _ c.self.invariant some fits)

pub returns-clause-made : goal.returns-clause-made
returns-clause-made c =
    rw (← c.self.view_is) (draft_of-close c.self.inside.goods c.self.inside.rows.nodes.items c.self.inside.rows.lo.items c.self.inside.rows.hi.items c.self.inside.path.items _ (rw c.len.ensures.value at c.truncate.ensures.items))
