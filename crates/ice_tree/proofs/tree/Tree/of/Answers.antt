use Rattle.std.proofs.Common.{arith, ◌≡◌, ◌+◌, true, false, length, sym, ◌∙◌, ap, ◌++◌, append_assoc}
use Rattle.std.proofs.lemmas.Bool.{and_from, and_right, lt-ltb, eq-eqb, ne_eqb}
use Rattle.std.specs.List.{filter}
use Rattle.ice_defs.specs.Sum.{numbers_below}
use Rattle.ice_defs.specs.Tree.{is_child}
use Rattle.ice_tree.specs.Stored.{children_before}
use Rattle.ice_tree.proofs.Storing.{has_room, children_before_more, filter_more_yes, filter_more_no, slice_of, before-le, pushed}
use Rattle.ice_tree.proofs.tree.Tree.of.Goals as goal
use Rattle.ice_tree.proofs.tree.Tree.of.Goals.{then-deref-c, else-deref-c}

pub push-requires-then-deref-c : goal.push-requires-then-deref-c
push-requires-then-deref-c c =
    let child : is_child c.args.nodes.items c.loop-p.p c.loop-c.c ≡ true =
    and_from _ _ (lt-ltb 0 c.loop-c.c (omega arith)) (eq-eqb _ _ (rw c.deref.ensures.0 at c.if-deref-c.true)) in
    let room = has_room c.args.nodes.items c.loop-p.p c.loop-c.c (omega arith) child in
    let now = ap length c.loop-c.invariant in
    (omega arith, omega (arith, room, now))

pub loop-c-preserved : goal.loop-c-preserved
loop-c-preserved c =
    elim c.if-deref-c.branch [
      | then-deref-c w ↦
          let child : is_child c.args.nodes.items c.loop-p.p c.loop-c.c ≡ true =
          and_from _ _ (lt-ltb 0 c.loop-c.c (omega arith)) (eq-eqb _ _ (rw c.deref.ensures.0 at w.if-deref-c.true)) in
          let more = filter_more_yes (is_child c.args.nodes.items c.loop-p.p) c.loop-c.c child in
          rw (w.children-is, w.push-then-deref-c.ensures.items, c.loop-c.invariant, more, append_assoc)
      | else-deref-c w ↦
          let child : is_child c.args.nodes.items c.loop-p.p c.loop-c.c ≡ false =
          and_right _ _ (ne_eqb _ _ (rw c.deref.ensures.0 at w.if-deref-c.false)) in
          let more = filter_more_no (is_child c.args.nodes.items c.loop-p.p) c.loop-c.c child in
          rw (w.children-is, more) c.loop-c.invariant
    ]

pub loop-p-preserved : goal.loop-p-preserved
loop-p-preserved c =
    let t = c.args.nodes.items in
    let p = c.loop-p.p in
    let at_end : c.loop-c.c ≡ length t = omega arith in
    record {
      children_are = c.loop-c.invariant ∙ ap (λ m. children_before t p ++ filter (is_child t p) (numbers_below m)) at_end ∙ sym (children_before_more t p);
      starts_there = omega (arith, c.push.ensures.len);
      ends_there = omega (arith, c.push-in-loop-p.ensures.len);
      starts_are = pushed c.loop-p.starts.items _ _ p (λ k. length (children_before t k)) c.push.ensures.items c.loop-p.invariant.starts_there c.loop-p.invariant.starts_are
          (c.len.ensures.value ∙ ap length c.loop-p.invariant.children_are);
      ends_are = pushed c.loop-p.ends.items _ _ p (λ k. length (children_before t (k + 1))) c.push-in-loop-p.ensures.items c.loop-p.invariant.ends_there c.loop-p.invariant.ends_are
          (c.len-in-loop-p.ensures.value
          ∙ ap length (c.loop-c.invariant ∙ ap (λ m. children_before t p ++ filter (is_child t p) (numbers_below m)) at_end ∙ sym (children_before_more t p)));
    }

pub invariant_of-result : goal.invariant_of-result
invariant_of-result c =
    let t = c.args.nodes.items in
    let i = c.loop-p.invariant in
    let at_end : c.loop-p.p ≡ length t = omega arith in
    record {
      tree = c.requires;
      starts_there = omega (arith, i.starts_there);
      ends_there = omega (arith, i.ends_there);
      in_order = λ n l. omega (arith, i.starts_are n (omega arith), i.ends_are n (omega arith), before-le t n (n + 1) (omega arith));
      in_range = λ n l. omega (arith, i.ends_are n (omega arith), ap length i.children_are, before-le t (n + 1) c.loop-p.p (omega arith));
      are_children = λ n l.
          rw (i.starts_are n (omega arith), i.ends_are n (omega arith), i.children_are) (slice_of t n c.loop-p.p (omega arith));
    }
