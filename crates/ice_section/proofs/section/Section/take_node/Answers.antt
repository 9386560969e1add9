use Rattle.std.proofs.Common.{◌≡◌, ◌<◌, ◌≤◌, [], length, sym, ◌∙◌, subst, Some, None, Ok, Err, ap, rules}
use Rattle.std.specs.Prelude.{OnOk, IfErr}
use Rattle.std.specs.List.{AllByRecursion}
use Rattle.ice_defs.specs.Making.{bidder_refusal}
use Rattle.ice_trade.specs.Parts.{with_bidder}
use Rattle.ice_section.specs.Refusal.{IsRefusal, IsMakerRefusal}
use Rattle.std.proofs.lemmas.Option.{same_Some}
use Rattle.std.proofs.lemmas.Bool.{eqb-true, eqb-false}
use Rattle.std.proofs.lemmas.Int.{to_z-of_z}
use Rattle.std.proofs.lemmas.List.{nil_from_length}
use Rattle.std.proofs.lemmas.Result.{on_ok_weaker, IfErr-weaker}
use mir.Syntax.{w64}
use mir.Val.{SFits}
use Rattle.ice_tree.specs.Fault.{tree_fault_number}
use Rattle.ice_section.specs.Section.{names_no_good, maker, take_node}
use Rattle.ice_section.specs.Kept.{section_from, IsHeld}
use Rattle.ice_section.proofs.SectionNodes.{held_without, node_refused, node_taken, held_node, tree_there, own_counted, own_ranged, whole_taken, whole_refused, held_whole}
use Rattle.ice_section.proofs.section.Section.take_node.Goals as goal

pub invariant_of-self-in-Err : goal.invariant_of-self-in-Err
invariant_of-self-in-Err c = held_without c.self.inside.maker c.in-Some.draft (subst (λ x. IsHeld c.self.inside.maker x) c.in-Some.is c.self.invariant)

pub returns-in-Err-clause-refused : goal.returns-in-Err-clause-refused
returns-in-Err-clause-refused c =
    let lo : SFits w64 c.args.lo = c.ranges.lo in
    let hi : SFits w64 c.args.hi = c.ranges.hi in
    let made = c.self.inside.maker in
    let d = c.in-Some.draft in
    let held = subst (λ x. IsHeld c.self.inside.maker x) c.in-Some.is c.self.invariant in
    let view : section_from c.self.inside.maker (Some c.in-Some.draft) ≡ c.args.self.now = ap (section_from c.self.inside.maker) (sym c.in-Some.is) ∙ c.self.view_is in
    let goods : c.goods-goods.result ≡ length (section_from c.self.inside.maker (Some c.in-Some.draft)).goods = c.goods-goods.ensures.value ∙ ap (λ s. length s.goods) (sym view) in
    let known = ap (λ n. names_no_good c.args.kind n) (sym goods) ∙ sym c.names_no_good.ensures ∙ c.if-names_no_good.false in
    let refused = simp to_z-of_z at c.in-Err.ensures.refused in
    subst (λ s. take_node s c.args.kind c.args.children c.args.lo c.args.hi ≡ Err (maker (tree_fault_number c.in-Err.fault))) view (
    node_refused made d held c.args.kind c.args.children c.args.lo c.args.hi known (tree_fault_number c.in-Err.fault) refused)

pub invariant_of-self-then-not-is_closed : goal.invariant_of-self-then-not-is_closed
invariant_of-self-then-not-is_closed c =
    let lo : SFits w64 c.args.lo = c.ranges.lo in
    let hi : SFits w64 c.args.hi = c.ranges.hi in
    let made = c.self.inside.maker in
    let d = c.in-Some.draft in
    let held = subst (λ x. IsHeld c.self.inside.maker x) c.in-Some.is c.self.invariant in
    let view : section_from c.self.inside.maker (Some c.in-Some.draft) ≡ c.args.self.now = ap (section_from c.self.inside.maker) (sym c.in-Some.is) ∙ c.self.view_is in
    let goods : c.goods-goods.result ≡ length (section_from c.self.inside.maker (Some c.in-Some.draft)).goods = c.goods-goods.ensures.value ∙ ap (λ s. length s.goods) (sym view) in
    let known = ap (λ n. names_no_good c.args.kind n) (sym goods) ∙ sym c.names_no_good.ensures ∙ c.if-names_no_good.false in
    let taken = simp to_z-of_z at c.in_default-node.ensures.taken in
    let some = eqb-false _ 0 (sym c.is_closed.ensures ∙ c.if-not-is_closed.true) in
    held_node made d held c.args.kind c.args.children c.args.lo c.args.hi known c.node.new.self taken.0 taken.1 c.requires some

pub returns-then-not-is_closed-clause-taken : goal.returns-then-not-is_closed-clause-taken
returns-then-not-is_closed-clause-taken c =
    let lo : SFits w64 c.args.lo = c.ranges.lo in
    let hi : SFits w64 c.args.hi = c.ranges.hi in
    let made = c.self.inside.maker in
    let d = c.in-Some.draft in
    let held = subst (λ x. IsHeld c.self.inside.maker x) c.in-Some.is c.self.invariant in
    let view : section_from c.self.inside.maker (Some c.in-Some.draft) ≡ c.args.self.now = ap (section_from c.self.inside.maker) (sym c.in-Some.is) ∙ c.self.view_is in
    let goods : c.goods-goods.result ≡ length (section_from c.self.inside.maker (Some c.in-Some.draft)).goods = c.goods-goods.ensures.value ∙ ap (λ s. length s.goods) (sym view) in
    let known = ap (λ n. names_no_good c.args.kind n) (sym goods) ∙ sym c.names_no_good.ensures ∙ c.if-names_no_good.false in
    let taken = simp to_z-of_z at c.in_default-node.ensures.taken in
    let some = eqb-false _ 0 (sym c.is_closed.ensures ∙ c.if-not-is_closed.true) in
    subst (λ s. take_node s c.args.kind c.args.children c.args.lo c.args.hi ≡ Ok (section_from c.self.inside.maker (Some c.node.new.self))) view (
    node_taken made d held c.args.kind c.args.children c.args.lo c.args.hi known c.node.new.self taken.0 taken.1 some)

pub add_bidder-requires-clause-closed : goal.add_bidder-requires-clause-closed
add_bidder-requires-clause-closed c =
    let lo : SFits w64 c.args.lo = c.ranges.lo in
    let hi : SFits w64 c.args.hi = c.ranges.hi in
    let made = c.self.inside.maker in
    let d = c.in-Some.draft in
    let held = subst (λ x. IsHeld c.self.inside.maker x) c.in-Some.is c.self.invariant in
    let view : section_from c.self.inside.maker (Some c.in-Some.draft) ≡ c.args.self.now = ap (section_from c.self.inside.maker) (sym c.in-Some.is) ∙ c.self.view_is in
    let goods : c.goods-goods.result ≡ length (section_from c.self.inside.maker (Some c.in-Some.draft)).goods = c.goods-goods.ensures.value ∙ ap (λ s. length s.goods) (sym view) in
    let known = ap (λ n. names_no_good c.args.kind n) (sym goods) ∙ sym c.names_no_good.ensures ∙ c.if-names_no_good.false in
    let taken = simp to_z-of_z at c.in_default-node.ensures.taken in
    let same : c.in-Some-Some.draft ≡ c.node.new.self = same_Some _ _ (sym c.in-Some-Some.is-1 ∙ c.take.ensures.value) in
    let gone : c.take.new.self ≡ None = c.take.ensures.after in
    let none : c.node.new.self.draft.opened ≡ [] = nil_from_length _ (eqb-true _ 0 (sym c.is_closed.ensures ∙ search rules)) in
    ap (λ x. x.draft.opened) same ∙ none

pub add_bidder-requires-clause-some : goal.add_bidder-requires-clause-some
add_bidder-requires-clause-some c =
    let lo : SFits w64 c.args.lo = c.ranges.lo in
    let hi : SFits w64 c.args.hi = c.ranges.hi in
    let made = c.self.inside.maker in
    let d = c.in-Some.draft in
    let held = subst (λ x. IsHeld c.self.inside.maker x) c.in-Some.is c.self.invariant in
    let view : section_from c.self.inside.maker (Some c.in-Some.draft) ≡ c.args.self.now = ap (section_from c.self.inside.maker) (sym c.in-Some.is) ∙ c.self.view_is in
    let goods : c.goods-goods.result ≡ length (section_from c.self.inside.maker (Some c.in-Some.draft)).goods = c.goods-goods.ensures.value ∙ ap (λ s. length s.goods) (sym view) in
    let known = ap (λ n. names_no_good c.args.kind n) (sym goods) ∙ sym c.names_no_good.ensures ∙ c.if-names_no_good.false in
    let taken = simp to_z-of_z at c.in_default-node.ensures.taken in
    let same : c.in-Some-Some.draft ≡ c.node.new.self = same_Some _ _ (sym c.in-Some-Some.is-1 ∙ c.take.ensures.value) in
    let gone : c.take.new.self ≡ None = c.take.ensures.after in
    let none : c.node.new.self.draft.opened ≡ [] = nil_from_length _ (eqb-true _ 0 (sym c.is_closed.ensures ∙ search rules)) in
    subst (λ x. 0 < length x.draft.bidder.tree) (sym same) (tree_there made d held c.args.kind c.args.children c.args.lo c.args.hi known c.node.new.self taken.0 taken.1)

pub add_bidder-requires-clause-count : goal.add_bidder-requires-clause-count
add_bidder-requires-clause-count c =
    let lo : SFits w64 c.args.lo = c.ranges.lo in
    let hi : SFits w64 c.args.hi = c.ranges.hi in
    let made = c.self.inside.maker in
    let d = c.in-Some.draft in
    let held = subst (λ x. IsHeld c.self.inside.maker x) c.in-Some.is c.self.invariant in
    let view : section_from c.self.inside.maker (Some c.in-Some.draft) ≡ c.args.self.now = ap (section_from c.self.inside.maker) (sym c.in-Some.is) ∙ c.self.view_is in
    let goods : c.goods-goods.result ≡ length (section_from c.self.inside.maker (Some c.in-Some.draft)).goods = c.goods-goods.ensures.value ∙ ap (λ s. length s.goods) (sym view) in
    let known = ap (λ n. names_no_good c.args.kind n) (sym goods) ∙ sym c.names_no_good.ensures ∙ c.if-names_no_good.false in
    let taken = simp to_z-of_z at c.in_default-node.ensures.taken in
    let same : c.in-Some-Some.draft ≡ c.node.new.self = same_Some _ _ (sym c.in-Some-Some.is-1 ∙ c.take.ensures.value) in
    let gone : c.take.new.self ≡ None = c.take.ensures.after in
    let none : c.node.new.self.draft.opened ≡ [] = nil_from_length _ (eqb-true _ 0 (sym c.is_closed.ensures ∙ search rules)) in
    let counted : length (section_from c.self.inside.maker (Some c.in-Some.draft)).goods ≡ length c.in-Some-Some.maker.goods = ap (λ m. length (section_from m (Some c.in-Some.draft)).goods) c.in-Some-Some.is-0 in
    ap (λ x. length x.draft.bidder.own) same ∙ own_counted made d held c.args.kind c.args.children c.args.lo c.args.hi known c.node.new.self taken.0 taken.1 ∙ sym taken.0 ∙ sym held.counted ∙ counted

pub add_bidder-requires-clause-own : goal.add_bidder-requires-clause-own
add_bidder-requires-clause-own c =
    let lo : SFits w64 c.args.lo = c.ranges.lo in
    let hi : SFits w64 c.args.hi = c.ranges.hi in
    let made = c.self.inside.maker in
    let d = c.in-Some.draft in
    let held = subst (λ x. IsHeld c.self.inside.maker x) c.in-Some.is c.self.invariant in
    let view : section_from c.self.inside.maker (Some c.in-Some.draft) ≡ c.args.self.now = ap (section_from c.self.inside.maker) (sym c.in-Some.is) ∙ c.self.view_is in
    let goods : c.goods-goods.result ≡ length (section_from c.self.inside.maker (Some c.in-Some.draft)).goods = c.goods-goods.ensures.value ∙ ap (λ s. length s.goods) (sym view) in
    let known = ap (λ n. names_no_good c.args.kind n) (sym goods) ∙ sym c.names_no_good.ensures ∙ c.if-names_no_good.false in
    let taken = simp to_z-of_z at c.in_default-node.ensures.taken in
    let same : c.in-Some-Some.draft ≡ c.node.new.self = same_Some _ _ (sym c.in-Some-Some.is-1 ∙ c.take.ensures.value) in
    let gone : c.take.new.self ≡ None = c.take.ensures.after in
    let none : c.node.new.self.draft.opened ≡ [] = nil_from_length _ (eqb-true _ 0 (sym c.is_closed.ensures ∙ search rules)) in
    subst (λ x. AllByRecursion (λ amount. amount ≤ 1000000) x.draft.bidder.own) (sym same) (own_ranged made d held c.args.kind c.args.children c.args.lo c.args.hi known c.node.new.self taken.0 taken.1)

pub invariant_of-self-2 : goal.invariant_of-self-2
invariant_of-self-2 c =
    let lo : SFits w64 c.args.lo = c.ranges.lo in
    let hi : SFits w64 c.args.hi = c.ranges.hi in
    let made = c.self.inside.maker in
    let d = c.in-Some.draft in
    let held = subst (λ x. IsHeld c.self.inside.maker x) c.in-Some.is c.self.invariant in
    let view : section_from c.self.inside.maker (Some c.in-Some.draft) ≡ c.args.self.now = ap (section_from c.self.inside.maker) (sym c.in-Some.is) ∙ c.self.view_is in
    let goods : c.goods-goods.result ≡ length (section_from c.self.inside.maker (Some c.in-Some.draft)).goods = c.goods-goods.ensures.value ∙ ap (λ s. length s.goods) (sym view) in
    let known = ap (λ n. names_no_good c.args.kind n) (sym goods) ∙ sym c.names_no_good.ensures ∙ c.if-names_no_good.false in
    let taken = simp to_z-of_z at c.in_default-node.ensures.taken in
    let same : c.in-Some-Some.draft ≡ c.node.new.self = same_Some _ _ (sym c.in-Some-Some.is-1 ∙ c.take.ensures.value) in
    let gone : c.take.new.self ≡ None = c.take.ensures.after in
    let none : c.node.new.self.draft.opened ≡ [] = nil_from_length _ (eqb-true _ 0 (sym c.is_closed.ensures ∙ search rules)) in
    let done = subst (λ x. OnOk c.add_bidder.result ((bidder_refusal (length c.in-Some-Some.maker.goods) c.in-Some-Some.maker.bidders x.draft.bidder ≡ None) × (c.add_bidder.new.maker ≡ with_bidder c.in-Some-Some.maker x.draft.bidder))) same c.add_bidder.ensures.made in
    subst (λ x. IsHeld (Some c.add_bidder.new.maker) x) (sym gone) (held_whole made d held c.args.kind c.args.children c.args.lo c.args.hi known c.node.new.self taken.0 taken.1 c.in-Some-Some.maker c.add_bidder.new.maker c.in-Some-Some.is-0 none c.add_bidder.result c.requires done c.add_bidder.ensures.unchanged)

pub returns-clause-taken : goal.returns-clause-taken
returns-clause-taken c =
    let lo : SFits w64 c.args.lo = c.ranges.lo in
    let hi : SFits w64 c.args.hi = c.ranges.hi in
    let made = c.self.inside.maker in
    let d = c.in-Some.draft in
    let held = subst (λ x. IsHeld c.self.inside.maker x) c.in-Some.is c.self.invariant in
    let view : section_from c.self.inside.maker (Some c.in-Some.draft) ≡ c.args.self.now = ap (section_from c.self.inside.maker) (sym c.in-Some.is) ∙ c.self.view_is in
    let goods : c.goods-goods.result ≡ length (section_from c.self.inside.maker (Some c.in-Some.draft)).goods = c.goods-goods.ensures.value ∙ ap (λ s. length s.goods) (sym view) in
    let known = ap (λ n. names_no_good c.args.kind n) (sym goods) ∙ sym c.names_no_good.ensures ∙ c.if-names_no_good.false in
    let taken = simp to_z-of_z at c.in_default-node.ensures.taken in
    let same : c.in-Some-Some.draft ≡ c.node.new.self = same_Some _ _ (sym c.in-Some-Some.is-1 ∙ c.take.ensures.value) in
    let gone : c.take.new.self ≡ None = c.take.ensures.after in
    let none : c.node.new.self.draft.opened ≡ [] = nil_from_length _ (eqb-true _ 0 (sym c.is_closed.ensures ∙ search rules)) in
    let done = subst (λ x. OnOk c.add_bidder.result ((bidder_refusal (length c.in-Some-Some.maker.goods) c.in-Some-Some.maker.bidders x.draft.bidder ≡ None) × (c.add_bidder.new.maker ≡ with_bidder c.in-Some-Some.maker x.draft.bidder))) same c.add_bidder.ensures.made in
    on_ok_weaker c.add_bidder.result (λ m.
    subst (λ s. take_node s c.args.kind c.args.children c.args.lo c.args.hi ≡ Ok (section_from (Some c.add_bidder.new.maker) c.take.new.self)) view
    (subst (λ x. take_node (section_from c.self.inside.maker (Some c.in-Some.draft)) c.args.kind c.args.children c.args.lo c.args.hi ≡ Ok (section_from (Some c.add_bidder.new.maker) x)) (sym gone)
    (whole_taken made d held c.args.kind c.args.children c.args.lo c.args.hi known c.node.new.self taken.0 taken.1 c.in-Some-Some.maker c.add_bidder.new.maker c.in-Some-Some.is-0 none m))) done

pub returns-clause-refused : goal.returns-clause-refused
returns-clause-refused c =
    let lo : SFits w64 c.args.lo = c.ranges.lo in
    let hi : SFits w64 c.args.hi = c.ranges.hi in
    let made = c.self.inside.maker in
    let d = c.in-Some.draft in
    let held = subst (λ x. IsHeld c.self.inside.maker x) c.in-Some.is c.self.invariant in
    let view : section_from c.self.inside.maker (Some c.in-Some.draft) ≡ c.args.self.now = ap (section_from c.self.inside.maker) (sym c.in-Some.is) ∙ c.self.view_is in
    let goods : c.goods-goods.result ≡ length (section_from c.self.inside.maker (Some c.in-Some.draft)).goods = c.goods-goods.ensures.value ∙ ap (λ s. length s.goods) (sym view) in
    let known = ap (λ n. names_no_good c.args.kind n) (sym goods) ∙ sym c.names_no_good.ensures ∙ c.if-names_no_good.false in
    let taken = simp to_z-of_z at c.in_default-node.ensures.taken in
    let same : c.in-Some-Some.draft ≡ c.node.new.self = same_Some _ _ (sym c.in-Some-Some.is-1 ∙ c.take.ensures.value) in
    let gone : c.take.new.self ≡ None = c.take.ensures.after in
    let none : c.node.new.self.draft.opened ≡ [] = nil_from_length _ (eqb-true _ 0 (sym c.is_closed.ensures ∙ search rules)) in
    let due = subst (λ x. IfErr c.add_bidder.result (IsMakerRefusal (bidder_refusal (length c.in-Some-Some.maker.goods) c.in-Some-Some.maker.bidders x.draft.bidder))) same c.add_bidder.ensures.refused in
    IfErr-weaker c.add_bidder.result (IsMakerRefusal (bidder_refusal (length c.in-Some-Some.maker.goods) c.in-Some-Some.maker.bidders c.node.new.self.draft.bidder)) (IsRefusal (take_node c.args.self.now c.args.kind c.args.children c.args.lo c.args.hi)) (λ f h.
    subst (λ s. IsRefusal (take_node s c.args.kind c.args.children c.args.lo c.args.hi) f) view
    (whole_refused made d held c.args.kind c.args.children c.args.lo c.args.hi known c.node.new.self taken.0 taken.1 c.in-Some-Some.maker c.add_bidder.new.maker c.in-Some-Some.is-0 none f h)) due
