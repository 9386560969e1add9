-- A bidder whose tree is not complete, and the records that were taken of it.
use Rattle.std.proofs.Common.{ℕ, zero, suc, ◌<◌, ◌≤◌, ◌≡◌, true, ◌&&◌, not, ltb, leb, List, [], ◌∷◌, ◌++◌, map, length, ℤ, None, Ok, refl, arith, ap, sym, ◌∙◌}
use Rattle.std.specs.Prelude.{int_lt}
use Rattle.std.proofs.lemmas.Bool.{ltb-true, ltb-false, leb-true, leb-false, and_parts, not-false}
use Rattle.std.proofs.lemmas.List.{map-append}
use Rattle.std.proofs.Math.Numerals.{add-one}
use Rattle.ice_defs.specs.declared.Node.{Node}
use Rattle.ice_defs.specs.declared.NodeKind.{NodeKind}
use Rattle.ice_defs.specs.declared.NodeKind.TheVariants.{Choose, Buy, Sell}
use Rattle.ice_defs.specs.Sum.{numbers_below}
use Rattle.ice_defs.specs.Tree.{kind_of, children_of}
use Rattle.ice_defs.specs.Set.{weight_of}
use Rattle.ice_defs.specs.Bounds.{no_bounds}
use Rattle.ice_defs.specs.Making.{is_value, is_lawful_kind, node_refusal}
use Rattle.ice_defs.specs.Lawful.{IsLimitedKind, IsLimitedTree, AreBounds}
use Rattle.ice_defs.specs.Exchange.{Bidder}
use Rattle.ice_defs.proofs.Integers.{int_le-true, int_lt-false}
use Rattle.ice_defs.proofs.Choices.{some_refused}
use Rattle.ice_journal.specs.Records.{Record}
use Rattle.ice_journal.specs.Nodes.{node_record}
use Rattle.ice_journal.specs.Records as line
use Rattle.ice_section.specs.Section.{OpenNode, parent_under, with_node, open_after}
use Rattle.ice_section.specs.Described.{bidder_records}
use Rattle.ice_section.proofs.NewNode.{with_last, at_last, before_last, length_grown, old_kind, last_kind, old_weight, last_weight, IsShaped, IsNodeValue, IsShaped-grown, none_yet}
use Rattle.ice_section.proofs.OpenNodes.{AreWaiting, AreClosed, IsLeafCount, place_of_next, opened_after, IsTree-closed}

-- ---- what is not refused

kind_lawful : (goods : ℕ) (kind : NodeKind) → is_lawful_kind goods kind ≡ true → IsLimitedKind goods kind
kind_lawful goods (Choose least most) e = tt
kind_lawful goods (Buy good units) e =
    let (fits, few) = and_parts _ _ e in
    let (there, some) = and_parts _ _ fits in
    (ltb-true good goods there, leb-true 1 units some, leb-true units 1000 few)
kind_lawful goods (Sell good units) e =
    let (fits, few) = and_parts _ _ e in
    let (there, some) = and_parts _ _ fits in
    (ltb-true good goods there, leb-true 1 units some, leb-true units 1000 few)

pub record IsNodeTaken (goods nodes depth : ℕ) (kind : NodeKind) (lo hi : ℤ) : Type 0 where
  pub room : nodes < 200
  pub shallow : depth ≤ 16
  pub is_lawful : IsLimitedKind goods kind
  pub value : IsNodeValue lo hi

pub node_taken : (goods nodes depth : ℕ) (kind : NodeKind) (lo hi : ℤ) → node_refusal goods nodes depth kind lo hi ≡ None → IsNodeTaken goods nodes depth kind lo hi
node_taken goods nodes depth kind lo hi e =
    let (room, e₁) = some_refused (leb 200 nodes) _ _ e in
    let (shallow, e₂) = some_refused (ltb 16 depth) _ _ e₁ in
    let (fits, e₃) = some_refused (not (is_lawful_kind goods kind && is_value lo && is_value hi)) _ _ e₂ in
    let (ordered, e₄) = some_refused (int_lt hi lo) _ _ e₃ in
    let (most, high) = and_parts _ _ (not-false _ fits) in
    let (kinds, low) = and_parts _ _ most in
    record {
      room = leb-false 200 nodes room;
      shallow = ltb-false 16 depth shallow;
      is_lawful = kind_lawful goods kind kinds;
      value = record {
        low = int_le-true _ _ (and_parts _ _ low).0;
        ordered = int_lt-false hi lo ordered;
        high = int_le-true _ _ (and_parts _ _ high).1;
      };
    }

-- ---- the records of a bidder so far

-- its record and those of its nodes, with the children that they state
abbrev pub drafted : Bidder → (ℕ → ℕ) → List Record
drafted b stated = line.bidder b.name b.own ∷ map (λ n. node_record (kind_of b.tree n) (stated n) (weight_of b.bounds.lo n) (weight_of b.bounds.hi n)) (numbers_below (length b.tree))

map-same : {X : Type 0} (f g : ℕ → X) (n : ℕ) → ((k : ℕ) → k < n → f k ≡ g k) → map f (numbers_below n) ≡ map g (numbers_below n)
map-same f g zero same = refl
map-same f g (suc n) same =
    map-append f (numbers_below n) (n ∷ [])
    ∙ ap (λ l. l ++ f n ∷ []) (map-same f g n (λ k h. same k (omega arith)))
    ∙ ap (λ x. map g (numbers_below n) ++ x ∷ []) (same n (omega arith))
    ∙ sym (map-append g (numbers_below n) (n ∷ []))

abbrev record_at : Bidder → (ℕ → ℕ) → ℕ → Record
record_at b stated n = node_record (kind_of b.tree n) (stated n) (weight_of b.bounds.lo n) (weight_of b.bounds.hi n)

same_record : (k l : NodeKind) (c d : ℕ) (lo low hi high : ℤ) → k ≡ l → c ≡ d → lo ≡ low → hi ≡ high → node_record k c lo hi ≡ node_record l d low high
same_record k l c d lo low hi high p q r s = ap (λ x. node_record x c lo hi) p ∙ ap (λ x. node_record l x lo hi) q ∙ ap (λ x. node_record l d x hi) r ∙ ap (λ x. node_record l d low x) s

pub drafted_more : (b : Bidder) (opened : List OpenNode) (stated : ℕ → ℕ) (kind : NodeKind) (children : ℕ) (lo hi : ℤ) → AreBounds (length b.tree) b.bounds
    → drafted (with_node b opened kind lo hi) (with_last (length b.tree) children stated) ≡ drafted b stated ++ node_record kind children lo hi ∷ []
drafted_more b opened stated kind children lo hi bounds =
    let x : Node = record { kind = kind; parent = parent_under opened } in
    let now = record_at (with_node b opened kind lo hi) (with_last (length b.tree) children stated) in
    ap (λ n. line.bidder b.name b.own ∷ map now (numbers_below n)) (length_grown b.tree x ∙ add-one (length b.tree))
    ∙ ap (λ l. line.bidder b.name b.own ∷ l) (
    map-append now (numbers_below (length b.tree)) (length b.tree ∷ [])
    ∙ ap (λ l. l ++ now (length b.tree) ∷ []) (map-same now (record_at b stated) (length b.tree) (λ k l.
    same_record _ _ _ _ _ _ _ _ (old_kind b.tree x k l) (before_last (length b.tree) children stated k l)
    (old_weight b.bounds.lo lo k (omega (arith, bounds.lo_count))) (old_weight b.bounds.hi hi k (omega (arith, bounds.hi_count)))))
    ∙ ap (λ r. map (record_at b stated) (numbers_below (length b.tree)) ++ r ∷ []) (
    same_record _ _ _ _ _ _ _ _ (last_kind b.tree x (length b.tree) refl) (at_last (length b.tree) children stated (length b.tree) refl)
    (last_weight b.bounds.lo lo (length b.tree) (sym bounds.lo_count)) (last_weight b.bounds.hi hi (length b.tree) (sym bounds.hi_count))))

-- a complete tree has the children that its records state
pub drafted_complete : (b : Bidder) (stated : ℕ → ℕ) → AreClosed b.tree stated [] → drafted b stated ≡ bidder_records b
drafted_complete b stated closed =
    ap (λ l. line.bidder b.name b.own ∷ l) (map-same (record_at b stated) (record_at b (λ n. length (children_of b.tree n))) (length b.tree) (λ k l.
    ap (λ c. node_record (kind_of b.tree k) c (weight_of b.bounds.lo k) (weight_of b.bounds.hi k)) (sym (closed k l tt).1)))

-- ---- the draft

pub record IsDraft (goods : ℕ) (b : Bidder) (opened : List OpenNode) (stated depth : ℕ → ℕ) : Type 0 where
  pub shaped : IsShaped goods b.tree b.bounds depth
  pub started : 0 < length b.tree → 0 < length opened
  pub waiting : AreWaiting b.tree 0 stated depth opened
  pub closed : AreClosed b.tree stated opened
  pub own_count : length b.own ≡ goods

-- a bidder with no node yet
pub IsDraft-begun : (goods : ℕ) (name own : List ℕ) (stated depth : ℕ → ℕ) → depth 0 ≡ 1 → length own ≡ goods → IsDraft goods (record { name = name; own = own; tree = []; bounds = no_bounds }) [] stated depth
IsDraft-begun goods name own stated depth root count = record {
  shaped = record {
    few = omega arith;
    root_parent = refl;
    parent_first = λ c l m. absurd (omega arith);
    preorder = λ c k l m. absurd (omega arith);
    depths = (root, λ n l m. absurd (omega arith));
    deep = λ n l. absurd (omega arith);
    kinds = λ n l. absurd (omega arith);
    values = record {
      lo_count = refl;
      hi_count = refl;
      low = λ n l. absurd (omega arith);
      ordered = λ n l. absurd (omega arith);
      high = λ n l. absurd (omega arith);
    };
  };
  started = λ l. absurd (omega arith);
  waiting = tt;
  closed = λ n l. absurd (omega arith);
  own_count = count;
}

-- one more node
pub record IsDraftGrown (goods : ℕ) (b : Bidder) (opened : List OpenNode) (stated depth : ℕ → ℕ) : Type 0 where
  pub shaped : IsShaped goods b.tree b.bounds depth
  pub some : 0 < length b.tree
  pub waiting : AreWaiting b.tree 0 stated depth opened
  pub closed : AreClosed b.tree stated opened
  pub own_count : length b.own ≡ goods

pub draft_grown : (goods : ℕ) (b : Bidder) (opened after : List OpenNode) (stated depth : ℕ → ℕ) (kind : NodeKind) (children : ℕ) (lo hi : ℤ)
    → IsDraft goods b opened stated depth → node_refusal goods (length b.tree) (suc (length opened)) kind lo hi ≡ None → IsLeafCount kind children
    → open_after kind (length b.tree) children opened ≡ Ok after
    → IsDraftGrown goods (with_node b opened kind lo hi) after (with_last (length b.tree) children stated) (with_last (length b.tree) (suc (length opened)) depth)
draft_grown goods b opened after stated depth kind children lo hi is taken leaf e =
    let x : Node = record { kind = kind; parent = parent_under opened } in
    let may = node_taken goods (length b.tree) (suc (length opened)) kind lo hi taken in
    let place = place_of_next goods b.tree b.bounds stated depth opened is.shaped is.started is.waiting in
    let none = none_yet goods b.tree b.bounds depth is.shaped (parent_under opened) (suc (length opened)) place kind lo hi in
    let (waiting, closed) = opened_after b.tree stated depth x children opened is.waiting is.closed is.started refl none leaf after e in
    record {
      shaped = IsShaped-grown goods b.tree b.bounds depth is.shaped (parent_under opened) (suc (length opened)) place kind lo hi may.room may.shallow may.is_lawful may.value;
      some = omega (arith, length_grown b.tree x);
      waiting = waiting;
      closed = closed;
      own_count = is.own_count;
    }

-- the tree is complete
pub limited_complete : (goods : ℕ) (b : Bidder) (stated depth : ℕ → ℕ) → IsDraftGrown goods b [] stated depth → IsLimitedTree goods b.tree
limited_complete goods b stated depth is = record {
  tree = IsTree-closed goods b.tree b.bounds stated depth is.shaped is.some is.closed;
  count = is.shaped.few;
  depth = (depth, is.shaped.depths, is.shaped.deep);
  kinds = is.shaped.kinds;
}
