-- A proposal holds the truth and lies inside the old bounds.
use Rattle.std.proofs.Common.{ℕ, zero, suc, ◌^◌, ◌/◌, ◌<◌, ◌≤◌, ◌≡◌, true, None, List, [], ◌∷◌, length, ℤ, pos, negsuc, ◌+ℤ◌, ◌-ℤ◌, ◌≤ℤ◌, ◌<ℤ◌, refl, sym, ap, arith, ◌∙◌, ◌⊎◌, inl, inr}
use Rattle.std.proofs.lemmas.Int.{ints}
use Rattle.std.proofs.Math.Nat.{div-le_self, div-eq_of_lt, div-one}
use Rattle.std.proofs.Math.Pow.{pow_mono}
use Rattle.std.specs.List.{list_all}
use Rattle.ice_defs.specs.Making.{is_value}
use Rattle.ice_tree.specs.Bounds.{bounds_refusal}
use Rattle.ice_rules.proofs.Unrefused.{unrefused}
use Rattle.ice_defs.specs.Set.{weight_of}
use Rattle.ice_defs.specs.Bounds.{Bounds, IsInside}
use Rattle.ice_defs.specs.Judging.{IsNarrowed}
use Rattle.ice_defs.specs.Lawful.{AreBounds}
use Rattle.ice_defs.proofs.Multiples.{one_time}
use Rattle.ice_defs.proofs.Values.{all_values}
use Rattle.ice_proxy.specs.Proposals.{width_after_halvings, proposed_lo, proposed_hi, proposal}
use Rattle.ice_proxy.specs.Laws.{ProposalIsAround, FirstProposalIsOld, LateProposalIsTruth}

-- ---- a halved width

pub halved_low : (a : ℕ) (w : ℤ) → pos 0 ≤ℤ width_after_halvings a w
halved_low a w = omega (arith, ints)

pub halved_high : (a : ℕ) (w : ℤ) → pos 0 ≤ℤ w → width_after_halvings a w ≤ℤ w
halved_high a (pos n) h = let le : n / 2 ^ a ≤ n = div-le_self n (2 ^ a) in omega (arith, ints)
halved_high a (negsuc n) h = absurd (omega (arith, ints, h))

pub halved_none : (a : ℕ) (w : ℤ) → pos 0 ≤ℤ w → w ≤ℤ pos 2000000000 → 31 ≤ a → width_after_halvings a w ≡ pos 0
halved_none a (pos n) low high late =
    let whole : 2 ^ 31 ≤ 2 ^ a = pow_mono late in
    let less : n < 2 ^ a = omega (arith, ints, high, whole) in
    ap pos (div-eq_of_lt less)
halved_none a (negsuc n) low high late = absurd (omega (arith, ints, low))

pub halved_first : (w : ℤ) → pos 0 ≤ℤ w → width_after_halvings 0 w ≡ w
halved_first (pos n) low = ap pos (div-one n)
halved_first (negsuc n) low = absurd (omega (arith, ints, low))

-- ---- a list of them

pub length-proposed_lo : (a : ℕ) (los truth : List ℤ) → length truth ≡ length los → length (proposed_lo a los truth) ≡ length los
length-proposed_lo a [] truth same = refl
length-proposed_lo a (lo ∷ los) [] same = absurd (omega (arith, same))
length-proposed_lo a (lo ∷ los) (t ∷ truth) same = omega (arith, length-proposed_lo a los truth (omega (arith, same)))

pub length-proposed_hi : (a : ℕ) (his truth : List ℤ) → length truth ≡ length his → length (proposed_hi a his truth) ≡ length his
length-proposed_hi a [] truth same = refl
length-proposed_hi a (hi ∷ his) [] same = absurd (omega (arith, same))
length-proposed_hi a (hi ∷ his) (t ∷ truth) same = omega (arith, length-proposed_hi a his truth (omega (arith, same)))

pub weight_of-proposed_lo : (a : ℕ) (los truth : List ℤ) (n : ℕ) → length truth ≡ length los → n < length los
    → weight_of (proposed_lo a los truth) n ≡ weight_of truth n -ℤ width_after_halvings a (weight_of truth n -ℤ weight_of los n)
weight_of-proposed_lo a [] truth n same h = absurd (omega (arith, h))
weight_of-proposed_lo a (lo ∷ los) [] n same h = absurd (omega (arith, same))
weight_of-proposed_lo a (lo ∷ los) (t ∷ truth) zero same h = refl
weight_of-proposed_lo a (lo ∷ los) (t ∷ truth) (suc n) same h = weight_of-proposed_lo a los truth n (omega (arith, same)) (omega (arith, h))

pub weight_of-proposed_hi : (a : ℕ) (his truth : List ℤ) (n : ℕ) → length truth ≡ length his → n < length his
    → weight_of (proposed_hi a his truth) n ≡ weight_of truth n +ℤ width_after_halvings a (weight_of his n -ℤ weight_of truth n)
weight_of-proposed_hi a [] truth n same h = absurd (omega (arith, h))
weight_of-proposed_hi a (hi ∷ his) [] n same h = absurd (omega (arith, same))
weight_of-proposed_hi a (hi ∷ his) (t ∷ truth) zero same h = refl
weight_of-proposed_hi a (hi ∷ his) (t ∷ truth) (suc n) same h = weight_of-proposed_hi a his truth n (omega (arith, same)) (omega (arith, h))

-- ---- around the truth

module _ (nodes : ℕ) (old : Bounds) (truth : List ℤ) (a : ℕ) (are : AreBounds nodes old) (inside : IsInside 1 old truth) where
  truth_count : length truth ≡ nodes
  truth_count = inside.same_length ∙ are.lo_count

  lo_same : length truth ≡ length old.lo
  lo_same = inside.same_length

  hi_same : length truth ≡ length old.hi
  hi_same = truth_count ∙ sym are.hi_count

  pub lo_nodes : length (proposal old truth a).lo ≡ nodes
  lo_nodes = length-proposed_lo a old.lo truth lo_same ∙ are.lo_count

  pub hi_nodes : length (proposal old truth a).hi ≡ nodes
  hi_nodes = length-proposed_hi a old.hi truth hi_same ∙ are.hi_count

  -- the old value, the new one and the truth
  below : (n : ℕ) → n < nodes → (weight_of old.lo n ≤ℤ weight_of (proposal old truth a).lo n) × (weight_of (proposal old truth a).lo n ≤ℤ weight_of truth n)
  below n h =
      let t : n < length truth = omega (arith, truth_count, h) in
      let l : n < length old.lo = omega (arith, are.lo_count, h) in
      let e = weight_of-proposed_lo a old.lo truth n lo_same l in
      let low = halved_low a (weight_of truth n -ℤ weight_of old.lo n) in
      let width : pos 0 ≤ℤ (weight_of truth n -ℤ weight_of old.lo n) = omega (arith, ints, inside.low n t, one_time (weight_of old.lo n)) in
      let high = halved_high a (weight_of truth n -ℤ weight_of old.lo n) width in
      (omega (arith, ints, e, high), omega (arith, ints, e, low))

  above : (n : ℕ) → n < nodes → (weight_of truth n ≤ℤ weight_of (proposal old truth a).hi n) × (weight_of (proposal old truth a).hi n ≤ℤ weight_of old.hi n)
  above n h =
      let t : n < length truth = omega (arith, truth_count, h) in
      let l : n < length old.hi = omega (arith, are.hi_count, h) in
      let e = weight_of-proposed_hi a old.hi truth n hi_same l in
      let low = halved_low a (weight_of old.hi n -ℤ weight_of truth n) in
      let width : pos 0 ≤ℤ (weight_of old.hi n -ℤ weight_of truth n) = omega (arith, ints, inside.high n t, one_time (weight_of old.hi n)) in
      let high = halved_high a (weight_of old.hi n -ℤ weight_of truth n) width in
      (omega (arith, ints, e, low), omega (arith, ints, e, high))

  pub proposed_bounds : AreBounds nodes (proposal old truth a)
  proposed_bounds = record {
    lo_count = lo_nodes;
    hi_count = hi_nodes;
    low = λ n h. omega (arith, ints, (below n h).0, are.low n h);
    ordered = λ n h. omega (arith, ints, (below n h).1, (above n h).0);
    high = λ n h. omega (arith, ints, (above n h).1, are.high n h);
  }

  pub proposed_inside : IsInside 1 (proposal old truth a) truth
  proposed_inside = record {
    same_length = truth_count ∙ sym lo_nodes;
    low = λ n h. let l : n < nodes = omega (arith, truth_count, h) in omega (arith, ints, (below n l).1, one_time (weight_of (proposal old truth a).lo n));
    high = λ n h. let l : n < nodes = omega (arith, truth_count, h) in omega (arith, ints, (above n l).0, one_time (weight_of (proposal old truth a).hi n));
  }

  pub proposed_narrowed : IsNarrowed old (proposal old truth a)
  proposed_narrowed = record {
    uncrossed = λ n (h, less). let l : n < nodes = omega (arith, lo_nodes, h) in omega (arith, ints, less, (below n l).1, (above n l).0);
    tight = λ n (h, ends). tight n (omega (arith, lo_nodes, h)) ends;
  }
    where
      tight : (n : ℕ) → n < nodes → (weight_of (proposal old truth a).lo n <ℤ weight_of old.lo n) ⊎ (weight_of old.hi n <ℤ weight_of (proposal old truth a).hi n) → ⊥
      tight n l (inl less) = omega (arith, ints, less, (below n l).0)
      tight n l (inr less) = omega (arith, ints, less, (above n l).1)

pub proposal_is_around : ProposalIsAround
proposal_is_around nodes old truth attempt are inside = record {
  bounds = proposed_bounds nodes old truth attempt are inside;
  holds = proposed_inside nodes old truth attempt are inside;
  narrowed = proposed_narrowed nodes old truth attempt are inside;
}

-- ---- the first attempt, and the late ones

-- what is said of each value is said of the list
pub same_lists : (xs ys : List ℤ) → length xs ≡ length ys → ((n : ℕ) → n < length xs → weight_of xs n ≡ weight_of ys n) → xs ≡ ys
same_lists [] [] same each = refl
same_lists [] (y ∷ ys) same each = absurd (omega (arith, same))
same_lists (x ∷ xs) [] same each = absurd (omega (arith, same))
same_lists (x ∷ xs) (y ∷ ys) same each =
    let first : x ≡ y = each 0 (omega arith) in
    let rest : xs ≡ ys = same_lists xs ys (omega (arith, same)) (λ n h. each (suc n) (omega (arith, h))) in
    cc

pub both_same : (one other : Bounds) → one.lo ≡ other.lo → one.hi ≡ other.hi → one ≡ other
both_same one other lo hi = ap (λ (l : List ℤ). let b : Bounds = record { lo = l; hi = one.hi } in b) lo ∙ ap (λ (h : List ℤ). let b : Bounds = record { lo = other.lo; hi = h } in b) hi

pub first_proposal_is_old : FirstProposalIsOld
first_proposal_is_old nodes old truth are inside =
    both_same (proposal old truth 0) old
    (same_lists (proposed_lo 0 old.lo truth) old.lo (length-proposed_lo 0 old.lo truth inside.same_length) lo)
    (same_lists (proposed_hi 0 old.hi truth) old.hi (length-proposed_hi 0 old.hi truth (hi_same nodes old truth 0 are inside)) hi)
  where
    lo : (n : ℕ) → n < length (proposed_lo 0 old.lo truth) → weight_of (proposed_lo 0 old.lo truth) n ≡ weight_of old.lo n
    lo n h =
        let l : n < length old.lo = omega (arith, length-proposed_lo 0 old.lo truth inside.same_length, h) in
        let width : pos 0 ≤ℤ (weight_of truth n -ℤ weight_of old.lo n) = omega (arith, ints, inside.low n (omega (arith, inside.same_length, l)), one_time (weight_of old.lo n)) in
        omega (arith, ints, weight_of-proposed_lo 0 old.lo truth n inside.same_length l, halved_first (weight_of truth n -ℤ weight_of old.lo n) width)

    hi : (n : ℕ) → n < length (proposed_hi 0 old.hi truth) → weight_of (proposed_hi 0 old.hi truth) n ≡ weight_of old.hi n
    hi n h =
        let same : length truth ≡ length old.hi = hi_same nodes old truth 0 are inside in
        let l : n < length old.hi = omega (arith, length-proposed_hi 0 old.hi truth same, h) in
        let width : pos 0 ≤ℤ (weight_of old.hi n -ℤ weight_of truth n) = omega (arith, ints, inside.high n (omega (arith, same, l)), one_time (weight_of old.hi n)) in
        omega (arith, ints, weight_of-proposed_hi 0 old.hi truth n same l, halved_first (weight_of old.hi n -ℤ weight_of truth n) width)

pub late_proposal_is_truth : LateProposalIsTruth
late_proposal_is_truth nodes old truth a are inside late =
    both_same (proposal old truth a) (record { lo = truth; hi = truth })
    (same_lists (proposed_lo a old.lo truth) truth (length-proposed_lo a old.lo truth inside.same_length ∙ sym inside.same_length) lo)
    (same_lists (proposed_hi a old.hi truth) truth (length-proposed_hi a old.hi truth hi_count ∙ sym hi_count) hi)
  where
    hi_count : length truth ≡ length old.hi
    hi_count = hi_same nodes old truth a are inside

    width : (n : ℕ) → n < nodes
        → (pos 0 ≤ℤ (weight_of truth n -ℤ weight_of old.lo n)) × ((weight_of truth n -ℤ weight_of old.lo n) ≤ℤ pos 2000000000)
        × (pos 0 ≤ℤ (weight_of old.hi n -ℤ weight_of truth n)) × ((weight_of old.hi n -ℤ weight_of truth n) ≤ℤ pos 2000000000)
    width n h =
        let t : n < length truth = omega (arith, truth_count nodes old truth a are inside, h) in
        let low : weight_of old.lo n ≤ℤ weight_of truth n = omega (arith, ints, inside.low n t, one_time (weight_of old.lo n)) in
        let high : weight_of truth n ≤ℤ weight_of old.hi n = omega (arith, ints, inside.high n t, one_time (weight_of old.hi n)) in
        let least = are.low n h in
        let most = are.high n h in
        (omega (arith, ints), omega (arith, ints), omega (arith, ints), omega (arith, ints))

    lo : (n : ℕ) → n < length (proposed_lo a old.lo truth) → weight_of (proposed_lo a old.lo truth) n ≡ weight_of truth n
    lo n h =
        let l : n < length old.lo = omega (arith, length-proposed_lo a old.lo truth inside.same_length, h) in
        let w = width n (omega (arith, are.lo_count, l)) in
        omega (arith, ints, weight_of-proposed_lo a old.lo truth n inside.same_length l, halved_none a (weight_of truth n -ℤ weight_of old.lo n) w.0 w.1 late)

    hi : (n : ℕ) → n < length (proposed_hi a old.hi truth) → weight_of (proposed_hi a old.hi truth) n ≡ weight_of truth n
    hi n h =
        let l : n < length old.hi = omega (arith, length-proposed_hi a old.hi truth hi_count, h) in
        let w = width n (omega (arith, are.hi_count, l)) in
        omega (arith, ints, weight_of-proposed_hi a old.hi truth n hi_count l, halved_none a (weight_of old.hi n -ℤ weight_of truth n) w.2 w.3 late)

-- ---- no tree refuses them

pub lower_are_values : (nodes : ℕ) (b : Bounds) → AreBounds nodes b → list_all is_value b.lo ≡ true
lower_are_values nodes b are =
    all_values b.lo (λ n h. are.low n (omega (arith, are.lo_count, h))) (λ n h. let l : n < nodes = omega (arith, are.lo_count, h) in omega (arith, ints, are.ordered n l, are.high n l))

pub upper_are_values : (nodes : ℕ) (b : Bounds) → AreBounds nodes b → list_all is_value b.hi ≡ true
upper_are_values nodes b are =
    all_values b.hi (λ n h. let l : n < nodes = omega (arith, are.hi_count, h) in omega (arith, ints, are.ordered n l, are.low n l)) (λ n h. are.high n (omega (arith, are.hi_count, h)))

pub proposal_unrefused : (nodes : ℕ) (old : Bounds) (truth : List ℤ) (a : ℕ) → AreBounds nodes old → IsInside 1 old truth → bounds_refusal nodes (proposed_lo a old.lo truth) (proposed_hi a old.hi truth) ≡ None
proposal_unrefused nodes old truth a are inside =
    let new : AreBounds nodes (proposal old truth a) = proposed_bounds nodes old truth a are inside in
    unrefused nodes (proposed_lo a old.lo truth) (proposed_hi a old.hi truth) new.lo_count new.hi_count (lower_are_values nodes (proposal old truth a) new) (upper_are_values nodes (proposal old truth a) new)
    (proposed_narrowed nodes old truth a are inside).uncrossed
