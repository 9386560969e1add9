-- The bids of true values.
use Rattle.std.proofs.Common.{◌≡◌, ◌<◌, ◌≤◌, ◌+◌, ◌∙◌, ℕ, zero, suc, List, [], ◌∷◌, ◌++◌, length, take, get_or, refl, sym, ap, arith}
use Rattle.std.proofs.lemmas.Int.{ints}
use Rattle.std.proofs.lemmas.List.{take_more}
use Rattle.ice_defs.specs.Bounds.{Bounds, bounds_of}
use Rattle.ice_defs.specs.Round.{Submission}
use Rattle.ice_defs.specs.Lawful.{AreBounds}
use Rattle.ice_defs.proofs.Values.{all_values}
use Rattle.ice_terms.specs.Bids.{AreValues}
use Rattle.ice_trial.specs.Truths.{truth_bids}

-- ---- values

-- lower values of at most 200 nodes
pub lower_are_values : (bounds : Bounds) → AreBounds (length bounds.lo) bounds → length bounds.lo ≤ 200 → AreValues bounds.lo
lower_are_values bounds are few = record {
  few = few;
  each = all_values bounds.lo are.low (λ n h. let a = are.ordered n h in let b = are.high n h in omega (arith, ints, a, b));
}

-- ---- bids

pub bids_count : (names : List (List ℕ)) (truths : List Bounds) → length truths ≡ length names → length (truth_bids names truths) ≡ length names
bids_count [] truths same = refl
bids_count (name ∷ names) [] same = absurd (omega (arith, same))
bids_count (name ∷ names) (t ∷ truths) same = omega (arith, bids_count names truths (omega (arith, same)))

abbrev bid_at : List (List ℕ) → List Bounds → ℕ → Submission
bid_at names truths n = record { name = get_or names n []; lo = (bounds_of truths n).lo; hi = (bounds_of truths n).hi }

bid_is : (names : List (List ℕ)) (truths : List Bounds) (n : ℕ) (d : Submission) → length truths ≡ length names → n < length names → get_or (truth_bids names truths) n d ≡ bid_at names truths n
bid_is [] truths n d same there = absurd (omega (arith, there))
bid_is (name ∷ names) [] n d same there = absurd (omega (arith, same))
bid_is (name ∷ names) (t ∷ truths) zero d same there = refl
bid_is (name ∷ names) (t ∷ truths) (suc n) d same there = bid_is names truths n d (omega (arith, same)) (omega (arith, there))

-- one bid more
pub one_bid_more : (names : List (List ℕ)) (truths : List Bounds) (n : ℕ) (bids : List Submission) → length truths ≡ length names → n < length names → bids ≡ take n (truth_bids names truths)
    → bids ++ bid_at names truths n ∷ [] ≡ take (n + 1) (truth_bids names truths)
one_bid_more names truths n bids same there e =
    ap (λ (bs : List Submission). bs ++ bid_at names truths n ∷ []) e
    ∙ ap (λ (b : Submission). take n (truth_bids names truths) ++ b ∷ []) (sym (bid_is names truths n (bid_at names truths n) same there))
    ∙ sym (take_more (truth_bids names truths) n (bid_at names truths n) (omega (arith, bids_count names truths same, there)))
