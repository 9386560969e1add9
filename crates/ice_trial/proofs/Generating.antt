-- The true values of a generated exchange lie inside its bounds.
use Rattle.std.proofs.Common.{◌≡◌, ◌<◌, ℕ, zero, suc, List, [], ◌∷◌, length, map, ℤ, pos, ◌+ℤ◌, ◌-ℤ◌, ◌≤ℤ◌, refl, sym, ap, subst, arith}
use Rattle.std.proofs.lemmas.Int.{ints}
use Rattle.ice_defs.specs.Set.{weight_of}
use Rattle.ice_defs.specs.Bounds.{Bounds}
use Rattle.ice_defs.specs.Exchange.{Bidder, opening_bounds}
use Rattle.ice_defs.proofs.Multiples.{one_time}
use Rattle.ice_gen.specs.Generated.{Made, bounds_of_values, truth_of_values, made, generated_exchange, truths}
use Rattle.ice_trial.specs.Truths.{IsTruth, AreTruths}

-- values with how far below and above each the bounds are
module _ {V : Type 0} (truth : V → ℤ) (below above : V → ℕ) where
  counts : (vs : List V) → length (map truth vs) ≡ length (map (λ v. truth v -ℤ pos (below v)) vs)
  counts [] = refl
  counts (v ∷ vs) = omega (arith, counts vs)

  low_at : (vs : List V) (n : ℕ) → n < length (map truth vs) → weight_of (map (λ v. truth v -ℤ pos (below v)) vs) n ≤ℤ weight_of (map truth vs) n
  low_at [] n there = absurd (omega (arith, there))
  low_at (v ∷ vs) zero there = omega (arith, ints)
  low_at (v ∷ vs) (suc n) there = low_at vs n (omega (arith, there))

  high_at : (vs : List V) (n : ℕ) → n < length (map truth vs) → weight_of (map truth vs) n ≤ℤ weight_of (map (λ v. truth v +ℤ pos (above v)) vs) n
  high_at [] n there = absurd (omega (arith, there))
  high_at (v ∷ vs) zero there = omega (arith, ints)
  high_at (v ∷ vs) (suc n) there = high_at vs n (omega (arith, there))

  truth_is : (vs : List V) → IsTruth (record { lo = map (λ v. truth v -ℤ pos (below v)) vs; hi = map (λ v. truth v +ℤ pos (above v)) vs }) (record { lo = map truth vs; hi = map truth vs })
  truth_is vs = record {
    exact = refl;
    inside = record {
      same_length = counts vs;
      low = λ n h. let le = low_at vs n h in omega (arith, ints, le, one_time (weight_of (map (λ v. truth v -ℤ pos (below v)) vs) n));
      high = λ n h. let le = high_at vs n h in omega (arith, ints, le, one_time (weight_of (map (λ v. truth v +ℤ pos (above v)) vs) n));
    };
  }

truths_of : (ms : List Made) → AreTruths (map (λ (m : Made). bounds_of_values m.values) ms) (map (λ (m : Made). truth_of_values m.values) ms)
truths_of [] = tt
truths_of (m ∷ ms) = (truth_is (λ v. v.truth) (λ v. v.below) (λ v. v.above) m.values, truths_of ms)

bounds_are : (ms : List Made) → map (λ (b : Bidder). b.bounds) (map (λ (m : Made). record { name = m.name; own = m.own; tree = m.tree; bounds = bounds_of_values m.values }) ms) ≡ map (λ (m : Made). bounds_of_values m.values) ms
bounds_are [] = refl
bounds_are (m ∷ ms) = ap (λ (bs : List Bounds). bounds_of_values m.values ∷ bs) (bounds_are ms)

pub generated_truths : (number : ℕ) → AreTruths (opening_bounds (generated_exchange number)) (truths number)
generated_truths number = subst (λ (bs : List Bounds). AreTruths bs (truths number)) (sym (bounds_are (made number))) (truths_of (made number))
