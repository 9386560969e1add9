-- What units cost at prices: sums, multiples, and a bound by the greatest price.
use Rattle.std.proofs.Common.{ℕ, ◌<◌, ◌≡◌, length, ℤ, pos, ◌+ℤ◌, ◌-ℤ◌, ◌*ℤ◌, ◌≤ℤ◌, arith, ◌∙◌}
use Rattle.std.specs.Int.{int_max}
use Rattle.std.proofs.lemmas.Int.{ints, clamps}
use Rattle.std.proofs.Math.IntN.{*ℤ-zero, *ℤ_comm}
use Rattle.ice_defs.specs.Sum.{sum_below}
use Rattle.ice_defs.specs.Prices.{Prices, price_of, cost_of}
use Rattle.ice_defs.proofs.Sums.{sum_below-same, sum_below-le, sum_below-add, sum_below-zero}
use Rattle.ice_defs.proofs.Products.{times_add, sum_below-times}
use Rattle.ice_defs.proofs.Multiples.{times_less, times_swap, times_keep}

-- of what is wanted at most t is paid for each unit
part-le : (a t u : ℤ) → pos 0 ≤ℤ a → a ≤ℤ t → (a *ℤ u) ≤ℤ (t *ℤ int_max u (pos 0))
part-le a t u some most =
    let above : u ≤ℤ int_max u (pos 0) = omega (arith, ints, clamps) in
    let none : pos 0 ≤ℤ int_max u (pos 0) = omega (arith, ints, clamps) in
    omega (
      arith,
      ints,
      times_keep a u (int_max u (pos 0)) some above,
      times_keep (int_max u (pos 0)) a t none most,
      *ℤ_comm (int_max u (pos 0)) a,
      *ℤ_comm (int_max u (pos 0)) t,
    )

module _ (q : Prices) where
  pub cost_of-zero : cost_of q (λ _. pos 0) ≡ pos 0
  cost_of-zero = sum_below-zero _ (length q.nums) (λ g h. *ℤ-zero (price_of q g))

  pub cost_of-add : (u v : ℕ → ℤ) → cost_of q (λ g. u g +ℤ v g) ≡ cost_of q u +ℤ cost_of q v
  cost_of-add u v =
      sum_below-same _ (λ g. (price_of q g *ℤ u g) +ℤ (price_of q g *ℤ v g)) (length q.nums) (λ g h. times_add (price_of q g) (u g) (v g))
      ∙ sum_below-add (λ g. price_of q g *ℤ u g) (λ g. price_of q g *ℤ v g) (length q.nums)

  pub cost_of-less : (u v : ℕ → ℤ) → cost_of q (λ g. u g -ℤ v g) ≡ cost_of q u -ℤ cost_of q v
  cost_of-less u v =
      let rest : ℕ → ℤ = λ g. price_of q g *ℤ (u g -ℤ v g) in
      let own : ℕ → ℤ = λ g. price_of q g *ℤ v g in
      let each = sum_below-same (λ g. rest g +ℤ own g) (λ g. price_of q g *ℤ u g) (length q.nums) (λ g h. omega (arith, ints, times_less (price_of q g) (u g) (v g))) in
      omega (arith, ints, each, sum_below-add rest own (length q.nums))

  pub cost_of-times : (k : ℕ) (u : ℕ → ℤ) → cost_of q (λ g. pos k *ℤ u g) ≡ pos k *ℤ cost_of q u
  cost_of-times k u =
      sum_below-same _ (λ g. pos k *ℤ (price_of q g *ℤ u g)) (length q.nums) (λ g h. times_swap k (price_of q g) (u g))
      ∙ sum_below-times (pos k) (λ g. price_of q g *ℤ u g) (length q.nums)

  -- at prices from 0 to t, units cost at most t times those above 0
  pub cost_of-le : (t : ℤ) (u : ℕ → ℤ) → ((g : ℕ) → g < length q.nums → pos 0 ≤ℤ price_of q g) → ((g : ℕ) → g < length q.nums → price_of q g ≤ℤ t)
      → cost_of q u ≤ℤ (t *ℤ sum_below (λ g. int_max (u g) (pos 0)) (length q.nums))
  cost_of-le t u low high =
      let each = sum_below-le (λ g. price_of q g *ℤ u g) (λ g. t *ℤ int_max (u g) (pos 0)) (length q.nums) (λ g h. part-le (price_of q g) t (u g) (low g h) (high g h)) in
      omega (arith, ints, each, sum_below-times t (λ g. int_max (u g) (pos 0)) (length q.nums))
