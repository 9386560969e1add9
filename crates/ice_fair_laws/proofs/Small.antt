-- How large the violation of certified prices is.
use Rattle.std.proofs.Common.{ℕ, zero, suc, ◌*◌, ◌≡◌, List, [], ◌∷◌, ℤ, pos, ◌-ℤ◌, ◌*ℤ◌, ◌≤ℤ◌, arith, ap}
use Rattle.std.specs.Int.{int_max}
use Rattle.std.specs.List.{AllByRecursion}
use Rattle.std.proofs.lemmas.Int.{ints, clamps}
use Rattle.std.proofs.lemmas.List.Sums.{sum_by-cons}
use Rattle.std.proofs.Math.IntN.{*ℤ_comm, *ℤ-zero, pos-*ℤ-pos}
use Rattle.ice_defs.specs.Sum.{sum_below}
use Rattle.ice_defs.specs.Rows.{Row, weighted_sum, worth_above, units_above, demand}
use Rattle.ice_defs.proofs.Products.{times-le, times_add}
use Rattle.ice_defs.proofs.Multiples.{times_keep, times_cancel}
use Rattle.ice_row_laws.proofs.Weighted.{total_weight}
use Rattle.ice_fair_laws.specs.Whole.{CertifiedIsSmall}

sum-most : (f : Row → ℤ) (m : ℕ) (rows : List Row) → AllByRecursion (λ row. f row ≤ℤ pos m) rows → weighted_sum f rows ≤ℤ (pos m *ℤ pos (total_weight rows))
sum-most f m [] are = omega (arith, ints, *ℤ-zero (pos m))
sum-most f m (row ∷ rows) (is, are) =
    omega (
      arith,
      ints,
      times-le row.weight (f row) (pos m) is,
      sum-most f m rows are,
      *ℤ_comm (pos row.weight) (pos m),
      times_add (pos m) (pos row.weight) (pos (total_weight rows)),
      ap (λ k. pos m *ℤ pos k) (sum_by-cons (λ (r : Row). r.weight) row rows),
    )

lows : (f : ℕ → ℤ) (k : ℕ) → pos 0 ≤ℤ sum_below (λ g. int_max (f g) (pos 0)) k
lows f zero = omega (arith, ints)
lows f (suc k) = omega (arith, ints, clamps, lows f k)

pub certified_is_small : CertifiedIsSmall
certified_is_small ts ws sets goods cap p v c m some passes each =
    let worth : ℤ = weighted_sum (worth_above ts ws sets) c.rows in
    let all : ℤ = demand ts ws sets goods c.rows in
    let paid : pos 0 ≤ℤ (cap *ℤ all) = (let h = times_keep cap (pos 0) all some (lows (λ g. weighted_sum (units_above ts ws sets g) c.rows) goods) in omega (arith, ints, h, *ℤ-zero cap)) in
    let most = sum-most (worth_above ts ws sets) m c.rows each in
    let kept = times-le m (pos (total_weight c.rows)) (pos c.den) (let w = passes.weights in omega (arith, ints, w)) in
    let scaled = times-le p.den (worth -ℤ (pos 100 *ℤ (cap *ℤ all))) (pos m *ℤ pos c.den) (omega (arith, ints, most, kept, paid)) in
    times_cancel c.den v (pos (p.den * m)) passes.proper
    (omega (arith, ints, scaled, passes.equal, *ℤ_comm (pos c.den) v, ap (λ z. z *ℤ pos c.den) (pos-*ℤ-pos p.den m), turned p.den m c.den))
  where
    turned : (n m d : ℕ) → pos n *ℤ (pos m *ℤ pos d) ≡ pos d *ℤ pos (n * m)
    turned n m d = omega (arith, ints, pos-*ℤ-pos m d, pos-*ℤ-pos n (m * d), pos-*ℤ-pos d (n * m))
