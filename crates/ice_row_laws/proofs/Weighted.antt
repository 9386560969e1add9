-- Weighted sums of rows.
use Rattle.std.proofs.Common.{ℕ, ◌≡◌, List, [], ◌∷◌, ◌++◌, sum_by, ℤ, pos, ◌+ℤ◌, ◌-ℤ◌, ◌*ℤ◌, refl, arith, ap}
use Rattle.std.proofs.lemmas.Int.{ints}
use Rattle.std.proofs.lemmas.List.Sums.{sum_by-cons}
use Rattle.std.proofs.Math.IntN.{*ℤ-zero, *ℤ_comm}
use Rattle.ice_defs.specs.Rows.{Row, weighted_sum}
use Rattle.ice_defs.proofs.Products.{times_add}
use Rattle.ice_defs.proofs.Multiples.{times_less, times_swap}

-- what the rows weigh
abbrev pub total_weight : List Row → ℕ
total_weight rows = sum_by (λ row. row.weight) rows

-- a part for each weight
pub times_weight-cons : (x : ℤ) (row : Row) (rows : List Row) → x *ℤ pos (total_weight (row ∷ rows)) ≡ (pos row.weight *ℤ x) +ℤ (x *ℤ pos (total_weight rows))
times_weight-cons x row rows =
    let all : x *ℤ pos (total_weight (row ∷ rows)) ≡ x *ℤ (pos row.weight +ℤ pos (total_weight rows)) =
    ap (λ k. x *ℤ pos k) (sum_by-cons (λ (r : Row). r.weight) row rows) in
    omega (arith, ints, all, times_add x (pos row.weight) (pos (total_weight rows)), *ℤ_comm x (pos row.weight))

-- a multiple and a part for each weight leave the sum
pub weighted_sum-less : (f : Row → ℤ) (n : ℕ) (x : ℤ) (rows : List Row)
    → weighted_sum (λ row. (pos n *ℤ f row) -ℤ x) rows ≡ (pos n *ℤ weighted_sum f rows) -ℤ (x *ℤ pos (total_weight rows))
weighted_sum-less f n x [] = omega (arith, ints, *ℤ-zero (pos n), *ℤ-zero x)
weighted_sum-less f n x (row ∷ rows) =
    omega (
      arith,
      ints,
      weighted_sum-less f n x rows,
      times_weight-cons x row rows,
      times_less (pos row.weight) (pos n *ℤ f row) x,
      times_swap row.weight (pos n) (f row),
      times_add (pos n) (pos row.weight *ℤ f row) (weighted_sum f rows),
    )

-- ones
pub weighted_sum-ones : (rows : List Row) → weighted_sum (λ row. pos 1) rows ≡ pos (total_weight rows)
weighted_sum-ones [] = refl
weighted_sum-ones (row ∷ rows) = omega (arith, ints, weighted_sum-ones rows, sum_by-cons (λ (r : Row). r.weight) row rows)

-- one row more
pub weighted_sum-push : (f : Row → ℤ) (rows : List Row) (row : Row) → weighted_sum f (rows ++ row ∷ []) ≡ weighted_sum f rows +ℤ (pos row.weight *ℤ f row)
weighted_sum-push f [] row = omega (arith, ints)
weighted_sum-push f (first ∷ rows) row = omega (arith, ints, weighted_sum-push f rows row)
