-- How much the rows of a limited certificate weigh, and that limits
-- of fair certificates are stricter than those of prices.
use Rattle.std.proofs.Common.{ℕ, ◌≡◌, ◌≤◌, ◌*◌, ◌^◌, List, [], ◌∷◌, length, sum_by, ℤ, arith}
use Rattle.std.specs.List.{AllByRecursion}
use Rattle.std.proofs.lemmas.Int.{ints}
use Rattle.std.proofs.lemmas.List.Sums.{sum_by-cons}
use Rattle.ice_defs.specs.Rows.{Row, Certificate}
use Rattle.ice_row_laws.specs.Sums.{RowSums, AreSums}
use Rattle.ice_row_laws.specs.Sizes.{IsSizedWithin}
use Rattle.ice_pricing.specs.Priced.{IsLimited}
use Rattle.ice_pricing.specs.Provisional.{ProvisionalTrade}
use Rattle.ice_fair_stage.specs.Certified.{IsFairLimited}
use Rattle.ice_fair.specs.Tested.{numbers_of}

total-most : (rows : List Row) → AllByRecursion (λ row. row.weight ≤ 2 ^ 24) rows → sum_by (λ row. row.weight) rows ≤ length rows * 2 ^ 24
total-most [] fits = omega arith
total-most (row ∷ rows) (fit, fits) = omega (arith, sum_by-cons (λ (r : Row). r.weight) row rows, total-most rows fits, fit)

-- weights within the limit of fair certificates are within that of prices
pub wider : (rows : List Row) → AllByRecursion (λ row. row.weight ≤ 2 ^ 24) rows → AllByRecursion (λ row. row.weight ≤ 2 ^ 32) rows
wider [] fits = tt
wider (row ∷ rows) (fit, fits) = (omega (arith, fit), wider rows fits)

pub limited-so : (bidders : ℕ) (c : Certificate) (low high : List ℕ) → IsFairLimited bidders (numbers_of c low high) → IsLimited c
limited-so bidders c low high is = let den = is.den_fits in record { positive = is.positive; den_fits = omega (arith, den); few = is.few; weights_fit = wider c.rows is.weights_fit }

pub worth-most : (t : ProvisionalTrade) (bidders : ℕ) (c : Certificate) (low high : List ℕ) (s : RowSums) (worth : ℤ) → IsFairLimited bidders (numbers_of c low high)
    → AreSums t.trees t.weights t.sets t.goods c.rows s → worth ≡ s.worth → IsSizedWithin (s.weight * 2 ^ 49) worth → IsSizedWithin (2 ^ 81) s.worth
worth-most t bidders c low high s worth is are same sized =
    let most : s.weight ≤ 200 * 2 ^ 24 = omega (arith, are.weight, total-most c.rows is.weights_fit, is.few) in
    let a = sized.low in let b = sized.high in
    record { low = omega (arith, ints, same, a, most); high = omega (arith, ints, same, b, most) }
