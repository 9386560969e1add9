-- What passes the tests of prices is in the ranges of their record.
use Rattle.std.proofs.Common.{◌^◌, Bool, ◌&&◌, List, [], ◌∷◌, ℤ, pos, IsTrue, arith}
use Rattle.std.specs.Prelude.{int_le}
use Rattle.std.specs.List.{list_all, AllByRecursion}
use Rattle.std.proofs.lemmas.Bool.{and_parts}
use Rattle.std.proofs.lemmas.Int.{ints}
use Rattle.ice_defs.specs.Exchange.{IsBetween}
use Rattle.ice_defs.specs.Prices.{Prices}
use Rattle.ice_terms.specs.Terms.{ArePriceTerms, is_numerator}
use Rattle.ice_journal.specs.Ranges.{ArePricesRecord}

-- a number that passes a test of both its limits is between them
pub between : (low high z : ℤ) → IsTrue (int_le low z && int_le z high) → IsBetween low high z
between low high z is =
    let both = and_parts (int_le low z) (int_le z high) is in
    (grind (arith, ints, both.0), grind (arith, ints, both.1))

-- what each that passes a test is, all that pass it are
pub all_tested : (test : ℤ → Bool) (P : ℤ → Type 0) (zs : List ℤ) → ((z : ℤ) → IsTrue (test z) → P z) → IsTrue (list_all test zs) → AllByRecursion P zs
all_tested test P [] each is = tt
all_tested test P (z ∷ zs) each is =
    let both = and_parts (test z) (list_all test zs) is in
    (each z both.0, all_tested test P zs each both.1)

pub prices_are : (p : Prices) → ArePriceTerms p → ArePricesRecord p
prices_are p is = record { den = is.den; count = is.count; each = all_tested is_numerator (IsBetween (pos 0) (pos (2 ^ 62))) p.nums (λ z h. between (pos 0) (pos (2 ^ 62)) z h) is.each }
