-- What numbers of a certificate weigh of payments.
use Rattle.std.proofs.Common.{ℕ, ◌≡◌, ◌≤◌, ◌+◌, ◌*◌, ◌^◌, List, [], length, sum_by, ℤ, ◌*ℤ◌, arith, sym, subst}
use Rattle.std.proofs.lemmas.Int.{ints}
use Rattle.ice_row_laws.specs.Sizes.{IsSizedWithin}
use Rattle.ice_pricing.specs.Provisional.{ProvisionalTrade}
use Rattle.ice_fair_laws.specs.Fair.{FairCertificate}
use Rattle.ice_fair_laws.specs.Whole.{held_sum}
use Rattle.ice_fair_laws.proofs.Wholes.{held_is_sized}
use Rattle.ice_defs.specs.Sum.{sum_below}
use Rattle.ice_fair.specs.Trades.{num_at, paid_by, paid_sum, held_by, AreNumbers}

-- both lists of numbers with no rows
abbrev numbers_alone : List ℕ → List ℕ → FairCertificate
numbers_alone low high = record { den = 0; low = low; high = high; rows = [] }

-- numbers of at most 2^24 in all weigh at most so many times the greatest payment
pub paid-within : (t : ProvisionalTrade) (cut : ℕ) (nums : List ℤ) (low high : List ℕ) → AreNumbers t cut nums → length low ≡ length t.trees → length high ≡ length t.trees
    → sum_by (λ n. n) low + sum_by (λ n. n) high ≤ 2 ^ 24 → IsSizedWithin (2 ^ 24 * 10 ^ 21) (paid_sum low high nums)
paid-within t cut nums low high are low_count high_count held =
    let count = are.count in
    let sized : IsSizedWithin ((sum_by (λ n. n) low + sum_by (λ n. n) high) * 10 ^ 21) (held_sum (paid_by t cut nums) (numbers_alone low high) (num_at nums)) =
    held_is_sized (paid_by t cut nums) (numbers_alone low high) (num_at nums) (10 ^ 21) low_count high_count (λ b h. are.sized b (omega (arith, h, count))) in
    let same : IsSizedWithin ((sum_by (λ n. n) low + sum_by (λ n. n) high) * 10 ^ 21) (paid_sum low high nums) =
    subst (λ n. IsSizedWithin ((sum_by (λ n. n) low + sum_by (λ n. n) high) * 10 ^ 21) (sum_below (λ b. held_by low high b *ℤ num_at nums b) n)) (sym count) sized in
    let a = same.low in let b = same.high in
    record { low = omega (arith, ints, a, held); high = omega (arith, ints, b, held) }
