-- The fairness test over whole numbers, and how large these get.
use Rattle.std.specs.Prelude.{ℕ, ◌*◌, ◌<◌, ◌≤◌, ◌≡◌, ◌↔◌, ◌⊎◌, List, length, ℤ, pos, neg_ℤ, ◌+ℤ◌, ◌-ℤ◌, ◌*ℤ◌, ◌≤ℤ◌}
use Rattle.std.specs.List.{AllByRecursion}
use Rattle.ice_defs.specs.Sum.{sum_below}
use Rattle.ice_defs.specs.Prices.{Prices, cost_of}
use Rattle.ice_defs.specs.Rows.{weighted_sum, worth_above, IsRow, Certificate, PassesAccuracy}
use Rattle.ice_defs.specs.Tree.{Tree}
use Rattle.ice_defs.specs.Set.{Weights}
use Rattle.ice_defs.specs.Trade.{Assignment}
use Rattle.ice_defs.specs.Fraction.{Fraction, IsFraction, Equals, fraction_at}
use Rattle.ice_row_laws.specs.Sizes.{IsSizedWithin}
use Rattle.ice_fair_laws.specs.Fair.{PaidTrade, FairCertificate, own_units, IsDistance, held, total_held, demand, PassesFairness}
use Rattle.ice_fair_laws.specs.Laws.{IsPaidTrade, violation_of}

-- each payment is a whole number over the denominator
pub record ArePaidOver (t : PaidTrade) (n : ℕ) (a : ℕ → ℤ) : Type 0 where
  pub positive : 0 < n
  pub each : (b : ℕ) → b < length t.trees → Equals (fraction_at t.payments b) (record { num = a b; den = n })

-- ---- the distance

-- the payment less the set's cost, times both denominators
abbrev pub gap_num : PaidTrade → Prices → ℕ → (ℕ → ℤ) → ℕ → ℤ
gap_num t p n a b = (a b *ℤ pos p.den) -ℤ (pos n *ℤ cost_of p (own_units t b))

-- the greatest size of these
pub record IsGreatestGap (t : PaidTrade) (p : Prices) (n : ℕ) (a : ℕ → ℤ) (g : ℤ) : Type 0 where
  pub over : (b : ℕ) → b < length t.trees → gap_num t p n a b ≤ℤ g
  pub under : (b : ℕ) → b < length t.trees → neg_ℤ (gap_num t p n a b) ≤ℤ g
  pub attained : (b : ℕ) × (b < length t.trees) × ((gap_num t p n a b ≡ g) ⊎ (neg_ℤ (gap_num t p n a b) ≡ g))

-- a fraction is the distance exactly where it is the greatest gap over both denominators
abbrev pub GreatestGapIsDistance : Type 0
GreatestGapIsDistance = (t : PaidTrade) (p : Prices) (n : ℕ) (a : ℕ → ℤ) (g : ℤ) (d : Fraction)
    → IsPaidTrade t → 0 < p.den → ArePaidOver t n a → IsGreatestGap t p n a g → IsFraction d
    → IsDistance t p d ↔ Equals d (record { num = g; den = n * p.den })

-- ---- the test

-- what the held numbers weigh of numbers of the bidders
abbrev pub held_sum : PaidTrade → FairCertificate → (ℕ → ℤ) → ℤ
held_sum t c f = sum_below (λ b. held c b *ℤ f b) (length t.trees)

abbrev pub rows_weight : FairCertificate → ℤ
rows_weight c = weighted_sum (λ row. pos 1) c.rows

abbrev pub rows_worth : PaidTrade → FairCertificate → ℤ
rows_worth t c = weighted_sum (worth_above t.trees t.weights t.sets) c.rows

-- the equality of the test, times both denominators: what is asked for at the cap and
-- what the rows weigh at the violation stand on one side, and neither is below 0
abbrev pub IsEven : PaidTrade → FairCertificate → Prices → ℤ → ℕ → (ℕ → ℤ) → ℤ → Type 0
IsEven t c p x n a g = ((pos n *ℤ (pos p.den *ℤ (t.cap *ℤ demand t c))) +ℤ (pos n *ℤ (x *ℤ rows_weight c)))
    ≡ (((pos p.den *ℤ held_sum t c a) +ℤ (pos n *ℤ (pos p.den *ℤ rows_worth t c))) -ℤ (pos c.den *ℤ g))

-- where the other parts of the test hold, the test passes exactly where the whole numbers are even
abbrev pub TestIsWhole : Type 0
TestIsWhole = (t : PaidTrade) (c : FairCertificate) (p : Prices) (x : ℤ) (n : ℕ) (a : ℕ → ℤ) (g : ℤ) (d : Fraction)
    → IsPaidTrade t → 0 < p.den → ArePaidOver t n a → IsFraction d → Equals d (record { num = g; den = n * p.den })
    → (PassesFairness t c (violation_of p x) d → IsEven t c p x n a g)
    × (0 < c.den → length c.low ≡ length t.trees → length c.high ≡ length t.trees → AllByRecursion (IsRow t.trees t.weights t.sets) c.rows
    → total_held c ≤ c.den
    → IsEven t c p x n a g → PassesFairness t c (violation_of p x) d)

-- what is asked for is never below 0
abbrev pub AskedIsLow : Type 0
AskedIsLow = (t : PaidTrade) (c : FairCertificate) → pos 0 ≤ℤ demand t c

-- numbers of the bidders that are at most m in size weigh at most m for each that is held
abbrev pub HeldIsSized : Type 0
HeldIsSized = (t : PaidTrade) (c : FairCertificate) (f : ℕ → ℤ) (m : ℕ) → length c.low ≡ length t.trees → length c.high ≡ length t.trees
    → ((b : ℕ) → b < length t.trees → IsSizedWithin m (f b)) → IsSizedWithin (total_held c * m) (held_sum t c f)

-- ---- how large a violation is

-- prices whose rows pass the accuracy test have a violation of at most m
-- for each part of their denominator, where no row's worth is above m
abbrev pub CertifiedIsSmall : Type 0
CertifiedIsSmall =
    (ts : List Tree) (ws : List Weights) (sets : Assignment) (goods : ℕ) (cap : ℤ) (p : Prices) (v : ℤ) (c : Certificate) (m : ℕ)
    → pos 0 ≤ℤ cap → PassesAccuracy ts ws sets goods cap p v c → AllByRecursion (λ row. worth_above ts ws sets row ≤ℤ pos m) c.rows
    → v ≤ℤ pos (p.den * m)
