-- The rows that duals of a pool's programs give.
use Rattle.std.specs.Prelude.{ℕ, zero, suc, ◌*◌, ◌<◌, ◌≡◌, List, [], ◌∷◌, length, map, drop, slice_index_or, ℤ, pos, ◌≤ℤ◌, unsigned_abs}
use Rattle.std.specs.List.{AllByRecursion}
use Rattle.ice_defs.specs.Tree.{Tree}
use Rattle.ice_defs.specs.Set.{Weights}
use Rattle.ice_defs.specs.Trade.{Assignment}
use Rattle.ice_defs.specs.Prices.{Prices}
use Rattle.ice_defs.specs.Pricing.{IsViolation, IsAccurate}
use Rattle.ice_defs.specs.Rows.{Row, Certificate, PassesAccuracy, PassesBalance}
use Rattle.ice_defs.specs.Fraction.{Fraction, whole_number, Equals, times, fraction_at}
use Rattle.ice_defs.specs.Frac.{lowest}
use Rattle.ice_defs.specs.Program.{IsLeast, AreDuals, AreNonNegative}
use Rattle.ice_defs.specs.PricingRun.{Member, first_stage, accuracy_program, balance_program, solution_prices, HasNoneToAdd, common_den}
use Rattle.ice_defs.specs.PricingRun.{num_over}
use Rattle.ice_row_laws.specs.Laws.{AreSatisfied}
use Rattle.ice_pricing_laws.specs.Laws.{AreMembers, balance_at}

-- a pool's members with weights, those of weight 0 left out
abbrev pub rows_with : List Member → List ℕ → List Row
rows_with [] ns = []
rows_with (m ∷ pool) [] = []
rows_with (m ∷ pool) (zero ∷ ns) = rows_with pool ns
rows_with (m ∷ pool) (suc n ∷ ns) = record { bidder = m.bidder; weight = suc n; set = m.set } ∷ rows_with pool ns

abbrev pub certificate_with : ℕ → List Member → List ℕ → Certificate
certificate_with den pool ns = record { den = den; rows = rows_with pool ns }

-- the weights over the denominator are the fractions times a factor
pub record AreWeights (factor : ℕ) (fs : List Fraction) (den : ℕ) (ns : List ℕ) : Type 0 where
  pub positive : 0 < den
  pub same_length : length ns ≡ length fs
  pub equal : (i : ℕ) → i < length fs
      → Equals (record { num = pos (slice_index_or ns i 0); den = den }) (times (whole_number (pos factor)) (fraction_at fs i))

-- the duals of a least point of the accuracy program give rows that pass the accuracy test
abbrev pub DualsPassAccuracy : Type 0
DualsPassAccuracy =
    (ts : List Tree) (ws : List Weights) (sets : Assignment) (goods : ℕ) (cap : ℤ) (pool : List Member) (x y : List Fraction) (v : ℤ)
    (den : ℕ) (ns : List ℕ)
    → pos 0 ≤ℤ cap → AreSatisfied ts sets → AreMembers ts ws sets pool
    → IsLeast (accuracy_program ts ws sets goods cap pool) x → AreDuals (accuracy_program ts ws sets goods cap pool) x y
    → HasNoneToAdd ts ws sets goods cap first_stage x → IsViolation ts ws sets (solution_prices ts ws sets goods cap x) v
    → AreWeights 1 (drop goods y) den ns
    → PassesAccuracy ts ws sets goods cap (solution_prices ts ws sets goods cap x) v (certificate_with den pool ns)

-- those of the balance program, times 100 times the
-- denominator of the violation, pass the balance test
abbrev pub DualsPassBalance : Type 0
DualsPassBalance =
    (ts : List Tree) (ws : List Weights) (sets : Assignment) (goods : ℕ) (cap : ℤ) (pool : List Member) (p : Prices) (delta : ℤ)
    (x y : List Fraction) (v : ℤ) (den : ℕ) (ns : List ℕ)
    → AreSatisfied ts sets → AreMembers ts ws sets pool → IsAccurate ts ws sets goods cap p → IsViolation ts ws sets p delta
    → IsLeast (balance_program ts ws sets goods cap delta p.den pool) x
    → AreDuals (balance_program ts ws sets goods cap delta p.den pool) x y
    → HasNoneToAdd ts ws sets goods cap (balance_at delta p.den) x → IsViolation ts ws sets (solution_prices ts ws sets goods cap x) v
    → AreWeights (100 * p.den) (drop goods y) den ns
    → PassesBalance ts ws sets goods (solution_prices ts ws sets goods cap x) v (certificate_with den pool ns)

-- a certificate of the accuracy stage serves each prices of the same violation
abbrev pub AccuracyMoves : Type 0
AccuracyMoves = (ts : List Tree) (ws : List Weights) (sets : Assignment) (goods : ℕ) (cap : ℤ) (p q : Prices) (v w : ℤ) (c : Certificate)
    → 0 < p.den → Equals (record { num = v; den = p.den }) (record { num = w; den = q.den })
    → PassesAccuracy ts ws sets goods cap p v c → PassesAccuracy ts ws sets goods cap q w c

-- the multiples of fractions in lowest terms, and their numerators
-- over a denominator, and over the least common one
abbrev pub lowest_of : Fraction → Fraction
lowest_of f = lowest f.num f.den

abbrev pub weights_of_duals : ℕ → List Fraction → List Fraction
weights_of_duals factor fs = map (λ y. lowest_of (times (whole_number (pos factor)) y)) fs

abbrev pub nums_over : ℕ → List Fraction → List ℕ
nums_over den ws = map (λ w. unsigned_abs (num_over den w)) ws

abbrev pub nums_of : List Fraction → List ℕ
nums_of weights = nums_over (common_den weights) weights

-- they are weights, and no numerator is below 0
abbrev pub LoweredAreWeights : Type 0
LoweredAreWeights = (factor : ℕ) (fs : List Fraction) → AreNonNegative fs
    → AreWeights factor fs (common_den (weights_of_duals factor fs)) (nums_of (weights_of_duals factor fs))
    × AllByRecursion (λ w. pos 0 ≤ℤ num_over (common_den (weights_of_duals factor fs)) w) (weights_of_duals factor fs)
