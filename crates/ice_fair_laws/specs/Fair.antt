-- Fair prices of a closed session: accurate at low bounds, and
-- as near to the payments as such prices come.
use Rattle.std.specs.Prelude.{ℕ, zero, suc, ◌+◌, ◌<◌, ◌≤◌, ◌≡◌, List, length, map, slice_index_or, sum_by, ℤ, pos, ◌+ℤ◌, ◌-ℤ◌, ◌*ℤ◌}
use Rattle.std.specs.Int.{int_max}
use Rattle.std.specs.List.{AllByRecursion}
use Rattle.ice_defs.specs.Sum.{sum_below}
use Rattle.ice_defs.specs.Tree.{Tree}
use Rattle.ice_defs.specs.Set.{Weights, units}
use Rattle.ice_defs.specs.Trade.{Assignment, tree_of, set_of}
use Rattle.ice_defs.specs.Bounds.{Bounds}
use Rattle.ice_defs.specs.Weighing.{weighted_weights}
use Rattle.ice_defs.specs.Exchange.{Exchange, trees_of, exact_of}
use Rattle.ice_defs.specs.Prices.{Prices, cost_of}
use Rattle.ice_defs.specs.Pricing.{IsViolation, IsAccurate}
use Rattle.ice_defs.specs.Rows.{Row, IsRow, worth_above, units_above, weighted_sum}
use Rattle.ice_defs.specs.Fraction.{Fraction, whole_number, Equals, AtMost, plus, minus, times, negation, fraction_at}

-- the bounds with each upper value made equal to the lower one
abbrev pub low_bounds : List Bounds → List Bounds
low_bounds bounds = map (λ b. record { lo = b.lo; hi = b.lo }) bounds

-- a trade of bidders with weights of their nodes, and what each of them pays for its set
pub record PaidTrade : Type 0 where
  pub trees : List Tree
  pub weights : List Weights
  pub sets : Assignment
  pub goods : ℕ
  pub cap : ℤ
  pub payments : List Fraction

-- a trade of an exchange's bidders at low bounds, with what they pay
abbrev pub paid_of : Exchange → List Bounds → Assignment → List Fraction → PaidTrade
paid_of ex bounds sets payments = record {
  trees = trees_of ex;
  weights = weighted_weights ex.settings.weight (low_bounds bounds);
  sets = sets;
  goods = length (exact_of ex);
  cap = ex.settings.cap;
  payments = payments;
}

module _ (t : PaidTrade) where
  -- the units of a bidder's own set
  abbrev pub own_units : ℕ → ℕ → ℤ
  own_units b g = units (tree_of t.trees b) (set_of t.sets b) g

  -- what that set costs
  abbrev pub set_cost : Prices → ℕ → Fraction
  set_cost p b = record { num = cost_of p (own_units b); den = p.den }

  -- the payment less that cost
  abbrev pub gap : Prices → ℕ → Fraction
  gap p b = minus (fraction_at t.payments b) (set_cost p b)

  -- each gap is at most this in size
  abbrev pub Covers : Prices → Fraction → Type 0
  Covers p e = (b : ℕ) → b < length t.trees → AtMost (gap p b) e × AtMost (negation (gap p b)) e

  -- the distance is the greatest size of a gap
  pub record IsDistance (p : Prices) (d : Fraction) : Type 0 where
    pub proper : 0 < d.den
    pub covers : Covers p d
    pub least : (e : Fraction) → 0 < e.den → Covers p e → AtMost d e

  abbrev pub HasViolationOf : Prices → ℤ → Type 0
  HasViolationOf p x = IsViolation t.trees t.weights t.sets p x

  abbrev pub AreAccurate : Prices → Type 0
  AreAccurate p = IsAccurate t.trees t.weights t.sets t.goods t.cap p

  -- accurate prices, and no accurate prices have a smaller distance
  pub record AreFair (p : Prices) : Type 0 where
    pub accurate : AreAccurate p
    pub nearest : (d : Fraction) × IsDistance p d × ((q : Prices) (e : Fraction) → AreAccurate q → IsDistance q e → AtMost d e)

-- ---- the test

-- two numbers a bidder, and weighted rows, all over one denominator
pub record FairCertificate : Type 0 where
  pub den : ℕ
  pub low : List ℕ
  pub high : List ℕ
  pub rows : List Row

-- what a bidder's two numbers weigh together
abbrev pub held : FairCertificate → ℕ → ℤ
held c b = pos (slice_index_or c.low b 0) -ℤ pos (slice_index_or c.high b 0)

abbrev pub total_held : FairCertificate → ℕ
total_held c = sum_by (λ n. n) c.low + sum_by (λ n. n) c.high

module _ (t : PaidTrade) (c : FairCertificate) where
  abbrev pub held_units : ℕ → ℤ
  held_units g = sum_below (λ b. held c b *ℤ own_units t b g) (length t.trees)

  abbrev pub row_units : ℕ → ℤ
  row_units g = weighted_sum (units_above t.trees t.weights t.sets g) c.rows

  -- of each good, what is asked for above 0
  abbrev pub demand : ℤ
  demand = sum_below (λ g. int_max (held_units g +ℤ (pos 100 *ℤ row_units g)) (pos 0)) t.goods

  abbrev pub held_below : ℕ → Fraction
  held_below zero = whole_number (pos 0)
  held_below (suc b) = plus (held_below b) (times (whole_number (held c b)) (fraction_at t.payments b))

  abbrev pub held_payments : Fraction
  held_payments = held_below (length t.trees)

  -- the rows' worth above the violation
  abbrev pub rows_above : Fraction → Fraction
  rows_above violation =
      minus (whole_number (weighted_sum (worth_above t.trees t.weights t.sets) c.rows))
      (times (whole_number (weighted_sum (λ row. pos 1) c.rows)) violation)

  -- no prices within the cap whose violation is at most
  -- this come nearer to the payments than this distance
  pub record PassesFairness (violation distance : Fraction) : Type 0 where
    pub proper : 0 < c.den
    pub low_count : length c.low ≡ length t.trees
    pub high_count : length c.high ≡ length t.trees
    pub rows : AllByRecursion (IsRow t.trees t.weights t.sets) c.rows
    pub numbers : total_held c ≤ c.den
    pub equal : Equals (times (whole_number (pos c.den)) distance)
        (minus (plus held_payments (rows_above violation)) (whole_number (t.cap *ℤ demand)))
