-- A trade with what its bidders pay, over the denominator of the cut.
use Rattle.std.specs.Prelude.{ℕ, ◌<◌, ◌≤◌, ◌≡◌, ◌^◌, List, length, map, slice_index_or, ℤ, pos, ◌+ℤ◌, ◌-ℤ◌, ◌*ℤ◌}
use Rattle.ice_defs.specs.Sum.{sum_below}
use Rattle.ice_defs.specs.Set.{units}
use Rattle.ice_defs.specs.Trade.{tree_of, set_of}
use Rattle.ice_defs.specs.Fraction.{Fraction}
use Rattle.ice_defs.specs.Prices.{Prices}
use Rattle.std.specs.Int.{int_max}
use Rattle.ice_row_laws.specs.Sums.{RowSums, units_in}
use Rattle.ice_row_laws.specs.Sizes.{IsSizedWithin}
use Rattle.ice_pricing.specs.Provisional.{ProvisionalTrade}
use Rattle.ice_fair_laws.specs.Fair.{PaidTrade}

abbrev pub num_at : List ℤ → ℕ → ℤ
num_at nums b = slice_index_or nums b (pos 0)

abbrev pub over_cut : ℕ → ℤ → Fraction
over_cut cut num = record { num = num; den = cut }

-- the bidders of a trade pay these numbers over this denominator
abbrev pub paid_by : ProvisionalTrade → ℕ → List ℤ → PaidTrade
paid_by t cut nums = record {
  trees = t.trees;
  weights = t.weights;
  sets = t.sets;
  goods = t.goods;
  cap = t.cap;
  payments = map (over_cut cut) nums;
}

-- one number a bidder, each at most 10^21 in size, over a denominator from 1 to 1,000
pub record AreNumbers (t : ProvisionalTrade) (cut : ℕ) (nums : List ℤ) : Type 0 where
  pub count : length nums ≡ length t.trees
  pub positive : 0 < cut
  pub few : cut ≤ 1000
  pub sized : (b : ℕ) → b < length nums → IsSizedWithin (10 ^ 21) (num_at nums b)

-- what a bidder's two numbers weigh together
abbrev pub held_by : List ℕ → List ℕ → ℕ → ℤ
held_by low high b = pos (slice_index_or low b 0) -ℤ pos (slice_index_or high b 0)

-- what all numbers weigh of the units of a good of the bidders' own sets
abbrev pub held_units_by : ProvisionalTrade → List ℕ → List ℕ → ℕ → ℤ
held_units_by t low high g = sum_below (λ b. held_by low high b *ℤ units (tree_of t.trees b) (set_of t.sets b) g) (length t.trees)

-- what numbers, and rows with these sums, ask for of all goods above 0
abbrev pub asked_by : ProvisionalTrade → List ℕ → List ℕ → RowSums → ℤ
asked_by t low high s = sum_below (λ g. int_max (held_units_by t low high g +ℤ (pos 100 *ℤ units_in s g)) (pos 0)) t.goods

-- what numbers weigh of the payments
abbrev pub paid_sum : List ℕ → List ℕ → List ℤ → ℤ
paid_sum low high nums = sum_below (λ b. held_by low high b *ℤ num_at nums b) (length nums)

-- the equality of the fairness test, of sums, times both denominators
abbrev pub SumsAreEven : ProvisionalTrade → ℕ → List ℤ → ℕ → List ℕ → List ℕ → Prices → ℤ → ℤ → RowSums → Type 0
SumsAreEven t cut nums den low high p x g s =
    ((pos cut *ℤ (pos p.den *ℤ (t.cap *ℤ asked_by t low high s))) +ℤ (pos cut *ℤ (x *ℤ pos s.weight)))
    ≡ (((pos p.den *ℤ paid_sum low high nums) +ℤ (pos cut *ℤ (pos p.den *ℤ s.worth))) -ℤ (pos den *ℤ g))
