-- Sums of rows that are read in turn decide the tests of the rows.
use Rattle.std.proofs.Common.{ℕ, ◌≡◌, List, ℤ, pos, ◌-ℤ◌, ◌*ℤ◌, arith, ap, sym, ◌∙◌}
use Rattle.std.specs.Int.{int_max}
use Rattle.std.proofs.lemmas.Int.{ints}
use Rattle.std.proofs.lemmas.List.Sums.{sum_by_push}
use Rattle.ice_defs.specs.Tree.{Tree}
use Rattle.ice_defs.specs.Set.{Weights}
use Rattle.ice_defs.specs.Trade.{Assignment}
use Rattle.ice_defs.specs.Rows.{Row, weighted_sum, worth_above, units_above, demand}
use Rattle.ice_defs.proofs.Sums.{sum_below-same}
use Rattle.ice_row_laws.specs.Sums.{RowSums, units_in, wanted_in, AreSums, ZeroIsSums, RowIsAdded, SumsDecideAccuracy, SumsDecideBalance}
use Rattle.ice_row_laws.proofs.Weighted.{weighted_sum-less, weighted_sum-push}

pub zero_is_sums : ZeroIsSums
zero_is_sums ts ws sets goods s zero = record { weight = zero.weight; worth = zero.worth; units = zero.units }

pub row_is_added : RowIsAdded
row_is_added ts ws sets goods rows row before after are more = record {
  weight = omega (arith, more.weight, are.weight, sum_by_push (λ (r : Row). r.weight) rows row);
  worth = omega (arith, ints, more.worth, are.worth, weighted_sum-push (worth_above ts ws sets) rows row);
  units = λ g h. omega (arith, ints, more.units g h, are.units g h, weighted_sum-push (units_above ts ws sets g) rows row);
}

-- ---- the tests

module _ (ts : List Tree) (ws : List Weights) (sets : Assignment) (goods : ℕ) (rows : List Row) (s : RowSums) (are : AreSums ts ws sets goods rows s) where
  wanted-same : wanted_in goods s ≡ demand ts ws sets goods rows
  wanted-same =
      sum_below-same (λ g. int_max (units_in s g) (pos 0)) (λ g. int_max (weighted_sum (units_above ts ws sets g) rows) (pos 0)) goods
      (λ g h. ap (λ z. int_max z (pos 0)) (are.units g h))

  accuracy-same : (n : ℕ) (cap : ℤ)
      → pos n *ℤ (s.worth -ℤ (pos 100 *ℤ (cap *ℤ wanted_in goods s)))
      ≡ pos n *ℤ (weighted_sum (worth_above ts ws sets) rows -ℤ (pos 100 *ℤ (cap *ℤ demand ts ws sets goods rows)))
  accuracy-same n cap =
      ap (λ z. pos n *ℤ (z -ℤ (pos 100 *ℤ (cap *ℤ wanted_in goods s)))) are.worth
      ∙ ap (λ z. pos n *ℤ (weighted_sum (worth_above ts ws sets) rows -ℤ (pos 100 *ℤ (cap *ℤ z)))) wanted-same

  balance-same : (n : ℕ) (x : ℤ) → (pos n *ℤ s.worth) -ℤ (x *ℤ pos s.weight) ≡ weighted_sum (λ row. (pos n *ℤ worth_above ts ws sets row) -ℤ x) rows
  balance-same n x =
      ap (λ z. (pos n *ℤ z) -ℤ (x *ℤ pos s.weight)) are.worth
      ∙ ap (λ k. (pos n *ℤ weighted_sum (worth_above ts ws sets) rows) -ℤ (x *ℤ pos k)) are.weight
      ∙ sym (weighted_sum-less (worth_above ts ws sets) n x rows)

pub sums_decide_accuracy : SumsDecideAccuracy
sums_decide_accuracy ts ws sets goods cap p x c s rows are = (
  λ passes.
      record {
        proper = passes.proper;
        weights = omega (arith, passes.weights, are.weight);
        equal = accuracy-same ts ws sets goods c.rows s are p.den cap ∙ passes.equal;
      },
  λ passes.
      record {
        proper = passes.proper;
        rows = rows;
        weights = omega (arith, passes.weights, are.weight);
        equal = sym (accuracy-same ts ws sets goods c.rows s are p.den cap) ∙ passes.equal;
      },
)

pub sums_decide_balance : SumsDecideBalance
sums_decide_balance ts ws sets goods p x c s rows are = (
  λ passes.
      record {
        proper = passes.proper;
        weights = omega (arith, ints, passes.weights, wanted-same ts ws sets goods c.rows s are);
        equal = balance-same ts ws sets goods c.rows s are p.den x ∙ passes.equal;
      },
  λ passes.
      record {
        proper = passes.proper;
        rows = rows;
        weights = omega (arith, ints, passes.weights, wanted-same ts ws sets goods c.rows s are);
        equal = sym (balance-same ts ws sets goods c.rows s are p.den x) ∙ passes.equal;
      },
)
