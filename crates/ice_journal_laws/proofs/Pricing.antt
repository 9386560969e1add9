-- Prices of a settlement, and the rows that certify them.
use Rattle.std.proofs.Common.{◌≡◌, ℕ, suc, Bool, true, false, cond, List, [], ◌∷◌, ◌++◌, length, ℤ, pos, refl, ◌∙◌, ap, arith, inl, length-append}
use Rattle.std.specs.Prelude.{◌≤ℤ◌, ◌<ℤ◌, ◌*ℤ◌, ◌&&◌, Option, Some, None, is_none}
use Rattle.std.proofs.lemmas.Bool.{ltb-true, ltb-false, eq-eqb}
use Rattle.std.proofs.lemmas.Int.{by_lt_z}
use Rattle.ice_defs.specs.Trade.{IsFeasible}
use Rattle.ice_defs.specs.Weighing.{weighted_weights}
use Rattle.ice_defs.specs.Prices.{Prices, price_of, ArePrices}
use Rattle.ice_defs.specs.Pricing.{IsViolation, IsBalanced}
use Rattle.ice_defs.specs.Rows.{Row, Certificate}
use Rattle.ice_journal.specs.Records.{Record}
use Rattle.ice_journal.specs.Ranges.{ArePricesRecord}
use Rattle.ice_row_laws.specs.Laws.{TestsGiveBalanced}
use Rattle.ice_threshold.proofs.OneCut.{at_recursion}
use Rattle.ice_journal_laws.specs.declared.rule.Rule.{Rule}
use Rattle.ice_journal_laws.specs.declared.rule.Rule.TheVariants as rule
use Rattle.ice_journal_laws.specs.State.{State, at_accuracy_rows, at_balance_rows, settings_at, trees_at, exact_at, goods_at}
use Rattle.ice_journal_laws.specs.Next.{may_have_row}
use Rattle.ice_journal_laws.specs.Fields.{row_in}
use Rattle.ice_journal_laws.specs.Tests.{AreUnlawful, offered_weights, AccuracyHolds, BalanceHolds, is_last_row, ended_list}
use Rattle.ice_journal_laws.proofs.Faultless.{covered}

-- ---- the prices

pub prices_are : (s : State) (p : Prices) → ArePricesRecord p → length p.nums ≡ goods_at s → ¬ AreUnlawful s p → ArePrices (goods_at s) (settings_at s).cap p
prices_are s p is count pass = record {
  positive = omega (arith, is.den.0);
  same_length = count;
  low = λ g l. (at_recursion _ p.nums is.each g (omega (arith, l, count))).0;
  high = λ g l. covered false (price_of p g) ((settings_at s).cap *ℤ pos p.den) (λ no. pass (inl (g, l, below (price_of p g) ((settings_at s).cap *ℤ pos p.den) no)));
}
  where
    below : (a b : ℤ) → ¬ (a ≤ℤ b) → b <ℤ a
    below a b above = by_lt_z b a (λ l. l) (λ l. absurd (above l))

-- ---- a list of rows

module _ (P : List Row → Type 0) (rows : List Row) where
  -- a full list has passed its test
  abbrev pub IsTested : Type 0
  IsTested = may_have_row rows ≡ false → P rows

  -- the list has ended
  pub rows_end : (may_have_row rows ≡ false → P rows) → (may_have_row rows ≡ true → P rows) → P rows
  rows_end full fewer = by (may_have_row rows) refl
    where
      by : (b : Bool) → may_have_row rows ≡ b → P rows
      by true e = fewer e
      by false e = full e

  -- one more row
  pub rows_more : (row : Row) → may_have_row rows ≡ true → (is_last_row rows ≡ true → P (rows ++ row ∷ [])) → may_have_row (rows ++ row ∷ []) ≡ false → P (rows ++ row ∷ [])
  rows_more row room last full =
      last (eq-eqb (suc (length rows)) 200 (omega (arith, ltb-true (length rows) 200 room, ltb-false (length (rows ++ row ∷ [])) 200 full, length-append rows (row ∷ []))))

-- before a record that is no row, a list of fewer rows passes its test
pub accuracy_ended : (s : State) (den : ℕ) (rows : List Row) (r : Record) → row_in r ≡ None → may_have_row rows ≡ true → ((x : Rule) → ended_list (at_accuracy_rows den rows) r ≡ Some x → AccuracyHolds s den rows) → AccuracyHolds s den rows
accuracy_ended s den rows r none room ends =
    ends rule.Accuracy (ap (λ (o : Option Row). cond (is_none o && may_have_row rows) (Some rule.Accuracy) None) none ∙ ap (λ (b : Bool). cond (true && b) (Some rule.Accuracy) None) room)

pub balance_ended : (s : State) (den : ℕ) (rows : List Row) (r : Record) → row_in r ≡ None → may_have_row rows ≡ true → ((x : Rule) → ended_list (at_balance_rows den rows) r ≡ Some x → BalanceHolds s den rows) → BalanceHolds s den rows
balance_ended s den rows r none room ends =
    ends rule.Balance (ap (λ (o : Option Row). cond (is_none o && may_have_row rows) (Some rule.Balance) None) none ∙ ap (λ (b : Bool). cond (true && b) (Some rule.Balance) None) room)

-- ---- what the tests give

pub balanced_prices : (tests : TestsGiveBalanced) (s : State) (accuracy balance : Certificate) → IsFeasible (trees_at s) (exact_at s) s.offered → ArePrices (goods_at s) (settings_at s).cap s.prices
    → IsViolation (trees_at s) (offered_weights s) s.offered s.prices s.violation → AccuracyHolds s accuracy.den accuracy.rows → BalanceHolds s balance.den balance.rows
    → IsBalanced (trees_at s) (weighted_weights (settings_at s).weight s.bounds) s.offered (goods_at s) (settings_at s).cap s.prices
balanced_prices tests s accuracy balance feasible prices violation accurate balanced =
    tests (trees_at s) (offered_weights s) s.offered (goods_at s) (settings_at s).cap s.prices s.violation accuracy balance feasible.satisfied prices violation accurate balanced
