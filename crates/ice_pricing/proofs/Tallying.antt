-- Tallies of rows, and the tests that they decide.
use Rattle.std.proofs.Common.{ℕ, suc, ◌≡◌, ◌≤◌, ◌++◌, [], ◌∷◌, List, ℤ, refl, arith}
use Rattle.std.proofs.lemmas.List.{length-append}
use Rattle.ice_defs.specs.Prices.{Prices}
use Rattle.ice_defs.specs.Rows.{Row, IsRow, PassesAccuracy, PassesBalance}
use Rattle.ice_defs.proofs.Lists.{all_push}
use Rattle.ice_row_laws.specs.Sums.{RowSums, AreZero, IsWithRow, SumsPassAccuracy, SumsPassBalance}
use Rattle.ice_row_laws.proofs.Sums.{zero_is_sums, row_is_added, sums_decide_accuracy, sums_decide_balance}
use Rattle.ice_pricing.specs.Provisional.{ProvisionalTrade}
use Rattle.ice_pricing.specs.Tallies.{RowTally, IsTallyOf}

pub none_tallied : (t : ProvisionalTrade) (s : RowSums) → AreZero 32 s → t.goods ≤ 32 → IsTallyOf t [] (record { count = 0; sums = s })
none_tallied t s zero few = record {
  count = refl;
  each = tt;
  sums = zero_is_sums t.trees t.weights t.sets t.goods s (record { weight = zero.weight; worth = zero.worth; units = λ g h. zero.units g (omega (arith, h, few)) });
}

pub one_more_tallied : (t : ProvisionalTrade) (row : Row) (before after : RowSums) (n m : ℕ) → IsRow t.trees t.weights t.sets row → IsWithRow t.trees t.weights t.sets t.goods row before after → m ≡ suc n
    → (rows : List Row) → IsTallyOf t rows (record { count = n; sums = before }) → IsTallyOf t (rows ++ row ∷ []) (record { count = m; sums = after })
one_more_tallied t row before after n m is with e rows tallied = record {
  count = omega (arith, e, tallied.count, length-append rows (row ∷ []));
  each = all_push (IsRow t.trees t.weights t.sets) rows row tallied.each is;
  sums = row_is_added t.trees t.weights t.sets t.goods rows row before after tallied.sums with;
}

module _ (t : ProvisionalTrade) (p : Prices) (violation : ℤ) (den : ℕ) (rows : List Row) (tally : RowTally) (is : IsTallyOf t rows tally) where
  pub accuracy_passes : SumsPassAccuracy t.goods t.cap p violation den tally.sums → PassesAccuracy t.trees t.weights t.sets t.goods t.cap p violation (record { den = den; rows = rows })
  accuracy_passes h = (sums_decide_accuracy t.trees t.weights t.sets t.goods t.cap p violation (record { den = den; rows = rows }) tally.sums is.each is.sums).1 h

  pub passes_accuracy : PassesAccuracy t.trees t.weights t.sets t.goods t.cap p violation (record { den = den; rows = rows }) → SumsPassAccuracy t.goods t.cap p violation den tally.sums
  passes_accuracy h = (sums_decide_accuracy t.trees t.weights t.sets t.goods t.cap p violation (record { den = den; rows = rows }) tally.sums is.each is.sums).0 h

  pub balance_passes : SumsPassBalance t.goods p violation den tally.sums → PassesBalance t.trees t.weights t.sets t.goods p violation (record { den = den; rows = rows })
  balance_passes h = (sums_decide_balance t.trees t.weights t.sets t.goods p violation (record { den = den; rows = rows }) tally.sums is.each is.sums).1 h

  pub passes_balance : PassesBalance t.trees t.weights t.sets t.goods p violation (record { den = den; rows = rows }) → SumsPassBalance t.goods p violation den tally.sums
  passes_balance h = (sums_decide_balance t.trees t.weights t.sets t.goods p violation (record { den = den; rows = rows }) tally.sums is.each is.sums).0 h
