-- Prices, their violation and the rows of their certificates.
use Rattle.std.proofs.Common.{◌≡◌, ◌≢◌, ◌<◌, ◌≤◌, ℕ, suc, Bool, false, cond, eqb, List, [], ◌∷◌, ◌++◌, length, map, ℤ, refl, sym, ◌∙◌, ap, subst, arith, append_assoc, length-append, ◌⊎◌, inl, inr}
use Rattle.std.specs.Prelude.{Option, Some, None, option_map, IsTrue, IsSomeAnd}
use Rattle.std.specs.List.{AllByRecursion}
use Rattle.std.proofs.lemmas.Bool.{false≢true, eq-eqb, eqb-true, lt-ltb}
use Rattle.std.proofs.lemmas.Int.{ints}
use Rattle.std.proofs.lemmas.Option.{none-some}
use Rattle.std.proofs.lemmas.List.{append-nil}
use Rattle.ice_defs.specs.declared.SatRule.{SatRule}
use Rattle.ice_defs.specs.declared.SatRule.TheVariants.{Parent, Few, Many}
use Rattle.ice_defs.specs.SetFault.{set_fault}
use Rattle.ice_defs.specs.Trade.{tree_of}
use Rattle.ice_defs.specs.Prices.{Prices}
use Rattle.ice_defs.specs.Pricing.{IsViolation}
use Rattle.ice_defs.specs.Rows.{Row, IsRow}
use Rattle.ice_tree.proofs.Satisfied.{set_fault-none}
use Rattle.ice_journal.specs.Records as line
use Rattle.ice_journal_laws.specs.declared.rule.Rule.{Rule}
use Rattle.ice_journal_laws.specs.declared.rule.Rule.TheVariants as rule
use Rattle.ice_journal_laws.specs.State.{at_prices, at_accuracy, at_accuracy_rows, at_balance_rows, State, settings_at, trees_at, goods_at}
use Rattle.ice_journal_laws.specs.Next.{next, to_line, go_to, or_stop}
use Rattle.ice_journal_laws.specs.Tests.{Fails, offered_weights, AreUnlawful, AccuracyHolds, BalanceHolds, is_last_row}
use Rattle.ice_journal_laws.specs.Progress.{passes_on}
use Rattle.ice_journal_laws.specs.Written.{row_record}
use Rattle.ice_journal_laws.specs.Carrying.{Carries}
use Rattle.ice_journal_laws.specs.ShowingSession.{AreShownPrices}
use Rattle.ice_journal_laws.proofs.Carried.{TakesTo, carries_none, carries_then}

-- ---- prices

not_unlawful : (s : State) (p : Prices) → AreShownPrices (goods_at s) (settings_at s).cap p → ¬ AreUnlawful s p
not_unlawful s p are (inl (g, l, above)) = omega (arith, ints, are.high g l, above)
not_unlawful s p are (inr common) = are.lowest common

pub prices_take : (s : State) (p : Prices) → AreShownPrices (goods_at s) (settings_at s).cap p → TakesTo (go_to at_prices s) (line.prices p) (go_to at_accuracy (record s { prices = p }))
prices_take s p are n = passes_on (λ z e. absurd (none-some z e)) quiet (record { leaf = tt; violation = tt; list = tt; verdict = tt }) is
  where
    counted : cond (eqb (length p.nums) (goods_at s)) (Some p) None ≡ Some p
    counted = ap (λ (t : Bool). cond t (Some p) None) (eq-eqb (length p.nums) (goods_at s) are.count)

    is : next (to_line n (go_to at_prices s)) (line.prices p) ≡ Some (to_line (suc n) (go_to at_accuracy (record s { prices = p })))
    is = ap (λ (o : Option Prices). option_map (to_line (suc n)) (or_stop false (to_line n s) (option_map (λ (q : Prices). go_to at_accuracy (record (to_line n (go_to at_prices s)) { prices = q })) o))) counted

    quiet : (z : Rule) → ¬ Fails z (to_line n (go_to at_prices s)) (line.prices p)
    quiet rule.Closed h = false≢true h.0
    quiet rule.Order h = none-some _ (sym h ∙ is)
    quiet rule.Exchange h = false≢true h.1
    quiet rule.Prices h = not_unlawful s p are (subst (λ (o : Option Prices). IsSomeAnd o (AreUnlawful s)) counted h)
    quiet other h = h

-- ---- their violation

pub accuracy_takes : (s : State) (violation : ℤ) (den : ℕ) → IsViolation (trees_at s) (offered_weights s) s.offered s.prices violation
    → TakesTo (go_to at_accuracy s) (line.accuracy violation den) (go_to (at_accuracy_rows den []) (record s { violation = violation }))
accuracy_takes s violation den is n = passes_on (λ z e. absurd (none-some z e)) quiet (record { leaf = tt; violation = is; list = tt; verdict = tt }) refl
  where
    quiet : (z : Rule) → ¬ Fails z (to_line n (go_to at_accuracy s)) (line.accuracy violation den)
    quiet rule.Closed h = false≢true h.0
    quiet rule.Order h = none-some _ (sym h)
    quiet rule.Exchange h = false≢true h.1
    quiet rule.Violation h = h is
    quiet other h = h

-- ---- rows

-- a row's set is one of its bidder, and satisfied
abbrev IsRowOf : State → Row → Type 0
IsRowOf s row = IsRow (trees_at s) (offered_weights s) s.offered row

not_miscounted : (s : State) (row : Row) → IsRowOf s row → (length row.set ≢ length (tree_of (trees_at s) row.bidder) ⊎ (length (trees_at s) ≤ row.bidder)) → ⊥
not_miscounted s row is (inl ne) = ne is.2.same_length
not_miscounted s row is (inr past) = omega (arith, past, is.0)

not_unsatisfied : (s : State) (row : Row) (k : SatRule) → IsRowOf s row → ¬ (set_fault (tree_of (trees_at s) row.bidder) row.set ≡ Some k)
not_unsatisfied s row k is e = none-some k (sym (set_fault-none (tree_of (trees_at s) row.bidder) row.set is.2) ∙ e)

module _ (s : State) (den : ℕ) where
  -- the 200th row ends a list that passes
  abbrev LastPasses : (List Row → Type 0) → List Row → Row → Type 0
  LastPasses Passes rows row = IsTrue (is_last_row rows) → Passes (rows ++ row ∷ [])

  accuracy_row_takes : (rows : List Row) (row : Row) → length rows < 200 → IsRowOf s row → LastPasses (AccuracyHolds s den) rows row
      → TakesTo (go_to (at_accuracy_rows den rows) s) (row_record row) (go_to (at_accuracy_rows den (rows ++ row ∷ [])) s)
  accuracy_row_takes rows row few is last n = passes_on (λ z e. absurd (none-some z e)) quiet (record { leaf = tt; violation = tt; list = last; verdict = tt }) taken
    where
      taken : next (to_line n (go_to (at_accuracy_rows den rows) s)) (row_record row) ≡ Some (to_line (suc n) (go_to (at_accuracy_rows den (rows ++ row ∷ [])) s))
      taken = ap (λ (t : Bool). option_map (to_line (suc n)) (cond t (Some (to_line n (go_to (at_accuracy_rows den (rows ++ row ∷ [])) s))) None)) (lt-ltb (length rows) 200 few)

      quiet : (z : Rule) → ¬ Fails z (to_line n (go_to (at_accuracy_rows den rows) s)) (row_record row)
      quiet rule.Closed h = false≢true h.0
      quiet rule.Order h = none-some _ (sym h ∙ taken)
      quiet rule.Exchange h = false≢true h.1
      quiet rule.Count h = not_miscounted s row is h
      quiet rule.Parent h = not_unsatisfied s row Parent is h
      quiet rule.Few h = not_unsatisfied s row Few is h
      quiet rule.Many h = not_unsatisfied s row Many is h
      quiet rule.Accuracy h = h.1 (last h.0)
      quiet other h = h

  balance_row_takes : (rows : List Row) (row : Row) → length rows < 200 → IsRowOf s row → LastPasses (BalanceHolds s den) rows row
      → TakesTo (go_to (at_balance_rows den rows) s) (row_record row) (go_to (at_balance_rows den (rows ++ row ∷ [])) s)
  balance_row_takes rows row few is last n = passes_on (λ z e. absurd (none-some z e)) quiet (record { leaf = tt; violation = tt; list = last; verdict = tt }) taken
    where
      taken : next (to_line n (go_to (at_balance_rows den rows) s)) (row_record row) ≡ Some (to_line (suc n) (go_to (at_balance_rows den (rows ++ row ∷ [])) s))
      taken = ap (λ (t : Bool). option_map (to_line (suc n)) (or_stop false (to_line n s) (cond t (Some (to_line n (go_to (at_balance_rows den (rows ++ row ∷ [])) s))) None))) (lt-ltb (length rows) 200 few)

      quiet : (z : Rule) → ¬ Fails z (to_line n (go_to (at_balance_rows den rows) s)) (row_record row)
      quiet rule.Closed h = false≢true h.0
      quiet rule.Order h = none-some _ (sym h ∙ taken)
      quiet rule.Exchange h = false≢true h.1
      quiet rule.Count h = not_miscounted s row is h
      quiet rule.Parent h = not_unsatisfied s row Parent is h
      quiet rule.Few h = not_unsatisfied s row Few is h
      quiet rule.Many h = not_unsatisfied s row Many is h
      quiet rule.Balance h = h.1 (last h.0)
      quiet other h = h

  -- the first rows of a list that passes
  few_there : (all rows later : List Row) (row : Row) → rows ++ row ∷ later ≡ all → length all ≤ 200 → length rows < 200
  few_there all rows later row e few = omega (arith, few, ap length e, length-append rows (row ∷ later))

  last_passes : (Passes : List Row → Type 0) (all rows later : List Row) (row : Row) → rows ++ row ∷ later ≡ all → length all ≤ 200 → Passes all → LastPasses Passes rows row
  last_passes Passes all rows [] row e few is last = subst Passes (sym e) is
  last_passes Passes all rows (other ∷ later) row e few is last =
      absurd (omega (arith, few, ap length e, length-append rows (row ∷ other ∷ later), eqb-true (suc (length rows)) 200 last))

  all_after : (rows later : List Row) (row : Row) → AllByRecursion (IsRowOf s) (rows ++ row ∷ later) → IsRowOf s row
  all_after [] later row all = all.0
  all_after (x ∷ rows) later row all = all_after rows later row all.1

  pub accuracy_rows_carry : (all rows later : List Row) → rows ++ later ≡ all → length all ≤ 200 → AccuracyHolds s den all → Carries (go_to (at_accuracy_rows den rows) s) (map row_record later) (go_to (at_accuracy_rows den all) s)
  accuracy_rows_carry all rows [] e few is =
      subst (λ (end : List Row). Carries (go_to (at_accuracy_rows den rows) s) [] (go_to (at_accuracy_rows den end) s)) (sym (append-nil rows) ∙ e) (carries_none (go_to (at_accuracy_rows den rows) s))
  accuracy_rows_carry all rows (row ∷ later) e few is =
      carries_then (go_to (at_accuracy_rows den rows) s) (go_to (at_accuracy_rows den (rows ++ row ∷ [])) s) (go_to (at_accuracy_rows den all) s) (row_record row) (map row_record later)
      (accuracy_row_takes rows row (few_there all rows later row e few) (all_after rows later row (subst (AllByRecursion (IsRowOf s)) (sym e) is.rows)) (last_passes (AccuracyHolds s den) all rows later row e few is))
      (accuracy_rows_carry all (rows ++ row ∷ []) later (append_assoc rows (row ∷ []) later ∙ e) few is)

  pub balance_rows_carry : (all rows later : List Row) → rows ++ later ≡ all → length all ≤ 200 → BalanceHolds s den all → Carries (go_to (at_balance_rows den rows) s) (map row_record later) (go_to (at_balance_rows den all) s)
  balance_rows_carry all rows [] e few is =
      subst (λ (end : List Row). Carries (go_to (at_balance_rows den rows) s) [] (go_to (at_balance_rows den end) s)) (sym (append-nil rows) ∙ e) (carries_none (go_to (at_balance_rows den rows) s))
  balance_rows_carry all rows (row ∷ later) e few is =
      carries_then (go_to (at_balance_rows den rows) s) (go_to (at_balance_rows den (rows ++ row ∷ [])) s) (go_to (at_balance_rows den all) s) (row_record row) (map row_record later)
      (balance_row_takes rows row (few_there all rows later row e few) (all_after rows later row (subst (AllByRecursion (IsRowOf s)) (sym e) is.rows)) (last_passes (BalanceHolds s den) all rows later row e few is))
      (balance_rows_carry all (rows ++ row ∷ []) later (append_assoc rows (row ∷ []) later ∙ e) few is)

-- the second list begins where the first passes
pub balance_takes : (s : State) (den : ℕ) (rows : List Row) (balance_den : ℕ) → AccuracyHolds s den rows → TakesTo (go_to (at_accuracy_rows den rows) s) (line.balance balance_den) (go_to (at_balance_rows balance_den []) s)
balance_takes s den rows balance_den is n = passes_on (λ z e. is) quiet (record { leaf = tt; violation = tt; list = λ last. tt; verdict = tt }) refl
  where
    quiet : (z : Rule) → ¬ Fails z (to_line n (go_to (at_accuracy_rows den rows) s)) (line.balance balance_den)
    quiet rule.Closed h = false≢true h.0
    quiet rule.Order h = none-some _ (sym h)
    quiet rule.Exchange h = false≢true h.1
    quiet rule.Accuracy h = h.1
    quiet other h = h
