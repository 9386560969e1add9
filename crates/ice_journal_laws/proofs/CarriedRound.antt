-- The submissions of a round with their verdicts, and the next settlement.
use Rattle.std.proofs.Common.{◌≡◌, ◌≢◌, suc, Bool, false, cond, List, [], ◌∷◌, ◌++◌, length, refl, sym, ◌∙◌, ap, subst, arith, append_assoc}
use Rattle.std.specs.Prelude.{Some, None, option_map}
use Rattle.std.specs.List.{flat_map}
use Rattle.std.proofs.lemmas.Bool.{false≢true, eq-eqb}
use Rattle.std.proofs.lemmas.Option.{none-some}
use Rattle.std.proofs.lemmas.List.{append-nil}
use Rattle.ice_defs.specs.declared.Verdict.{Verdict}
use Rattle.ice_defs.specs.Trade.{Assignment}
use Rattle.ice_defs.specs.Bounds.{Bounds}
use Rattle.ice_defs.specs.Exchange.{Bidder}
use Rattle.ice_defs.specs.Rows.{Certificate}
use Rattle.ice_defs.specs.Round.{Submission, Judged, IsNextVerdict}
use Rattle.ice_defs.specs.Session.{standings, standings_from}
use Rattle.ice_journal.specs.Records.{Record}
use Rattle.ice_journal.specs.Records as line
use Rattle.ice_journal_laws.specs.declared.rule.Rule.{Rule}
use Rattle.ice_journal_laws.specs.declared.rule.Rule.TheVariants as rule
use Rattle.ice_journal_laws.specs.State.{Place, at_balance_rows, done, at_round, at_verdict, State, exchange_at, settings_at}
use Rattle.ice_journal_laws.specs.Next.{next, to_line, or_stop, with_row, next_settlement}
use Rattle.ice_journal_laws.specs.Tests.{Fails, BalanceHolds}
use Rattle.ice_journal_laws.specs.Progress.{passes_on}
use Rattle.ice_journal_laws.specs.Written.{judged_records}
use Rattle.ice_journal_laws.specs.Carrying.{Carries}
use Rattle.ice_journal_laws.specs.ShowingSession.{AreShownVerdicts}
use Rattle.ice_journal_laws.proofs.Carried.{TakesTo, carries_none, carries_then}

-- the next submission or settlement is awaited behind the rows of the balance, or behind the last
-- verdict
abbrev pub resting : Certificate → List Judged → Place
resting c [] = at_balance_rows c.den c.rows
resting c (j ∷ later) = at_round

abbrev pub resting_at : Certificate → List Judged → State → State
resting_at c judged s = record s { place = resting c judged; judged = judged }

pub resting_open : (c : Certificate) (judged : List Judged) → resting c judged ≢ done
resting_open c [] = λ e. cc
resting_open c (j ∷ later) = λ e. cc

pub rests : (c : Certificate) (judged : List Judged) (j : Judged) → resting c (judged ++ j ∷ []) ≡ at_round
rests c [] j = refl
rests c (i ∷ judged) j = refl

-- a standing for each bidder
pub standings_count : (bidders : List Bidder) (bounds : List Bounds) (sets : Assignment) → length bounds ≡ length bidders → length sets ≡ length bidders → length (standings_from bidders bounds sets) ≡ length bidders
standings_count [] bounds sets same count = refl
standings_count (b ∷ bidders) [] sets same count = absurd (omega (arith, same))
standings_count (b ∷ bidders) (now ∷ bounds) [] same count = absurd (omega (arith, count))
standings_count (b ∷ bidders) (now ∷ bounds) (s ∷ sets) same count = omega (arith, standings_count bidders bounds sets (omega (arith, same)) (omega (arith, count)))

-- a submission
submit_takes : (s : State) (c : Certificate) (judged : List Judged) (x : Submission) → BalanceHolds s c.den c.rows → TakesTo (resting_at c judged s) (line.submit x) (record s { place = at_verdict x; judged = judged })
submit_takes s c [] x is n = passes_on (λ z e. is) quiet (record { leaf = tt; violation = tt; list = λ last. tt; verdict = tt }) refl
  where
    quiet : (z : Rule) → ¬ Fails z (to_line n (resting_at c [] s)) (line.submit x)
    quiet rule.Closed h = false≢true h.0
    quiet rule.Order h = none-some _ (sym h)
    quiet rule.Exchange h = false≢true h.1
    quiet rule.Balance h = h.1
    quiet other h = h
submit_takes s c (j ∷ later) x is n = passes_on (λ z e. absurd (none-some z e)) quiet (record { leaf = tt; violation = tt; list = tt; verdict = tt }) refl
  where
    quiet : (z : Rule) → ¬ Fails z (to_line n (resting_at c (j ∷ later) s)) (line.submit x)
    quiet rule.Closed h = false≢true h.0
    quiet rule.Order h = none-some _ (sym h)
    quiet rule.Exchange h = false≢true h.1
    quiet other h = h

-- its verdict
verdict_takes : (s : State) (judged : List Judged) (x : Submission) (v : Verdict) → IsNextVerdict s.prices (settings_at s).improve (standings (exchange_at s) s.bounds s.offered) judged x v
    → TakesTo (record s { place = at_verdict x; judged = judged }) (line.verdict v) (record s { place = at_round; judged = judged ++ record { submission = x; verdict = v } ∷ [] })
verdict_takes s judged x v is n = passes_on (λ z e. absurd (none-some z e)) quiet (record { leaf = tt; violation = tt; list = tt; verdict = is }) refl
  where
    quiet : (z : Rule) → ¬ Fails z (record s { line = n; place = at_verdict x; judged = judged }) (line.verdict v)
    quiet rule.Closed h = false≢true h.0
    quiet rule.Order h = none-some _ (sym h)
    quiet rule.Exchange h = false≢true h.1
    quiet rule.Verdict h = h is
    quiet other h = h

-- a submission and its verdict, behind these
pair_carries : (s t : State) (c : Certificate) (judged : List Judged) (j : Judged) (rest : List Record) → BalanceHolds s c.den c.rows
    → IsNextVerdict s.prices (settings_at s).improve (standings (exchange_at s) s.bounds s.offered) judged j.submission j.verdict
    → Carries (resting_at c (judged ++ j ∷ []) s) rest t → Carries (resting_at c judged s) (judged_records j ++ rest) t
pair_carries s t c judged j rest holds is more =
    carries_then (resting_at c judged s) (record s { place = at_verdict j.submission; judged = judged }) t (line.submit j.submission) (line.verdict j.verdict ∷ rest) (submit_takes s c judged j.submission holds)
    (carries_then (record s { place = at_verdict j.submission; judged = judged }) (record s { place = at_round; judged = judged ++ j ∷ [] }) t (line.verdict j.verdict) rest (verdict_takes s judged j.submission j.verdict is)
    (subst (λ (p : Place). Carries (record s { place = p; judged = judged ++ j ∷ [] }) rest t) (rests c judged j) more))

-- all that are left of the round
pub judged_carry : (s : State) (c : Certificate) (judged later : List Judged) → BalanceHolds s c.den c.rows → AreShownVerdicts s.prices (settings_at s).improve (standings (exchange_at s) s.bounds s.offered) judged later
    → Carries (resting_at c judged s) (flat_map judged_records later) (resting_at c (judged ++ later) s)
judged_carry s c judged [] holds are = subst (λ (js : List Judged). Carries (resting_at c judged s) [] (resting_at c js s)) (sym (append-nil judged)) (carries_none (resting_at c judged s))
judged_carry s c judged (j ∷ later) holds are =
    pair_carries s (resting_at c (judged ++ j ∷ later) s) c judged j (flat_map judged_records later) holds are.0
    (subst (λ (js : List Judged). Carries (resting_at c (judged ++ j ∷ []) s) (flat_map judged_records later) (resting_at c js s)) (append_assoc judged (j ∷ []) later)
    (judged_carry s c (judged ++ j ∷ []) later holds are.1))

-- the next settlement
pub settle_takes : (s : State) (c : Certificate) (judged : List Judged) → BalanceHolds s c.den c.rows → TakesTo (resting_at c judged s) (line.settle (suc s.number)) (next_settlement (record s { judged = judged }))
settle_takes s c [] holds n = passes_on (λ z e. holds) quiet (record { leaf = tt; violation = tt; list = λ last. tt; verdict = tt }) is
  where
    is : next (to_line n (resting_at c [] s)) (line.settle (suc s.number)) ≡ Some (to_line (suc n) (next_settlement (record s { judged = [] })))
    is = ap (λ (t : Bool). option_map (to_line (suc n)) (or_stop false s (with_row c.rows (at_balance_rows c.den) s (line.settle (suc s.number)) (cond t (Some (next_settlement (record s { line = n; judged = [] }))) None)))) (eq-eqb (suc s.number) (suc s.number) refl)

    quiet : (z : Rule) → ¬ Fails z (to_line n (resting_at c [] s)) (line.settle (suc s.number))
    quiet rule.Closed h = false≢true h.0
    quiet rule.Order h = none-some _ (sym h ∙ is)
    quiet rule.Exchange h = false≢true h.1
    quiet rule.Balance h = h.1
    quiet other h = h
settle_takes s c (j ∷ later) holds n = passes_on (λ z e. absurd (none-some z e)) quiet (record { leaf = tt; violation = tt; list = tt; verdict = tt }) is
  where
    is : next (to_line n (resting_at c (j ∷ later) s)) (line.settle (suc s.number)) ≡ Some (to_line (suc n) (next_settlement (record s { judged = j ∷ later })))
    is = ap (λ (t : Bool). option_map (to_line (suc n)) (cond t (Some (next_settlement (record s { line = n; judged = j ∷ later }))) None)) (eq-eqb (suc s.number) (suc s.number) refl)

    quiet : (z : Rule) → ¬ Fails z (to_line n (resting_at c (j ∷ later) s)) (line.settle (suc s.number))
    quiet rule.Closed h = false≢true h.0
    quiet rule.Order h = none-some _ (sym h ∙ is)
    quiet rule.Exchange h = false≢true h.1
    quiet other h = h
