-- What a record makes of the tests at the prices of a settlement, at their certificates, and in its
-- round.
use Rattle.std.proofs.Common.{◌≡◌, ◌<◌, ℕ, suc, Bool, true, false, cond, eqb, [], ◌∷◌, ◌++◌, length, ℤ, refl, sym, ◌∙◌, ap, subst, arith}
use Rattle.std.specs.Prelude.{IsSomeAnd, Option, Some, None, option_map}
use Rattle.std.proofs.lemmas.Bool.{false≢true}
use Rattle.std.proofs.lemmas.Option.{none-some}
use Rattle.ice_defs.specs.Prices.{Prices}
use Rattle.ice_defs.specs.Pricing.{IsViolation}
use Rattle.ice_defs.specs.Round.{Submission, IsNextVerdict}
use Rattle.ice_defs.specs.declared.Verdict.{Verdict}
use Rattle.ice_defs.specs.Session.{standings}
use Rattle.ice_journal.specs.Records.{Record}
use Rattle.ice_journal.specs.Records as line
use Rattle.ice_journal_laws.specs.declared.rule.Rule.{Rule}
use Rattle.ice_journal_laws.specs.declared.rule.Rule.TheVariants as rule
use Rattle.ice_journal_laws.specs.State.{at_prices, at_accuracy, at_accuracy_rows, at_round, at_verdict, at_pool, State, exchange_at, settings_at, trees_at, goods_at}
use Rattle.ice_journal_laws.specs.Fields.{is_limit, prices_in, Accuracy, accuracy_in, submission_in, verdict_in}
use Rattle.ice_journal_laws.specs.Next.{next, to_line, go_to, if_true, or_stop, from_round, to_settlement, next_settlement}
use Rattle.ice_journal_laws.specs.Tests.{Fails, place_of, AreUnlawful, offered_weights}
use Rattle.ice_journal_laws.specs.Progress.{passing, failed, TakesOn, passes_on, fails_at}
use Rattle.ice_journal_laws.proofs.Places.{fails_order}

module _ (s : State) where
  -- ---- the prices

  abbrev AtPrices : State
  AtPrices = go_to at_prices s

  pub prices_missing : (r : Record) → prices_in (goods_at s) r ≡ None → is_limit r ≡ false → TakesOn (go_to at_prices s) r (failed (record { line = s.line; rule = rule.Order }))
  prices_missing r none other =
      fails_order AtPrices r refl
      (ap (λ (o : Option Prices). option_map (to_line (suc s.line)) (or_stop (is_limit r) (go_to at_pool AtPrices) (option_map (λ p. go_to at_accuracy (record AtPrices { prices = p })) o))) none
      ∙ ap (λ (b : Bool). option_map (to_line (suc s.line)) (if_true b (go_to at_pool AtPrices))) other)

  pub prices_limited : (r : Record) → is_limit r ≡ true → TakesOn (go_to at_prices s) r (failed (record { line = s.line; rule = rule.Closed }))
  prices_limited (line.limit stage kind violation den) e = fails_at (λ z e. absurd (none-some z e)) ((refl, refl), λ z l f. absurd (omega (arith, l)))
  prices_limited other e = absurd (false≢true e)

  module _ (p : Prices) (counts : eqb (length p.nums) (goods_at s) ≡ true) where
    abbrev priced : State
    priced = to_line (suc s.line) (go_to at_accuracy (record s { prices = p }))

    prices_are : prices_in (goods_at s) (line.prices p) ≡ Some p
    prices_are = ap (λ (b : Bool). (let o : Option Prices = cond b (Some p) None in o)) counts

    prices_next : next AtPrices (line.prices p) ≡ Some priced
    prices_next = ap (λ (o : Option Prices). option_map (to_line (suc s.line)) (or_stop false (go_to at_pool AtPrices) (option_map (λ p. go_to at_accuracy (record AtPrices { prices = p })) o))) prices_are

    pub prices_wrong : AreUnlawful s p → TakesOn (go_to at_prices s) (line.prices p) (failed (record { line = s.line; rule = rule.Prices }))
    prices_wrong unlawful = fails_at (λ z e. absurd (none-some z e)) (subst (λ (o : Option Prices). IsSomeAnd o (AreUnlawful AtPrices)) (sym prices_are) unlawful, least)
      where
        least : (z : Rule) → place_of z < 17 → ¬ Fails z AtPrices (line.prices p)
        least rule.Closed l h = false≢true h.0
        least rule.Order l h = none-some _ (sym h ∙ prices_next)
        least rule.Exchange l h = false≢true h.1
        least rule.Prices l h = absurd (omega (arith, l))
        least other l h = h

    pub prices_right : ¬ AreUnlawful s p → TakesOn (go_to at_prices s) (line.prices p) (passing (to_line (suc s.line) (go_to at_accuracy (record s { prices = p }))))
    prices_right lawful = passes_on (λ z e. absurd (none-some z e)) quiet (record { leaf = tt; violation = tt; list = tt; verdict = tt }) prices_next
      where
        quiet : (z : Rule) → ¬ Fails z AtPrices (line.prices p)
        quiet rule.Closed h = false≢true h.0
        quiet rule.Order h = none-some _ (sym h ∙ prices_next)
        quiet rule.Exchange h = false≢true h.1
        quiet rule.Prices h = lawful (subst (λ (o : Option Prices). IsSomeAnd o (AreUnlawful AtPrices)) prices_are h)
        quiet other h = h

  -- ---- the violation

  abbrev AtAccuracy : State
  AtAccuracy = go_to at_accuracy s

  pub accuracy_missing : (r : Record) → accuracy_in r ≡ None → TakesOn (go_to at_accuracy s) r (failed (record { line = s.line; rule = rule.Order }))
  accuracy_missing r none =
      fails_order AtAccuracy r refl (ap (λ (o : Option Accuracy). option_map (to_line (suc s.line)) (option_map (λ a. go_to (at_accuracy_rows a.den []) (record AtAccuracy { violation = a.violation })) o)) none)

  pub violation_wrong : (x : ℤ) (den : ℕ) → ¬ IsViolation (trees_at s) (offered_weights s) s.offered s.prices x
      → TakesOn (go_to at_accuracy s) (line.accuracy x den) (failed (record { line = s.line; rule = rule.Violation }))
  violation_wrong x den other = fails_at (λ z e. absurd (none-some z e)) (other, least)
    where
      least : (z : Rule) → place_of z < 18 → ¬ Fails z AtAccuracy (line.accuracy x den)
      least rule.Closed l h = false≢true h.0
      least rule.Order l h = none-some _ (sym h)
      least rule.Exchange l h = false≢true h.1
      least rule.Violation l h = absurd (omega (arith, l))
      least other l h = h

  pub violation_right : (x : ℤ) (den : ℕ) → IsViolation (trees_at s) (offered_weights s) s.offered s.prices x
      → TakesOn (go_to at_accuracy s) (line.accuracy x den) (passing (to_line (suc s.line) (go_to (at_accuracy_rows den []) (record s { violation = x }))))
  violation_right x den is = passes_on (λ z e. absurd (none-some z e)) quiet (record { leaf = tt; violation = is; list = tt; verdict = tt }) refl
    where
      quiet : (z : Rule) → ¬ Fails z AtAccuracy (line.accuracy x den)
      quiet rule.Closed h = false≢true h.0
      quiet rule.Order h = none-some _ (sym h)
      quiet rule.Exchange h = false≢true h.1
      quiet rule.Violation h = h is
      quiet other h = h

  -- ---- a round

  abbrev AtRound : State
  AtRound = go_to at_round s

  pub round_submits : (x : Submission) → TakesOn (go_to at_round s) (line.submit x) (passing (to_line (suc s.line) (go_to (at_verdict x) s)))
  round_submits x = passes_on (λ z e. absurd (none-some z e)) quiet (record { leaf = tt; violation = tt; list = tt; verdict = tt }) refl
    where
      quiet : (z : Rule) → ¬ Fails z AtRound (line.submit x)
      quiet rule.Closed h = false≢true h.0
      quiet rule.Order h = none-some _ (sym h)
      quiet rule.Exchange h = false≢true h.1
      quiet other h = h

  module _ (number : ℕ) (follows : eqb number (suc s.number) ≡ true) where
    settles_next : next AtRound (line.settle number) ≡ Some (to_line (suc s.line) (next_settlement s))
    settles_next = ap (λ (b : Bool). option_map (to_line (suc s.line)) (if_true b (next_settlement AtRound))) follows

    pub round_settles : TakesOn (go_to at_round s) (line.settle number) (passing (to_line (suc s.line) (next_settlement s)))
    round_settles = passes_on (λ z e. absurd (none-some z e)) quiet (record { leaf = tt; violation = tt; list = tt; verdict = tt }) settles_next
      where
        quiet : (z : Rule) → ¬ Fails z AtRound (line.settle number)
        quiet rule.Closed h = false≢true h.0
        quiet rule.Order h = none-some _ (sym h ∙ settles_next)
        quiet rule.Exchange h = false≢true h.1
        quiet other h = h

  -- neither a submission nor the next settlement
  pub goes_nowhere : (t : State) (r : Record) → submission_in r ≡ None → to_settlement t r ≡ None → from_round t r ≡ None
  goes_nowhere t (line.submit x) e f = absurd (none-some x (sym e))
  goes_nowhere t other e f = f

  pub round_missing : (r : Record) → submission_in r ≡ None → to_settlement (go_to at_round s) r ≡ None → TakesOn (go_to at_round s) r (failed (record { line = s.line; rule = rule.Order }))
  round_missing r none other = fails_order AtRound r refl (ap (option_map (to_line (suc s.line))) (goes_nowhere AtRound r none other))

  -- ---- the verdict on a submission

  module _ (x : Submission) where
    abbrev AtVerdict : State
    AtVerdict = go_to (at_verdict x) s

    abbrev IsDue : Verdict → Type 0
    IsDue v = IsNextVerdict s.prices (settings_at s).improve (standings (exchange_at s) s.bounds s.offered) s.judged x v

    pub verdict_missing : (r : Record) → verdict_in r ≡ None → TakesOn (go_to (at_verdict x) s) r (failed (record { line = s.line; rule = rule.Order }))
    verdict_missing r none =
        fails_order AtVerdict r refl
        (ap (λ (o : Option Verdict). option_map (to_line (suc s.line)) (option_map (λ v. go_to at_round (record AtVerdict { judged = s.judged ++ record { submission = x; verdict = v } ∷ [] })) o)) none)

    pub verdict_wrong : (v : Verdict) → ¬ IsNextVerdict s.prices (settings_at s).improve (standings (exchange_at s) s.bounds s.offered) s.judged x v
        → TakesOn (go_to (at_verdict x) s) (line.verdict v) (failed (record { line = s.line; rule = rule.Verdict }))
    verdict_wrong v other = fails_at (λ z e. absurd (none-some z e)) (other, least)
      where
        least : (z : Rule) → place_of z < 21 → ¬ Fails z AtVerdict (line.verdict v)
        least rule.Closed l h = false≢true h.0
        least rule.Order l h = none-some _ (sym h)
        least rule.Exchange l h = false≢true h.1
        least rule.Verdict l h = absurd (omega (arith, l))
        least other l h = h

    pub verdict_right : (v : Verdict) → IsNextVerdict s.prices (settings_at s).improve (standings (exchange_at s) s.bounds s.offered) s.judged x v
        → TakesOn (go_to (at_verdict x) s) (line.verdict v) (passing (to_line (suc s.line) (go_to at_round (record s { judged = s.judged ++ record { submission = x; verdict = v } ∷ [] }))))
    verdict_right v is = passes_on (λ z e. absurd (none-some z e)) quiet (record { leaf = tt; violation = tt; list = tt; verdict = is }) refl
      where
        quiet : (z : Rule) → ¬ Fails z AtVerdict (line.verdict v)
        quiet rule.Closed h = false≢true h.0
        quiet rule.Order h = none-some _ (sym h)
        quiet rule.Exchange h = false≢true h.1
        quiet rule.Verdict h = h is
        quiet other h = h
