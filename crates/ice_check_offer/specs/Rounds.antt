-- Where a submission may come.
use Rattle.std.specs.Prelude.{ℕ, suc, ◌≡◌, None}
use Rattle.ice_defs.specs.Round.{Submission}
use Rattle.ice_defs.specs.Exchange.{Exchange}
use Rattle.ice_journal.specs.Records.{Record}
use Rattle.ice_journal.specs.Records as line
use Rattle.ice_journal_laws.specs.declared.rule.Rule.TheVariants as rule
use Rattle.ice_journal_laws.specs.State.{State, at_verdict}
use Rattle.ice_journal_laws.specs.Fields.{submission_in}
use Rattle.ice_journal_laws.specs.Next.{to_line, go_to, next_settlement, to_settlement}
use Rattle.ice_journal_laws.specs.Progress.{passing, failed, TakesOn}
use Rattle.ice_check_offer.specs.declared.offer.Offer.{Offer}
use Rattle.ice_check_offer.specs.Offers.{IsOfferOf}
use Rattle.ice_verdicts.specs.Judges.{IsAfter}

-- in this state a submission or the next settlement passes, and any other record fails
pub record Opens (ex : Exchange) (o : Offer) (s : State) (r : Record) : Type 0 where
  pub prices : s.prices ≡ o.judge.prices
  pub after : IsAfter ex s.judged o.judge
  pub submits : (x : Submission) → r ≡ line.submit x → TakesOn s r (passing (to_line (suc s.line) (go_to (at_verdict x) s)))
  pub settles : r ≡ line.settle (suc s.number) → TakesOn s r (passing (to_line (suc s.line) (next_settlement s)))
  pub fails : submission_in r ≡ None → to_settlement s r ≡ None → TakesOn s r (failed (record { line = s.line; rule = rule.Order }))

abbrev pub CanOpen : Exchange → ℕ → Offer → Record → Type 0
CanOpen ex number o r = (s : State) → IsOfferOf ex o s → s.number ≡ number → Opens ex o s r
