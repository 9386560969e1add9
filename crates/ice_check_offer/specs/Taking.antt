-- What a record makes of an offer and of the tests.
use Rattle.std.specs.Prelude.{ℕ, suc, ◌-◌, ◌≡◌, Result, Ok, Err}
use Rattle.ice_defs.specs.Exchange.{Exchange}
use Rattle.ice_journal.specs.Records.{Record}
use Rattle.ice_journal_laws.specs.State.{State}
use Rattle.ice_journal_laws.specs.Next.{to_line, next_settlement}
use Rattle.ice_journal_laws.specs.Progress.{passing, failed, TakesOn}
use Rattle.ice_check_offer.specs.declared.fault.Fault.{Fault}
use Rattle.ice_check_offer.specs.declared.fault.Fault.TheVariants.{Here, List as OfList}
use Rattle.ice_check_offer.specs.declared.place.Went.{Went}
use Rattle.ice_check_offer.specs.declared.place.Went.TheVariants.{On, ToSettlement}
use Rattle.ice_check_offer.specs.declared.offer.Offer.{Offer}
use Rattle.ice_check_offer.specs.Offers.{IsOfferOf, IsKept, IsFresh}

-- the record passes in this state, and the offer then stands for the state behind it
pub record Goes (ex : Exchange) (s : State) (r : Record) (after : Offer) : Type 0 where
  pub state : State
  pub passes : TakesOn s r (passing state)
  pub line : state.line ≡ suc s.line
  pub same : state
      ≡ record s { line = state.line; place = state.place; prices = state.prices; violation = state.violation; judged = state.judged }
  pub stands : IsOfferOf ex after state

pub record GoesOn (ex : Exchange) (number : ℕ) (o : Offer) (r : Record) (after : Offer) : Type 0 where
  pub kept : IsKept ex after
  pub bounds : after.judge.bounds ≡ o.judge.bounds
  pub goes : (s : State) → IsOfferOf ex o s → s.number ≡ number → Goes ex s r after

-- the record begins the next settlement, at the bounds that the round leaves
pub record GoesToSettlement (ex : Exchange) (number : ℕ) (o : Offer) (r : Record) (after : Offer) : Type 0 where
  pub kept : IsKept ex after
  pub fresh : IsFresh ex after.judge
  pub passes : (s : State) → IsOfferOf ex o s → s.number ≡ number → TakesOn s r (passing (to_line (suc s.line) (next_settlement s)))
  pub bounds : (s : State) → IsOfferOf ex o s → s.number ≡ number → (next_settlement s).bounds ≡ after.judge.bounds

-- it fails this test first; or the list of rows before it does
abbrev pub FailsBy : Exchange → ℕ → Offer → Record → Fault → Type 0
FailsBy ex number o r (Here rule) = (s : State) → IsOfferOf ex o s → s.number ≡ number
    → TakesOn s r (failed (record { line = s.line; rule = rule }))
FailsBy ex number o r (OfList rule) = (s : State) → IsOfferOf ex o s → s.number ≡ number
    → TakesOn s r (failed (record { line = s.line - 1; rule = rule }))

abbrev pub Takes : Exchange → ℕ → Offer → Record → Result Went Fault → Offer → Type 0
Takes ex number o r (Ok On) after = GoesOn ex number o r after
Takes ex number o r (Ok ToSettlement) after = GoesToSettlement ex number o r after
Takes ex number o r (Err fault) after = FailsBy ex number o r fault
