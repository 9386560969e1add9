-- What is known while the records of a journal are read, and at their end.
use Rattle.std.specs.Prelude.{◌≡◌, ◌≤◌, List, length, Result, Ok, Err}
use Rattle.std.specs.List.{AllByRecursion}
use Rattle.ice_defs.specs.Fraction.{Fraction}
use Rattle.ice_defs.specs.Exchange.{trees_of}
use Rattle.ice_defs.specs.Conditions.{AreBoundsOf}
use Rattle.ice_journal.specs.Records.{Record}
use Rattle.ice_journal.specs.Ranges.{IsFractionField}
use Rattle.ice_journal_laws.specs.declared.answer.Answer.{Answer}
use Rattle.ice_journal_laws.specs.declared.answer.Answer.TheVariants as answer
use Rattle.ice_journal_laws.specs.declared.answer.CheckEnd.{CheckEnd}
use Rattle.ice_journal_laws.specs.declared.answer.CheckEnd.TheVariants.{OtherKind}
use Rattle.ice_journal_laws.specs.Progress.{Progress}
use Rattle.ice_check_records.specs.declared.closed.ClosedSession.{ClosedSession}
use Rattle.ice_check_records.specs.Checking.{HasCome, ComesTo}
use Rattle.ice_fair_laws.specs.Fair.{PaidTrade, paid_of}
use Rattle.ice_fair_laws.specs.Laws.{IsPaidTrade}
use Rattle.ice_fair_laws.specs.Run.{IsCutDen}
use Rattle.ice_fair.specs.Lasts.{LastTrade, last_at}
use Rattle.ice_reading.specs.declared.end.JournalEnd.{JournalEnd}
use Rattle.ice_reading.specs.declared.end.JournalEnd.TheVariants.{Unjudged, FailsTest}
use Rattle.ice_last.specs.declared.closing.Closing.{Closing}
use Rattle.ice_last.specs.Watching.{WatchesOn}

-- a record takes the tests on, and makes more known of the journal
pub record ClosesOn (s : Closing) (r : Record) (t : Closing) : Type 0 where
  pub takes : (p : Progress) → HasCome s.checker p → ComesTo p r t.checker
  pub watches : WatchesOn s.watch r t.watch

-- why there is no last settlement, by what the tests find of a session that hasn't closed
abbrev pub end_found : Result Answer CheckEnd → JournalEnd
end_found (Ok (answer.No line test)) = FailsTest line test
end_found (Ok other) = Unjudged OtherKind
end_found (Err end) = Unjudged end

-- the last settlement of a session that has closed, with these payments
abbrev pub trade_in : ClosedSession → List Fraction → LastTrade
trade_in x payments = last_at x.exchange x.bounds.items x.final_sets payments x.cut.den

abbrev pub paid_in : ClosedSession → List Fraction → PaidTrade
paid_in x payments = paid_of x.exchange x.bounds.items x.final_sets payments

-- its bidders have bounds of their trees and satisfied sets and pay fractions of records, whose
-- denominators divide that of the cut
pub record IsPayable (x : ClosedSession) (payments : List Fraction) : Type 0 where
  pub bounds : AreBoundsOf (trees_of x.exchange) x.bounds.items
  pub count : length x.final_sets ≡ length (trees_of x.exchange)
  pub paid : IsPaidTrade (paid_in x payments)
  pub cut : IsCutDen (paid_in x payments) x.cut.den
  pub few : x.cut.den ≤ 1000
  pub fields : AllByRecursion IsFractionField payments
