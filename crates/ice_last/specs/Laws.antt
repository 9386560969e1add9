-- Laws of last settlements.
use Rattle.std.specs.Prelude.{ℕ, ◌≡◌, ◌≢◌, List, Result, Ok, Err}
use Rattle.ice_defs.specs.Session.{Session}
use Rattle.ice_journal_laws.specs.Written.{session_records}
use Rattle.ice_fair.specs.Lasts.{LastTrade}
use Rattle.ice_reading.specs.declared.end.JournalEnd.{JournalEnd}
use Rattle.ice_reading.specs.Ends.{in_want}
use Rattle.ice_last.specs.Lasts.{last_settlement, LastsBytes}

-- two last settlements are of sessions with the same records, and have the same payments
pub record SaySame (one other : LastTrade) : Type 0 where
  pub mine : Session
  pub others : Session
  pub records : session_records mine ≡ session_records others
  pub one_is : one ≡ last_settlement mine
  pub other_is : other ≡ last_settlement others
  pub payments : one.paid.payments ≡ other.paid.payments

-- two answers say the same: both are such settlements, or the same reason why there is none
abbrev pub AnswerTheSame : Result LastTrade JournalEnd → Result LastTrade JournalEnd → Type 0
AnswerTheSame (Ok one) (Ok other) = SaySame one other
AnswerTheSame (Err one) (Err other) = one ≡ other
AnswerTheSame one other = ⊥

-- but for want of memory, bytes have one last settlement, or one reason why there is none
abbrev pub OneLastAnswer : Type 0
OneLastAnswer =
    (bytes : List ℕ) (one other : Result LastTrade JournalEnd) → LastsBytes bytes one → LastsBytes bytes other
    → one ≢ Err in_want → other ≢ Err in_want → AnswerTheSame one other
