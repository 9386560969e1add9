-- How far the tests of a journal have come, record by record.
use Rattle.std.specs.Prelude.{ℕ, Bool, true, false, ◌-◌, ◌≡◌, ◌≢◌, if◌then◌else◌, List, [], ◌∷◌, ◌++◌, Some, None}
use Rattle.ice_journal.specs.Records.{Record}
use Rattle.ice_journal.specs.Records as line
use Rattle.ice_journal_laws.specs.declared.rule.Rule.{Rule}
use Rattle.ice_journal_laws.specs.declared.rule.Rule.TheVariants as rule
use Rattle.ice_journal_laws.specs.State.{Place, at_section, done, State, begun}
use Rattle.ice_journal_laws.specs.Next.{next}
use Rattle.ice_journal_laws.specs.Tests.{Fails, FailsFirst, Holds, ended_list, ListHolds}
use Rattle.ice_journal_laws.specs.Checks.{Failure, is_checked, IsChecked, FirstFailure}

-- no record yet; a first record that is no head of a kind that is checked; every test passed so
-- far, with what the next ones look back at; the first failed test; or no memory was left for a
-- record
pub data Progress : Type 0 where
  nothing : Progress
  other_kind : Progress
  passing : State → Progress
  failed : Failure → Progress
  out_of_memory : Progress

-- the progress after the first record
abbrev pub after_head : Record → Progress
after_head (line.head version kind) = if is_checked version kind then passing (begun version kind) else other_kind
after_head other = other_kind

-- a list of rows that this record ends passes its test
abbrev pub EndsList : State → Record → Type 0
EndsList s r = (x : Rule) → ended_list s.place r ≡ Some x → ListHolds s.place s

-- a record takes the tests on: it passes them all, or it fails one, or the list of rows before it
-- does
pub data TakesOn (s : State) (r : Record) : Progress → Type 0 where
  passes_on : {after : State} → EndsList s r → ((x : Rule) → ¬ Fails x s r) → Holds s r → next s r ≡ Some after
      → TakesOn s r (passing after)
  fails_at : {x : Rule} → EndsList s r → FailsFirst x s r → TakesOn s r (failed (record { line = s.line; rule = x }))
  list_fails_at : {x : Rule} → ended_list s.place r ≡ Some x → ¬ ListHolds s.place s
      → TakesOn s r (failed (record { line = s.line - 1; rule = x }))

-- what the next record makes of the progress; a failed test stays the first one, and nothing
-- follows where no memory was left
abbrev pub IsAfter : Progress → Record → Progress → Type 0
IsAfter nothing r after = after ≡ after_head r
IsAfter other_kind r after = after ≡ other_kind
IsAfter (passing s) r after = TakesOn s r after
IsAfter (failed failure) r after = after ≡ failed failure
IsAfter out_of_memory r after = ⊥

-- the place is behind the section of the exchange
abbrev pub is_ready_at : Place → Bool
is_ready_at at_section = false
is_ready_at other = true

-- the section of the exchange and the record behind it are read, or no record matters any more
abbrev pub is_ready : Progress → Bool
is_ready nothing = false
is_ready other_kind = true
is_ready (passing s) = is_ready_at s.place
is_ready (failed failure) = true
is_ready out_of_memory = false

-- the number of the next line, where it matters
abbrev pub next_line : Progress → ℕ
next_line nothing = 1
next_line other_kind = 0
next_line (passing s) = s.line
next_line (failed failure) = 0
next_line out_of_memory = 0

-- the records lead the tests from one progress to another
pub data Leads : Progress → List Record → Progress → Type 0 where
  stays : {p : Progress} → Leads p [] p
  goes : {p q end : Progress} {r : Record} {rest : List Record} → IsAfter p r q → Leads q rest end → Leads p (r ∷ rest) end

-- one more record leads to what it makes of the progress
abbrev pub RecordsLeadOn : Type 0
RecordsLeadOn = (p q end : Progress) (records : List Record) (r : Record) → Leads p records q → IsAfter q r end
    → Leads p (records ++ r ∷ []) end

-- what the tests find of a journal whose records have led so far and end here
abbrev pub Finds : List Record → Progress → Type 0
Finds journal nothing = ¬ IsChecked journal
Finds journal out_of_memory = ⊥
Finds journal other_kind = ¬ IsChecked journal
Finds journal (failed failure) = IsChecked journal × FirstFailure journal (Some failure)
Finds journal (passing s) =
    IsChecked journal × (s.place ≡ done → FirstFailure journal None)
    × (s.place ≢ done → FirstFailure journal (Some (record { line = s.line; rule = rule.Short })))

-- what the records of a journal lead to tells its first failed test, or that it has none
abbrev pub ProgressFindsTheFirstFailure : Type 0
ProgressFindsTheFirstFailure = (journal : List Record) (p : Progress) → Leads nothing journal p → Finds journal p
