-- The first failed test of a journal, or none.
use Rattle.std.specs.Prelude.{ℕ, ◌-◌, ◌≡◌, ◌≢◌, Bool, true, false, IsTrue, List, [], ◌∷◌, Option, Some, None}
use Rattle.ice_journal.specs.Records.{Record, Version, version_1, version_2, Kind, assign_kind, regret_kind, session_kind}
use Rattle.ice_journal.specs.Records as line
use Rattle.ice_journal_laws.specs.declared.rule.Rule.{Rule}
use Rattle.ice_journal_laws.specs.declared.rule.Rule.TheVariants as rule
use Rattle.ice_journal_laws.specs.State.{done, State, begun}
use Rattle.ice_journal_laws.specs.Next.{next}
use Rattle.ice_journal_laws.specs.Tests.{Fails, FailsFirst, Holds, ended_list, ListHolds}

-- a failed test: its line and its rule
pub record Failure : Type 0 where
  pub line : ℕ
  pub rule : Rule

-- the records from here on: the first test that one of them fails, or none
pub data Tested : State → List Record → Option Failure → Type 0 where
  passes : {s : State} → s.place ≡ done → Tested s [] None
  is_short : {s : State} → s.place ≢ done → Tested s [] (Some (record { line = s.line; rule = rule.Short }))
  list_fails : {s : State} {r : Record} {rest : List Record} {x : Rule}
      → ended_list s.place r ≡ Some x → ¬ ListHolds s.place s → Tested s (r ∷ rest) (Some (record { line = s.line - 1; rule = x }))
  fails : {s : State} {r : Record} {rest : List Record} {x : Rule}
      → ((y : Rule) → ended_list s.place r ≡ Some y → ListHolds s.place s) → FailsFirst x s r
      → Tested s (r ∷ rest) (Some (record { line = s.line; rule = x }))
  goes_on : {s after : State} {r : Record} {rest : List Record} {end : Option Failure}
      → ((y : Rule) → ended_list s.place r ≡ Some y → ListHolds s.place s) → ((x : Rule) → ¬ Fails x s r) → Holds s r
      → next s r ≡ Some after → Tested after rest end → Tested s (r ∷ rest) end

-- a head that is checked: assign in version 1, and regret and session in both
abbrev pub is_checked : Version → Kind → Bool
is_checked version_1 assign_kind = true
is_checked version_2 assign_kind = false
is_checked version regret_kind = true
is_checked version session_kind = true
is_checked version other = false

-- the journal begins with a head that is checked
abbrev pub IsChecked : List Record → Type 0
IsChecked (line.head version kind ∷ rest) = IsTrue (is_checked version kind)
IsChecked other = ⊥

-- the first failed test of a journal, or none
abbrev pub FirstFailure : List Record → Option Failure → Type 0
FirstFailure (line.head version kind ∷ rest) end = Tested (begun version kind) rest end
FirstFailure other end = ⊥

-- the journal passes every test
abbrev pub Checks : List Record → Type 0
Checks journal = IsChecked journal × FirstFailure journal None
