-- A property of each step that records take.
use Rattle.std.specs.Prelude.{ℕ, ◌+◌, ◌≡◌, IfSome, List, [], ◌∷◌, Some}
use Rattle.ice_defs.specs.Steps.{branch_count}
use Rattle.ice_journal.specs.Records.{Record}
use Rattle.ice_journal.specs.Records as line
use Rattle.ice_journal_laws.specs.State.{State}
use Rattle.ice_journal_laws.specs.Next.{next, to_line}
use Rattle.ice_journal_laws.specs.Tests.{Taken, taken_step}
use Rattle.ice_journal_laws.specs.Carrying.{Carries}

module _ (P : State → Taken → Type 0) where
  -- each step that these records take from this state has the property
  abbrev pub EachTaken : State → List Record → Type 0
  EachTaken s [] = Unit {0}
  EachTaken s (r ∷ rest) = IfSome (taken_step s s.place r) (P s) × ((after : State) → next s r ≡ Some after → EachTaken after rest)

  -- the records lead from state to state and pass, and each step that they take has the property
  pub record Earns (s : State) (records : List Record) (t : State) : Type 0 where
    pub carries : Carries s records t
    pub taken : (n : ℕ) → EachTaken (to_line n s) records

-- how many branch steps the records have
abbrev pub branches_in : List Record → ℕ
branches_in [] = 0
branches_in (line.step s ∷ rest) = branch_count (s ∷ []) + branches_in rest
branches_in (r ∷ rest) = branches_in rest
