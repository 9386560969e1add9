-- Settlements that go on, and journals that stop at a search whose branches are spent.
use Rattle.std.specs.Prelude.{ℕ, suc, ◌≡◌, false, List, [], ◌∷◌, ◌++◌, IsTrue, map, ℤ, Some}
use Rattle.ice_defs.specs.Bounds.{Bounds}
use Rattle.ice_defs.specs.Exchange.{Exchange}
use Rattle.ice_defs.specs.Session.{closes, Going}
use Rattle.ice_headline_laws.specs.Right.{IsGoing, bounds_after_round}
use Rattle.ice_journal.specs.Records.{Record, version_1, Kind, regret_kind, spent_end}
use Rattle.ice_journal_laws.specs.Written.{going_records}
use Rattle.ice_defs.specs.Trade.{Assignment}
use Rattle.ice_defs.specs.Steps.{Step}
use Rattle.ice_defs.specs.Sweep.{EarnsStep}
use Rattle.ice_defs.specs.Searched.{IsSpentSearch}
use Rattle.ice_journal.specs.Records as line
use Rattle.ice_journal.specs.Plain.{plain}
use Rattle.ice_section.specs.Section.{may_end}
use Rattle.ice_defs.specs.declared.Group.{Group}
use Rattle.ice_defs.specs.declared.Group.TheVariants.{Final}
use Rattle.ice_defs.specs.Group.{start_of, first_sets}
use Rattle.ice_journal_laws.specs.State.{at_section, at_group, State, begun, settings_at, trees_at, exact_at, weights_at}
use Rattle.ice_journal_laws.specs.Next.{after_all, past_section}
use Rattle.ice_journal_laws.specs.StepsTaken.{EachTaken, branches_in}
use Rattle.ice_journal_laws.specs.Earning.{IsEarnedTaken}

-- the records of settlements that go on, from this number on
abbrev pub all_going_records : ℕ → List Going → List Record
all_going_records number [] = []
all_going_records number (g ∷ later) = going_records number g ++ all_going_records (suc number) later

-- each of these settlements says what is so, and fails the close test
abbrev pub AreGoing : Exchange → ℕ → List Bounds → List Going → Type 0
AreGoing ex number bounds [] = Unit {0}
AreGoing ex number bounds (g ∷ later) =
    (closes ex.settings number g.settlement.regret ≡ false) × IsGoing ex bounds g
    × AreGoing ex (suc number) (bounds_after_round ex bounds g) later

-- the state in which a group's head is awaited; the first group of a regret journal stands where
-- the section of the exchange ends
pub data Awaits : State → Group → State → Type 0 where
  next_group : {s : State} {g : Group} → s.place ≡ at_group g → Awaits s g s
  first_group : {s : State} → s.place ≡ at_section → s.kind ≡ regret_kind → IsTrue (may_end s.section) → Awaits s Final (past_section s)

-- the journal of this kind says these records and then stops at a search that spent its branches
pub record IsSpent (kind : Kind) (journal : List Record) : Type 0 where
  pub before : List Record
  pub value : ℤ
  pub above : ℤ
  pub sets : Assignment
  pub log : List Step
  -- the log means its steps, in either version: version 2 writes a leaf by its changes
  pub says : plain journal ≡ line.head version_1 kind ∷ before ++ line.spent value above ∷ map line.set sets ++ map line.step log
      ++ line.end spent_end ∷ []
  pub state : State
  pub reached : after_all (begun version_1 kind) before ≡ Some state
  pub group : Group
  pub now : State
  pub awaited : Awaits state group now
  -- all branches are used, and each was earned
  pub counted : branches_in (plain journal) ≡ (settings_at now).branches
  pub earned_before : EachTaken (IsEarnedTaken EarnsStep) (begun version_1 kind) before
  -- what was found is below what is left, and a branch is left that would be earned
  pub search : IsSpentSearch (trees_at now) (exact_at now) (weights_at now group) (start_of (trees_at now) group)
      (first_sets (trees_at now) now.final.sets group) (record { value = value; sets = sets; log = log }) above
