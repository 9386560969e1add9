-- A journal as far as it is written.
use Rattle.std.specs.Prelude.{ℕ, ◌≡◌, ◌⊎◌, IsSome, List, ◌∷◌, Option, Some, None}
use Rattle.std.specs.List.{AllByRecursion}
use Rattle.ice_journal.specs.Records.{Record, Kind, version_2}
use Rattle.ice_journal.specs.Records as line
use Rattle.ice_journal.specs.Ranges.{IsRecord}
use Rattle.ice_journal_laws.specs.declared.rule.Rule.TheVariants as rule
use Rattle.ice_journal_laws.specs.State.{State, begun}
use Rattle.ice_journal_laws.specs.Next.{to_line, after_all}
use Rattle.ice_journal_laws.specs.Checks.{Failure, Tested}

-- no test fails, but that the records end early or at a stop
abbrev pub IsUnfinished : Option Failure → Type 0
IsUnfinished None = Unit {0}
IsUnfinished (Some failure) = (failure.rule ≡ rule.Short) ⊎ (failure.rule ≡ rule.Closed)

-- the first failed test is that the records end early: no stop stands in them, and they aren't
-- whole
abbrev pub IsUnstopped : Option Failure → Type 0
IsUnstopped None = ⊥
IsUnstopped (Some failure) = failure.rule ≡ rule.Short

-- a journal of this kind in version 2 as far as it is written: each record may stand in its place,
-- and passes its tests
pub record IsSoFar (kind : Kind) (journal : List Record) : Type 0 where
  pub lawful : AllByRecursion IsRecord journal
  pub rest : List Record
  pub headed : journal ≡ line.head version_2 kind ∷ rest
  pub ordered : IsSome (after_all (begun version_2 kind) rest)
  pub end : Option Failure
  pub tested : Tested (begun version_2 kind) rest end
  pub unfinished : IsUnfinished end

-- from this state, whatever line is next, each of these records may stand in its place, and they
-- lead to that one
pub record Orders (s : State) (records : List Record) (t : State) : Type 0 where
  pub leads : (n : ℕ) → (m : ℕ) × (after_all (to_line n s) records ≡ Some (to_line m t))
