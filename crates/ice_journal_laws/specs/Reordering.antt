-- Journals that differ only in the order in which the submissions of different bidders come.
use Rattle.std.specs.Prelude.{◌≢◌, List, ◌∷◌, ◌++◌}
use Rattle.ice_defs.specs.declared.Verdict.{Verdict}
use Rattle.ice_defs.specs.Round.{Submission}
use Rattle.ice_journal.specs.Records.{Record, session_kind}
use Rattle.ice_journal.specs.Records as line
use Rattle.ice_journal_laws.specs.Checks.{Checks}
use Rattle.ice_journal_laws.specs.Theorems.{HasKind}

-- journals that differ only in the order of the pairs of a submission and its verdict, where two of
-- one name keep their order
pub data Reordered : List Record → List Record → Type 0 where
  same : {journal : List Record} → Reordered journal journal
  swapped : {other : List Record} (before after : List Record) (a b : Submission) (v w : Verdict) → a.name ≢ b.name
      → Reordered (before ++ line.submit b ∷ line.verdict w ∷ line.submit a ∷ line.verdict v ∷ after) other
      → Reordered (before ++ line.submit a ∷ line.verdict v ∷ line.submit b ∷ line.verdict w ∷ after) other

-- the checker's yes doesn't depend on the interleaving
abbrev pub OrderOfRoundsIsFree : Type 0
OrderOfRoundsIsFree = (one other : List Record) → HasKind session_kind one → Reordered one other → Checks one → Checks other

-- where one journal is reordered from another, the other is reordered from the one
abbrev pub ReorderedIsMutual : Type 0
ReorderedIsMutual = (one other : List Record) → Reordered one other → Reordered other one
