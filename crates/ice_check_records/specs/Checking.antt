-- What a checker is seen as.
use Rattle.std.specs.Prelude.{ℕ, Bool}
use Rattle.ice_journal.specs.Records.{Record}
use Rattle.ice_journal_laws.specs.Progress.{Progress, IsAfter}
use Rattle.ice_check_records.specs.declared.stage.Stage.{Stage}
use Rattle.ice_check_records.specs.Stages.{IsProgress, is_ready_stage}

-- the number of the next line, and what is known of the tests
pub record Checking : Type 0 where
  pub line : ℕ
  pub stage : Stage

-- the tests may have come so far
abbrev pub HasCome : Checking → Progress → Type 0
HasCome c p = IsProgress c.line c.stage p

-- the exchange and the record after it are taken, or no record matters any more
abbrev pub is_ready_checker : Checking → Bool
is_ready_checker c = is_ready_stage c.stage

-- a record takes them on to where the checker then is
pub record ComesTo (p : Progress) (r : Record) (c : Checking) : Type 0 where
  pub after : Progress
  pub leads : IsAfter p r after
  pub come : HasCome c after
