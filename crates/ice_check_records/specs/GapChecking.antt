-- What a checker of gaps is seen as.
use Rattle.std.specs.Prelude.{ℕ}
use Rattle.ice_journal.specs.Records.{Record}
use Rattle.ice_gap_laws.specs.Gap.{GapProgress, IsGapAfter}
use Rattle.ice_check_records.specs.declared.gap.GapStage.{GapStage}
use Rattle.ice_check_records.specs.Gaps.{IsGapProgress}

-- the number of the next line, and what is known of the tests
pub record GapChecking : Type 0 where
  pub line : ℕ
  pub stage : GapStage

-- the tests may have come so far
abbrev pub HasGapCome : GapChecking → GapProgress → Type 0
HasGapCome c p = IsGapProgress c.line c.stage p

-- a record takes them on to where the checker then is
pub record GapComesTo (p : GapProgress) (r : Record) (c : GapChecking) : Type 0 where
  pub after : GapProgress
  pub leads : IsGapAfter p r after
  pub come : HasGapCome c after
