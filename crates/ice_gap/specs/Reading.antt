-- What a record makes of the tests of a journal that may state a gap.
use Rattle.ice_journal.specs.Records.{Record}
use Rattle.ice_gap_laws.specs.Gap.{GapProgress}
use Rattle.ice_check_records.specs.GapChecking.{HasGapCome, GapComesTo}
use Rattle.ice_gap.specs.declared.tests.GapTests.{GapTests}

abbrev pub TestsOn : GapTests → Record → GapTests → Type 0
TestsOn s r t = (p : GapProgress) → HasGapCome s.checker p → GapComesTo p r t.checker
