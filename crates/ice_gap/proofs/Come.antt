-- Where the tests have come behind all records.
use Rattle.std.proofs.Common.{List, [], ◌∷◌}
use Rattle.ice_journal.specs.Records.{Record}
use Rattle.ice_gap_laws.specs.Gap.{GapProgress, GapLeads, stays, goes}
use Rattle.ice_check_records.specs.GapChecking.{HasGapCome}
use Rattle.ice_reading.specs.Reading.{Runs}
use Rattle.ice_reading.specs.Reading as reading
use Rattle.ice_gap.specs.declared.tests.GapTests.{GapTests}
use Rattle.ice_gap.specs.Reading.{TestsOn}

pub come_to : (records : List Record) (s end : GapTests) (p : GapProgress) → Runs TestsOn s records end → HasGapCome s.checker p
    → (q : GapProgress) × GapLeads p records q × HasGapCome end.checker q
come_to [] s end p reading.stays come = (p, stays, come)
come_to (r ∷ rest) s end p (reading.goes {t = t} step runs) come =
    let next = step p come in
    let (q, leads, there) = come_to rest t end next.after runs next.come in
    (q, goes next.leads leads, there)
