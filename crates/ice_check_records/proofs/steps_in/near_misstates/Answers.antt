use Rattle.std.proofs.Common.{length, map, sym, subst}
use Rattle.std.specs.Prelude.{IsTrue, ◌↔◌}
use Rattle.ice_journal.specs.declared.line.Version.{Version}
use Rattle.ice_journal.specs.Lines.{change_of, version_of}
use Rattle.ice_journal.specs.Records as records
use Rattle.ice_journal_laws.specs.Tests.{IsNoChange}
use Rattle.ice_journal_laws.specs.Stepping.{IsMisstating}
use Rattle.ice_check_records.proofs.Changes.{any_of_records, any_records}
use Rattle.ice_check_records.proofs.steps_in.near_misstates.Goals as goal

pub returns-in-Two : goal.returns-in-Two
returns-in-Two c =
    let m = c.args.before.now in
    subst (λ (v : Version). IsTrue c.has_no_change.result ↔ IsMisstating (version_of v) m (records.near (map change_of c.args.changes.now))) (sym c.in-Two.is)
    (λ t. any_records (IsNoChange (length m) m) c.args.changes.now (c.has_no_change.ensures.0 t), λ a. c.has_no_change.ensures.1 (any_of_records (IsNoChange (length m) m) c.args.changes.now a))
