use Rattle.std.proofs.Common.{◌≡◌, length, map, sym, ◌∙◌, ap, subst}
use Rattle.std.specs.Prelude.{Some}
use Rattle.ice_defs.specs.Bound.{Multipliers}
use Rattle.ice_defs.specs.Steps.{leaf}
use Rattle.ice_journal.specs.declared.line.Version.{Version}
use Rattle.ice_journal.specs.Lines.{change_of, version_of}
use Rattle.ice_journal.specs.Records as records
use Rattle.ice_journal_laws.specs.Fields.{step_in}
use Rattle.ice_check_records.proofs.Changes.{changes_in_range, length-changed}
use Rattle.ice_check_records.proofs.steps_in.near_in.Goals as goal

pub changed-requires : goal.changed-requires
changed-requires c = changes_in_range c.args.changes.now c.requires.2

pub returns-in-Two : goal.returns-in-Two
returns-in-Two c =
    let m = c.args.before.now in
    let changes = map change_of c.args.changes.now in (
      subst (λ (v : Version). step_in (version_of v) (length m) m (records.near changes) ≡ Some (leaf c.changed.result)) (sym c.in-Two.is) (ap (λ (new : Multipliers). Some (leaf new)) (sym c.changed.ensures)),
      ap length c.changed.ensures ∙ length-changed m changes,
    )
