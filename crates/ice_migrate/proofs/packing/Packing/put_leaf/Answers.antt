use Rattle.std.proofs.Common.{sym, subst}
use Rattle.std.specs.List.{AllByRecursion}
use Rattle.ice_defs.specs.Bound.{Multipliers}
use Rattle.ice_journal.specs.Lines.{changes_of}
use Rattle.ice_journal.specs.Ranges.{HasLength, IsMultiplier}
use Rattle.ice_migrate.specs.Packing.{before_of}
use Rattle.ice_migrate.proofs.Changes.{leaf_fits}
use Rattle.ice_migrate.proofs.packing.Packing.put_leaf.Goals as goal

pub put_changes-requires : goal.put_changes-requires
put_changes-requires g c =
    leaf_fits (before_of c.args.self.now) c.deref.result.now (changes_of c.changes-changes.result) (subst (λ (m : Multipliers). HasLength 1 32 m × AllByRecursion IsMultiplier m) (sym c.deref.ensures.0) c.requires) c.changes-changes.ensures
