-- All that is told stays the same at a status that no file caused.
use Rattle.std.specs.Prelude.{◌≡◌}
use Rattle.ice_edge.specs.Told.{Told}
use Rattle.ice_edge.specs.declared.status.Status.{Status}
use Rattle.ice_edge.specs.declared.status.Status.TheVariants.{Input, ReadFault, WriteFault}

-- a status that no file caused; where the sink failed, a
-- file may have caused the answer that was cut short
abbrev pub IsOfNoFile : Status → Type 0
IsOfNoFile Input = ⊥
IsOfNoFile ReadFault = ⊥
IsOfNoFile WriteFault = ⊥
IsOfNoFile other = Unit {0}

-- at a status that no file caused, all that is told is the same,
-- each count among it: no fetch failed, and no file was too long
abbrev pub KeepsTold : Told → Told → Status → Type 0
KeepsTold before after status = IsOfNoFile status → after ≡ before
