-- What is written of a journal that is brought to version 2.
use Rattle.std.specs.Prelude.{ℕ, ℤ, List, Option, Some, None, Result}
use Rattle.ice_edge.specs.declared.sink.SinkFault.{SinkFault}
use Rattle.ice_edge.specs.Puts.{IsPut}
use Rattle.ice_edge.specs.Taken.{Taken}
use Rattle.arrayvec.specs.ArrayVec.{ArrayVec}
use Rattle.ice_defs.specs.Bound.{Multipliers}
use Rattle.ice_defs.specs.Steps.{branch, leaf, dead}
use Rattle.ice_journal.specs.Records.{Record}
use Rattle.ice_journal.specs.Records as line
use Rattle.ice_journal.specs.Journal.{bytes_of}
use Rattle.ice_journal.specs.Plain.{all_zero, changes_from, in_version_2}
use Rattle.ice_migrate.specs.Migrating.{IsMigrated}
use Rattle.ice_migrate.specs.declared.packing.Packing.{Packing}

abbrev pub multipliers_or : ℕ → Option (ArrayVec ℤ) → Multipliers
multipliers_or goods None = all_zero goods
multipliers_or goods (Some m) = m.items

-- the multipliers of the leaf before
abbrev pub before_of : Packing → Multipliers
before_of p = multipliers_or p.goods p.leaf

-- a record in version 2, where the leaf before has these multipliers
abbrev pub packed_record : Multipliers → Record → Record
packed_record m (line.step (leaf new)) = line.near (changes_from 0 m new)
packed_record m r = r

-- the multipliers of the leaf before the next record
abbrev pub packed_after : ℕ → Multipliers → Record → Multipliers
packed_after goods m (line.step (leaf new)) = new
packed_after goods m (line.step (branch b n)) = m
packed_after goods m (line.step (dead b)) = m
packed_after goods m r = all_zero goods

-- the journal, which was judged, is put in version 2
pub record PutsPacked (journal : List Record) (put : Result (Unit {0}) SinkFault) (old new : Taken) : Type 0 where
  pub migrated : IsMigrated journal
  pub is_put : IsPut (bytes_of (in_version_2 journal)) put old new
