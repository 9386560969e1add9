-- The records of a group are in their ranges.
use Rattle.std.proofs.Common.{◌≡◌, ℕ, ◌≤◌, List, [], ◌∷◌, ◌++◌, length, map}
use Rattle.std.specs.List.{AllByRecursion}
use Rattle.std.proofs.lemmas.List.{length-replicate}
use Rattle.ice_defs.specs.Trade.{Assignment}
use Rattle.ice_defs.specs.Bound.{Multipliers}
use Rattle.ice_defs.specs.Steps.{Step}
use Rattle.ice_defs.proofs.Lists.{all-append}
use Rattle.ice_refute.specs.Code.{CountsGoods}
use Rattle.ice_journal.specs.Records.{Record, version_2}
use Rattle.ice_journal.specs.Records as line
use Rattle.ice_journal.specs.Ranges.{IsBits, IsStepRecord, IsRecord}
use Rattle.ice_journal.specs.Plain.{all_zero}
use Rattle.ice_journal_laws.specs.Fields.{multipliers_after}
use Rattle.ice_journal_laws.specs.Showing.{step_records}
use Rattle.ice_journal_laws.proofs.Plaining.{length_after}
use Rattle.ice_write.specs.Writable.{AreWritable}
use Rattle.ice_write.proofs.Changing.{step_is_record}

sets_are : (sets : Assignment) → AllByRecursion IsBits sets → AllByRecursion IsRecord (map line.set sets)
sets_are [] bits = tt
sets_are (s ∷ sets) bits = (bits.0, sets_are sets bits.1)

steps_are : (goods : ℕ) (m : Multipliers) (log : List Step) → length m ≡ goods → goods ≤ 32 → AllByRecursion (CountsGoods goods) log → AllByRecursion IsStepRecord log → AllByRecursion IsRecord (step_records version_2 m log)
steps_are goods m [] count few counts is = tt
steps_are goods m (x ∷ log) count few counts is = (step_is_record goods m x count few counts.0 is.0, steps_are goods (multipliers_after m x) log (length_after goods m x count counts.0) few counts.1 is.1)

pub group_are_records : (first : Record) (goods : ℕ) (sets : Assignment) (log : List Step) → IsRecord first → AreWritable goods sets log → AllByRecursion IsRecord (first ∷ map line.set sets ++ step_records version_2 (all_zero goods) log)
group_are_records first goods sets log is may = (
  is,
  all-append IsRecord (map line.set sets) (step_records version_2 (all_zero goods) log) (sets_are sets may.bits)
      (steps_are goods (all_zero goods) log (length-replicate goods _) may.few_goods may.counts may.steps),
)
