-- The code's gathering in the words of the definitions.
use Rattle.ice_statement.specs.declared.gathering.Slot.{Slot}
use Rattle.ice_statement.specs.declared.gathering.Slot.TheVariants.{Kept, Offered, Nowhere}
use Rattle.ice_statement_laws.specs.Gathering as spec

abbrev pub slot_of : Slot → spec.Slot
slot_of Kept = spec.to_kept
slot_of Offered = spec.to_offered
slot_of Nowhere = spec.nowhere
