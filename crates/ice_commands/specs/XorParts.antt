-- From the refusal of a maker to what is written of it.
use Rattle.std.specs.Prelude.{◌≡◌, Option, Some}
use Rattle.ice_defs.specs.FileFault.{FileFault}
use Rattle.ice_xor.specs.Translating.{Refusal}
use Rattle.ice_xor.specs.declared.faults.TranslateFault.{TranslateFault}
use Rattle.ice_xor.specs.Faults.{IsTranslateFault}
use Rattle.ice_command_parts.specs.declared.refusal as declared
use Rattle.ice_command_parts.specs.Refusals.{IsFaultOf}
use Rattle.ice_commands.specs.XorServed.{bidder_fault}

-- the fault of the refusal that is due
abbrev pub IsBidderFault : Option Refusal → FileFault → Type 0
IsBidderFault due fault = (r : Refusal) × (due ≡ Some r) × (fault ≡ bidder_fault r)

-- whatever refusal is due, the first file has its fault
abbrev pub IsMakerFault : TranslateFault → declared.Refusal.Refusal → Type 0
IsMakerFault fault refusal = (due : Option Refusal) → IsTranslateFault due fault → IsFaultOf 1 (IsBidderFault due) refusal
