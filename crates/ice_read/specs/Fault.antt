-- The faults that the readers answer, and when each is due.
use Rattle.std.specs.Prelude.{◌≡◌, ◌≢◌, ◌++◌, unwrap_or, [], Result, Ok, Err}
use Rattle.ice_defs.specs.FileFault.{FileFault, Path, Read}
use Rattle.ice_read.specs.declared.fault.ReadFault.{ReadFault}
use Rattle.ice_read.specs.declared.cause.ReadCause.TheVariants.{NoMemory}
use Rattle.ice_read.specs.Cause.{cause_number}
use Rattle.ice_read.specs.Places.{dotted_text, place_text}

-- the fault of a value that stands at this path
abbrev pub fault_at : Path → ReadFault → FileFault
fault_at path fault = record { number = unwrap_or (cause_number fault.cause) 0; place = place_text (dotted_text path ++ fault.place) }

abbrev pub IsFault : {X : Type 0} → ReadFault → (Path → Read X) → Type 0
IsFault fault read = (path : Path) → read path ≡ Err (fault_at path fault)

-- what is read of a value, wherever it stands: the value read, or the first fault
abbrev pub IsReading : {X : Type 0} → Result X ReadFault → (Path → Read X) → Type 0
IsReading (Ok x) read = (path : Path) → read path ≡ Ok x
IsReading (Err fault) read = IsFault fault read

-- what is read of a file; want of memory is free
abbrev pub IsAnswer : {X : Type 0} → Result X ReadFault → Read X → Type 0
IsAnswer (Ok x) wanted = wanted ≡ Ok x
IsAnswer (Err fault) wanted = fault.cause ≢ NoMemory → wanted ≡ Err (fault_at [] fault)
