-- How the readers follow the definitions, where they may also want memory.
use Rattle.std.specs.Prelude.{◌≡◌, ◌≢◌, Result, Ok, Err}
use Rattle.ice_defs.specs.FileFault.{Path, Read}
use Rattle.ice_read.specs.declared.fault.ReadFault.{ReadFault}
use Rattle.ice_read.specs.declared.cause.ReadCause.TheVariants.{NoMemory}
use Rattle.ice_read.specs.Fault.{IsFault}

-- the fault of a value, wherever it stands; want of memory is free
abbrev pub IsFaultOrMemory : {X : Type 0} → ReadFault → (Path → Read X) → Type 0
IsFaultOrMemory fault read = fault.cause ≢ NoMemory → IsFault fault read

-- what is read of a value, wherever it stands: the value read, or the first fault
abbrev pub IsReadingOrMemory : {X : Type 0} → Result X ReadFault → (Path → Read X) → Type 0
IsReadingOrMemory (Ok x) read = (path : Path) → read path ≡ Ok x
IsReadingOrMemory (Err fault) read = IsFaultOrMemory fault read
