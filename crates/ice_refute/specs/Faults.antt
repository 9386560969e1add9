-- The first fault of a log, in preorder.
use Rattle.std.specs.Prelude.{◌<◌, Bool, List, length, drop, ℤ, Ok, Err}
use Rattle.ice_defs.specs.Tree.{Tree}
use Rattle.ice_defs.specs.Set.{Weights}
use Rattle.ice_defs.specs.Derived.{Means}
use Rattle.ice_defs.specs.Steps.{Step, Side}
use Rattle.ice_defs.specs.Log.{Fault, ReadsBy, short, fixed, sign, above, not_dead}
use Rattle.ice_refute.specs.declared.fault.LogFault.{LogFault}
use Rattle.ice_refute.specs.declared.fault.LogFault.TheVariants.{At, Short, Long}
use Rattle.ice_refute.specs.declared.fault.StepFault.{StepFault}
use Rattle.ice_refute.specs.declared.fault.StepFault.TheVariants.{Fixed, Sign, Above, NotDead}

-- the fault at which reading ends, where these steps are left
abbrev pub fault_at : List Step → StepFault → Fault
fault_at left Fixed = fixed left
fault_at left Sign = sign left
fault_at left (Above v) = above left v
fault_at left NotDead = not_dead left

-- reading the start ends at this fault, and so many steps stand before the
-- step that is named; or it leaves the steps from that one on
abbrev pub IsLogFault : Means → List Tree → List Bool → List Weights → ℤ → Side → List Step → LogFault → Type 0
IsLogFault means ts exact ws target start log (At k fault) = (k < length log)
    × ReadsBy means ts exact ws target start log (Err (fault_at (drop k log) fault))
IsLogFault means ts exact ws target start log Short = ReadsBy means ts exact ws target start log (Err short)
IsLogFault means ts exact ws target start log (Long k) = (k < length log) × ReadsBy means ts exact ws target start log (Ok (drop k log))
