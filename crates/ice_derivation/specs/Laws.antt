-- Laws of walks, as statements.
use Rattle.std.specs.Prelude.{Bool, List, [], ℤ}
use Rattle.ice_defs.specs.Tree.{Tree}
use Rattle.ice_defs.specs.Set.{Weights}
use Rattle.ice_defs.specs.Derived.{Means}
use Rattle.ice_defs.specs.Steps.{Step, Side}
use Rattle.ice_defs.specs.Log.{PassesBy}
use Rattle.ice_derivation.specs.Walks.{IsWalked}

-- a log that is walked until no side is open passes
abbrev pub WalkedPasses : Type 0
WalkedPasses = (means : Means) (ts : List Tree) (exact : List Bool) (ws : List Weights) (target : ℤ) (start : Side) (log : List Step)
    → IsWalked means ts exact ws target start log [] → PassesBy means ts exact ws target start log
