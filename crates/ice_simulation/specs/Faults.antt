-- The number and the place of a fault of true values.
use Rattle.std.specs.Prelude.{[], ◌∷◌, codes, decimal}
use Rattle.ice_defs.specs.FileFault.{FileFault, at_path}
use Rattle.ice_simulation.specs.declared.truths.TruthFault.{TruthFault}
use Rattle.ice_simulation.specs.declared.truths.TruthFault.TheVariants.{NotTruth, NoTruth}

abbrev pub fault_of : TruthFault → FileFault
fault_of (NotTruth index) = at_path 92 (codes "bids" ∷ decimal index ∷ [])
fault_of NoTruth = at_path 93 []
