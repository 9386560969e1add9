-- Laws of offers, as statements.
use Rattle.std.specs.Prelude.{Bool, List}
use Rattle.ice_defs.specs.Tree.{Tree}
use Rattle.ice_defs.specs.Set.{Weights}
use Rattle.ice_defs.specs.Steps.{Side}
use Rattle.ice_subgradient.specs.declared.incumbent.Incumbent.{Incumbent}
use Rattle.ice_subgradient.specs.Offers.{IsOffered}

-- several offers at one side are one
abbrev pub OffersAreOne : Type 0
OffersAreOne = (ts : List Tree) (exact : List Bool) (ws : List Weights) (side : Side) (a b c : Incumbent)
    → IsOffered ts exact ws side a b → IsOffered ts exact ws side b c → IsOffered ts exact ws side a c
