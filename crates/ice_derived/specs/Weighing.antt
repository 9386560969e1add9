-- The weights that sets are weighed by.
use Rattle.std.specs.Prelude.{List}
use Rattle.ice_defs.specs.Set.{Weights}
use Rattle.ice_derived.specs.declared.bounds.Weighing.{Weighing}
use Rattle.ice_derived.specs.declared.bounds.Weighing.TheVariants.{Group, Derivation}

abbrev pub weights_in : Weighing → List Weights
weights_in (Group weights) = weights.now
weights_in (Derivation amounts) = amounts.now
