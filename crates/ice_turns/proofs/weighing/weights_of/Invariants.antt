use Rattle.std.proofs.Common.{◌≡◌, take}
use Rattle.std.specs.List.{AllByRecursion}
use Rattle.ice_pricing_laws.specs.Weights.{weights_of_duals}
use Rattle.ice_turns.specs.Large.{AreFitting}
use Rattle.ice_turns.proofs.weighing.weights_of.Given as goal

abbrev pub invariant-loop-dual : goal.invariant-loop-dual
invariant-loop-dual l = record {
  value : l.made.items ≡ weights_of_duals l.factor (take l.dual-index l.duals);
  fits : AllByRecursion (AreFitting l.most) l.made.items;
}
