use Rattle.std.proofs.Common.{◌≡◌, take, pos, ◌≤ℤ◌}
use Rattle.std.specs.List.{AllByRecursion}
use Rattle.ice_defs.specs.PricingRun.{num_over}
use Rattle.ice_pricing_laws.specs.Weights.{nums_over}
use Rattle.ice_turns.proofs.weighing.numerators.Given as goal

abbrev pub invariant-loop-weight : goal.invariant-loop-weight
invariant-loop-weight l = record {
  value : l.made.items ≡ nums_over l.den (take l.weight-index l.weights);
  fits : AllByRecursion (λ w. num_over l.den w ≤ℤ pos l.most) (take l.weight-index l.weights);
}
