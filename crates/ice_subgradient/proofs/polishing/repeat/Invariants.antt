use Rattle.ice_subgradient.specs.Polished.{IsSameSide, IsPolished}
use Rattle.ice_subgradient.proofs.polishing.repeat.Given as goal

abbrev pub invariant-loop-numbers : goal.invariant-loop-numbers
invariant-loop-numbers l = record {
  side : IsSameSide l.fn.kept l.kept;
  polished : IsPolished l.fn.kept l.fn.incumbent l.incumbent l.least;
}
