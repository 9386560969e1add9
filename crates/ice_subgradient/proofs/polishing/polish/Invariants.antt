use Rattle.std.proofs.Common.{◌≡◌}
use Rattle.ice_subgradient.specs.Polished.{IsSameSide, IsPolished}
use Rattle.ice_subgradient.proofs.polishing.polish.Given as goal

abbrev pub invariant-loop-look : goal.invariant-loop-look
invariant-loop-look l = record {
  side : IsSameSide l.fn.kept l.kept;
  polished : IsPolished l.fn.kept l.fn.incumbent l.incumbent l.least;
  relaxation : l.relaxation ≡ l.fn.relaxation;
}
