use Rattle.std.proofs.Common.{◌≡◌, length}
use Rattle.ice_defs.specs.Sweep.{SweepsBelow}
use Rattle.ice_mult.specs.Moved.{AreAlike}
use Rattle.ice_mult.proofs.kept.sweep_kept.Given as goal

abbrev pub invariant-loop-good : goal.invariant-loop-good
invariant-loop-good l = record {
  below : SweepsBelow l.initial.kept.trees l.initial.kept.exact l.initial.kept.weights l.initial.kept.marks l.good l.initial.kept.multipliers l.kept.multipliers;
  alike : AreAlike l.initial.kept l.kept;
  goods : length l.kept.multipliers ≡ length l.initial.kept.exact;
  room : l.room ≡ l.initial.room;
}
