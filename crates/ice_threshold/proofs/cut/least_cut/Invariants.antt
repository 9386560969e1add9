use Rattle.std.proofs.Common.{ℕ, ◌<◌, pos}
use Rattle.ice_defs.specs.Fraction.{Fraction, whole_number, IsFraction, AtMost}
use Rattle.ice_defs.specs.Cut.{IsPayable}
use Rattle.ice_threshold.specs.Level.{asked_cut}
use Rattle.ice_threshold.proofs.cut.least_cut.Given as goal

abbrev pub invariant-loop-at : goal.invariant-loop-at
invariant-loop-at l = record {
  proper : IsFraction l.cut;
  low : AtMost (whole_number (pos 0)) l.cut;
  least : (other : Fraction) → IsPayable l.vickrey l.total other → AtMost l.cut other;
  asked : (k : ℕ) → k < l.at → AtMost (asked_cut l.vickrey l.total k) l.cut;
}
