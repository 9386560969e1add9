use Rattle.std.proofs.Common.{ℕ, ◌<◌, ◌≡◌, pos, slice_index_or, length, All}
use Rattle.ice_defs.specs.Fraction.{fraction_at}
use Rattle.ice_threshold.specs.CutOff.{IsPaid}
use Rattle.ice_threshold.specs.Limits.{IsShort}
use Rattle.ice_threshold.proofs.payments.payments_at.Given as goal

abbrev pub invariant-loop-i : goal.invariant-loop-i
invariant-loop-i l = record {
  same_length : length l.payments.items ≡ l.i;
  each : (k : ℕ) → k < l.i → IsPaid l.cut (fraction_at l.payments.items k) (slice_index_or l.values k (pos 0)) (slice_index_or l.vickrey k (pos 0));
  small : All IsShort l.payments.items;
}
