use Rattle.std.proofs.Common.{take, All}
use Rattle.ice_threshold.specs.CutOff.{AreCutDown}
use Rattle.ice_threshold.specs.Limits.{IsShort}
use Rattle.ice_threshold.proofs.payments.discounts_at.Given as goal

abbrev pub invariant-loop-discount : goal.invariant-loop-discount
invariant-loop-discount l = record {
  cut_down : AreCutDown l.cut l.discounts.items (take l.discount-index l.vickrey);
  small : All IsShort l.discounts.items;
}
