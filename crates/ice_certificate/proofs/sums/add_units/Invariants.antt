use Rattle.std.proofs.Common.{ℕ, ◌≡◌, ◌<◌, ◌≤◌, ◌^◌, length, pos, ◌+ℤ◌, ◌-ℤ◌, ◌*ℤ◌}
use Rattle.ice_defs.specs.Set.{weight_of}
use Rattle.ice_row_laws.specs.Sizes.{IsSizedWithin}
use Rattle.ice_certificate.proofs.sums.add_units.Given as goal

abbrev pub invariant-loop-good : goal.invariant-loop-good
invariant-loop-good l = record {
  count : length l.sums ≡ 32;
  added : (g : ℕ) → g < l.good → weight_of l.sums g ≡ weight_of l.fn.sums g +ℤ (pos l.weight *ℤ (weight_of l.units g -ℤ weight_of l.own g));
  rest : (g : ℕ) → l.good ≤ g → weight_of l.sums g ≡ weight_of l.fn.sums g;
  sized : (g : ℕ) → g < l.good → IsSizedWithin (2 ^ 19) (weight_of l.units g -ℤ weight_of l.own g);
}
