use Rattle.std.proofs.Common.{ℕ, ◌<◌, ◌≤◌, ◌≡◌, ◌+ℤ◌, ◌≤ℤ◌, pos, neg_ℤ, length}
use Rattle.ice_defs.specs.Set.{weight_of}
use Rattle.ice_tree.proofs.total_units.add_set.Given as goal

abbrev pub invariant-loop-good : goal.invariant-loop-good
invariant-loop-good l =
    ((g : ℕ) → g < l.good → weight_of l.sums g ≡ weight_of l.initial.sums g +ℤ weight_of l.units g)
    × ((g : ℕ) → l.good ≤ g → weight_of l.sums g ≡ weight_of l.initial.sums g)
    × (length l.sums ≡ 32)
    × ((g : ℕ) → g < l.good → neg_ℤ (pos 200000) ≤ℤ weight_of l.units g)
    × ((g : ℕ) → g < l.good → weight_of l.units g ≤ℤ pos 200000)
