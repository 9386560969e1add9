use Rattle.std.proofs.Common.{◌<◌, ℕ, pos}
use Rattle.std.specs.Prelude.{◌<ℤ◌}
use Rattle.ice_defs.specs.Derived.{toll_of}
use Rattle.ice_derived.proofs.goods.DerivedGoods.has_negative_toll.Given as goal

abbrev pub invariant-loop-number : goal.invariant-loop-number
invariant-loop-number l = (k : ℕ) → k < l.number → toll_of l.self.tolls k <ℤ pos 0 → ⊥
