-- What looks at several multipliers of one side come to.
use Rattle.std.specs.Prelude.{◌≡◌, length, ℤ, ◌≤ℤ◌}
use Rattle.ice_defs.specs.Bound.{IsNetSum}
use Rattle.ice_defs.specs.Trade.{total_value}
use Rattle.ice_defs.specs.Conditions.{AreMultipliersOf}
use Rattle.ice_bound.specs.Kept.{Standing}
use Rattle.ice_subgradient.specs.declared.incumbent.Incumbent.{Incumbent}
use Rattle.ice_subgradient.specs.declared.polishing.Evaluated.{Evaluated}
use Rattle.ice_subgradient.specs.Offers.{AreCovered, IsOffered}

-- another point of the same side
pub record IsSameSide (old now : Standing) : Type 0 where
  pub trees : now.trees ≡ old.trees
  pub weights : now.weights ≡ old.weights
  pub marks : now.marks ≡ old.marks
  pub exact : now.exact ≡ old.exact

-- the least sum so far, with its multipliers; and what was offered
pub record IsPolished (old : Standing) (before after : Incumbent) (least : Evaluated) : Type 0 where
  pub lawful : AreMultipliersOf old.exact least.m
  pub sum : IsNetSum old.trees old.weights least.m old.marks least.total
  pub falls : (start : ℤ) × IsNetSum old.trees old.weights old.multipliers old.marks start × (least.total ≤ℤ start)
  pub offered : IsOffered old.trees old.exact old.weights old.marks before after
  pub first : AreCovered old → total_value old.sets old.weights ≤ℤ after.value
  pub sets : length after.sets ≡ length old.trees
