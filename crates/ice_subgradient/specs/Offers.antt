-- Offers of assignments to an incumbent, the best assignment that is known.
use Rattle.std.specs.Prelude.{ℕ, ◌<◌, ◌≡◌, ◌⊎◌, Bool, List, length, ℤ, pos, ◌<ℤ◌}
use Rattle.ice_defs.specs.Tree.{Tree}
use Rattle.ice_defs.specs.Set.{Weights}
use Rattle.ice_defs.specs.Trade.{is_exact, IsCovered, IsFeasible, MeetsAll, total_units, total_value}
use Rattle.ice_defs.specs.Steps.{Side}
use Rattle.ice_bound.specs.Kept.{Standing}
use Rattle.ice_subgradient.specs.declared.incumbent.Incumbent.{Incumbent}

-- what the relaxed sets use of each good is covered
abbrev pub AreCovered : Standing → Type 0
AreCovered st = (g : ℕ) → g < length st.exact → IsCovered (is_exact st.exact g) (total_units st.trees st.sets g) (pos 0)

-- the relaxed sets are covered, and are worth more than the value
pub record AreBetter (st : Standing) (value : ℤ) : Type 0 where
  pub covered : AreCovered st
  pub more : value <ℤ total_value st.sets st.weights

module _ (ts : List Tree) (exact : List Bool) (ws : List Weights) (side : Side) where
  -- a feasible assignment that meets the side, with its value, which is above another
  pub record IsRaised (value : ℤ) (new : Incumbent) : Type 0 where
    pub feasible : IsFeasible ts exact new.sets
    pub meets : MeetsAll new.sets side
    pub has : total_value new.sets ws ≡ new.value
    pub more : value <ℤ new.value

  -- after offers the incumbent is as it was, or raised
  abbrev pub IsOffered : Incumbent → Incumbent → Type 0
  IsOffered old new = (new ≡ old) ⊎ IsRaised old.value new
