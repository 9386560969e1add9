-- What is kept, where one good takes another multiplier.
use Rattle.std.specs.Prelude.{ℕ, ◌<◌, ◌≡◌, length, slice_set, ℤ}
use Rattle.ice_defs.specs.Bound.{IsNetSum}
use Rattle.ice_defs.specs.Sweep.{IsLive, IsLowest}
use Rattle.ice_bound.specs.Kept.{Standing}

-- all is the same but for the multipliers and the relaxed sets
pub record AreAlike (old new : Standing) : Type 0 where
  pub trees : new.trees ≡ old.trees
  pub weights : new.weights ≡ old.weights
  pub marks : new.marks ≡ old.marks
  pub exact : new.exact ≡ old.exact

-- the good has another multiplier, and the others stay
pub record IsMoved (old : Standing) (g : ℕ) (z : ℤ) (new : Standing) : Type 0 where
  pub alike : AreAlike old new
  pub multipliers : new.multipliers ≡ slice_set old.multipliers g z

-- each bidder has a set, and the good is one of at most 32, each with a multiplier
pub record MayMove (st : Standing) (g : ℕ) : Type 0 where
  pub live : IsLive st.trees st.marks
  pub there : g < length st.exact
  pub fits : g < 32
  pub goods : length st.multipliers ≡ length st.exact

-- the sum where the good has another multiplier
abbrev pub IsSumWith : Standing → ℕ → ℤ → ℤ → Type 0
IsSumWith st g z total = IsNetSum st.trees st.weights (slice_set st.multipliers g z) st.marks total

-- the good has its lowest multiplier, and the others stay
abbrev pub IsSettled : Standing → ℕ → Standing → Type 0
IsSettled old g new = (z : ℤ) × (total : ℤ)
    × IsLowest old.trees old.exact old.weights old.marks old.multipliers g z total × IsMoved old g z new
