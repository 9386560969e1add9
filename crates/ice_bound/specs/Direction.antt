-- Up and down, and the numbers there.
use Rattle.std.specs.Prelude.{ℕ, ℤ, pos, neg_ℤ}
use Rattle.ice_bound.specs.declared.direction.Direction.{Direction}
use Rattle.ice_bound.specs.declared.direction.Direction.TheVariants.{Up, Down}

-- the number at so many steps from 0
abbrev pub toward : Direction → ℕ → ℤ
toward Up k = pos k
toward Down k = neg_ℤ (pos k)

abbrev pub opposite : Direction → Direction
opposite Up = Down
opposite Down = Up
