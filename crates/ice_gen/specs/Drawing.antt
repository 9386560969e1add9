-- Draws from a state on.
use Rattle.std.specs.Prelude.{ℕ, zero, suc, ◌/◌, ◌%◌, ◌^◌}
use Rattle.ice_gen.specs.Generated.{advanced}

-- the number below this bound that is drawn in this state
abbrev pub drawn : ℕ → ℕ → ℕ
drawn x bound = (advanced x / 2 ^ 33) % bound

-- the state after so many draws
unfoldable pub state_after : ℕ → ℕ → ℕ
state_after zero x = x
state_after (suc k) x = state_after k (advanced x)
