-- What a pricing run counts.
use Rattle.std.specs.Prelude.{ℕ, ◌+◌, ◌-◌, ◌^◌, ◌≤◌, min}
use Rattle.ice_turns.specs.declared.work.RunWork.{RunWork}

-- a count of 32 bits with so much more; it stays at the greatest number that it can hold
abbrev pub saturating_sum : ℕ → ℕ → ℕ
saturating_sum count more = min (count + more) (2 ^ 32 - 1)

-- nothing was counted
abbrev pub no_work : RunWork
no_work = record { turns = 0; pivots = 0 }

-- neither count falls
pub record IsMoreWork (before after : RunWork) : Type 0 where
  pub turns : before.turns ≤ after.turns
  pub pivots : before.pivots ≤ after.pivots

-- at least so many turns were counted
abbrev pub HasTurns : ℕ → RunWork → RunWork → Type 0
HasTurns turns before after = saturating_sum before.turns turns ≤ after.turns
