-- What a sink tells: what it has taken, and how often it has failed.
use Rattle.std.specs.Prelude.{ℕ, List, Option}

-- what is told at one time: the bytes that it has taken so far, or nothing of them; and how often
-- it has failed
pub record Taken : Type 0 where
  pub written : Option (List ℕ)
  pub faults : ℕ
