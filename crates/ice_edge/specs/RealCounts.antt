-- How often the system's files and its standard output have failed.
use Rattle.std.specs.Prelude.{ℕ, None}
use Rattle.ice_edge.specs.Told.{Told}

pub record ReadCounts : Type 0 where
  pub faults : ℕ
  pub overlong : ℕ

-- no bytes are told; the counts are one for all names
abbrev pub told_of : ReadCounts → Told
told_of counts = record { holds = λ name. None; faults = λ name. counts.faults; overlong = λ name limit. counts.overlong }
