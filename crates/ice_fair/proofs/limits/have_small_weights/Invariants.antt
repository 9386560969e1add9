use Rattle.std.proofs.Common.{ℕ, ◌<◌, ◌≤◌, ◌^◌, get_or}
use Rattle.ice_defs.specs.Rows.{Row}
use Rattle.ice_fair.proofs.limits.have_small_weights.Given as goal

abbrev pub invariant-loop-row : goal.invariant-loop-row
invariant-loop-row l = (k : ℕ) (d : Row) → k < l.row-index → (get_or l.rows k d).weight ≤ 2 ^ 24
