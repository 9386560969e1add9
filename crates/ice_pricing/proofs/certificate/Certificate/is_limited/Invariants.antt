use Rattle.std.proofs.Common.{ℕ, ◌<◌, ◌≤◌, ◌^◌, get_or}
use Rattle.ice_defs.specs.Rows.{Row}
use Rattle.ice_pricing.proofs.certificate.Certificate.is_limited.Given as goal

abbrev pub invariant-loop-row : goal.invariant-loop-row
invariant-loop-row l = (k : ℕ) (d : Row) → k < l.row-index → (get_or l.self.rows k d).weight ≤ 2 ^ 32
