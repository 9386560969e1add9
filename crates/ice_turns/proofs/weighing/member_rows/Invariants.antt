use Rattle.std.proofs.Common.{◌≡◌, ◌++◌, drop}
use Rattle.ice_pricing_laws.specs.Weights.{rows_with}
use Rattle.ice_turns.proofs.weighing.member_rows.Given as goal

abbrev pub invariant-loop-place : goal.invariant-loop-place
invariant-loop-place l = l.made.items ++ rows_with (drop l.place l.pool) (drop l.place l.weights) ≡ rows_with l.pool l.weights
