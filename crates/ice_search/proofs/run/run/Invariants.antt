use Rattle.std.proofs.Common.{ℕ, Bool, true, false, ◌≡◌, ◌≤◌, ◌+◌, ◌*◌, length}
use Rattle.ice_search.specs.State.{unswept_count}
use Rattle.ice_search.proofs.run.run.Given as goal

abbrev pub invariant-loop-place : goal.invariant-loop-place
invariant-loop-place l = record {
  instance : l.progress.instance ≡ l.initial.progress.instance;
  count : length l.progress.parts + 2 * l.left ≡ length l.initial.progress.parts + 2 * l.initial.left;
  less : l.left ≤ l.initial.left;
}

-- 1 before the dives
abbrev pub dives_left : Bool → ℕ
dives_left true = 0
dives_left false = 1

abbrev pub decreases-loop-place : goal.decreases-loop-place
decreases-loop-place l = 6 * l.left + 2 * unswept_count l.progress.parts + length l.progress.open_parts + dives_left l.has_dived
