use Rattle.std.proofs.Common.{◌≡◌, ◌<◌, ◌++◌, length, get_or, ℕ}
use Rattle.ice_search_log.specs.Parts.{log_of, steps_left}
use Rattle.ice_search_log.specs.Code.{stops_at}
use Rattle.ice_tolled_log.specs.Code.{parts_of}
use Rattle.ice_tolled_log.proofs.write.write_tolled_log.Given as goal

abbrev pub invariant-loop-k : goal.invariant-loop-k
invariant-loop-k l = record {
  log : l.log ++ steps_left (stops_at l.fn.value) (parts_of l.fn.parts) l.stack.items ≡ l.fn.log ++ log_of (stops_at l.fn.value) (parts_of l.fn.parts);
  inside : (i : ℕ) → i < length l.stack.items → get_or l.stack.items i 0 < length l.fn.parts;
}

abbrev pub decreases-loop-k : goal.decreases-loop-k
decreases-loop-k l = length (steps_left (stops_at l.fn.value) (parts_of l.fn.parts) l.stack.items)
