use Rattle.std.proofs.Common.{◌≡◌, ℕ, ◌<◌, get_or, true}
use Rattle.ice_defs.specs.Set.{has}
use Rattle.ice_best.specs.Choice.{ChangesOnly}
use Rattle.ice_best.proofs.choice.take_all.Given as goal

abbrev pub invariant-loop-child : goal.invariant-loop-child
invariant-loop-child l = record {
  taken_is : (k : ℕ) → k < l.child-index → has l.taken (get_or l.children k 0) ≡ true;
  can : (k : ℕ) → k < l.child-index → has l.possible (get_or l.children k 0) ≡ true;
  same : ChangesOnly l.initial.taken l.taken l.children;
}
