-- The best value without a bidder, where the log of its group passes.
use Rattle.std.proofs.Common.{◌<◌, ℕ, List, length, arith}
use Rattle.ice_defs.specs.Vickrey.{IsBestWithout}
use Rattle.ice_defs.specs.declared.Group.TheVariants.{Without}
use Rattle.ice_defs.specs.Group.{start_of}
use Rattle.ice_journal.specs.Records.{Record}
use Rattle.ice_refute.specs.Laws.{LogRefutes}
use Rattle.ice_journal_laws.specs.State.{Stated, State, trees_at, exact_at, weights_at}
use Rattle.ice_journal_laws.proofs.Grouping.{InProved}
use Rattle.ice_defs.proofs.Starts.{meets_without}

-- where a bidder was left out, no feasible assignment without it is worth more
pub best_without : (refutes : LogRefutes) (before : List Record) (s : State) (front : List Record) (b : ℕ) (found : Stated) → b < length (trees_at s)
    → InProved before s front (Without b) found → IsBestWithout (trees_at s) (exact_at s) (weights_at s (Without b)) b found.value
best_without refutes before s front b found there is = record {
  attained = (found.sets, (is.feasible, is.left (omega (arith, there, is.feasible.same_length))), is.valued);
  bound = λ a h. refutes (trees_at s) (exact_at s) (weights_at s (Without b)) found.value (start_of (trees_at s) (Without b)) is.log a is.counts is.passes h.0 (meets_without (trees_at s) b a there h.1);
}
