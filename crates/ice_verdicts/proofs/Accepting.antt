-- Verdicts by whether the bidder is marked and whether the values count its nodes.
use Rattle.std.proofs.Common.{◌≡◌, true, length}
use Rattle.std.specs.Prelude.{◌==◌}
use Rattle.std.proofs.lemmas.Bool.{and_parts, eqb-true}
use Rattle.ice_defs.specs.Tree.{Tree}
use Rattle.ice_defs.specs.Round.{Submission, has_tree_length}

pub count_lengths : (t : Tree) (s : Submission) → has_tree_length t s ≡ true → (length s.lo ≡ length t) × (length s.hi ≡ length t)
count_lengths t s h =
    let parts = and_parts (length s.lo == length t) (length s.hi == length t) h in
    (eqb-true (length s.lo) (length t) parts.0, eqb-true (length s.hi) (length t) parts.1)
