use Rattle.std.proofs.Common.{◌≡◌, ◌<◌, ℕ, true}
use Rattle.std.specs.Prelude.{slice_index_or, []}
use Rattle.std.specs.List.{list_any}
use Rattle.std.specs.Str.{bytes_eq}
use Rattle.ice_defs.specs.Exchange.{names_of}
use Rattle.ice_simulation.proofs.truths.lacks_truth.Given as goal

abbrev pub invariant-loop-bidder : goal.invariant-loop-bidder
invariant-loop-bidder l = (k : ℕ) → k < l.bidder → list_any (λ s. bytes_eq s.name (slice_index_or (names_of l.exchange) k [])) l.bids ≡ true
