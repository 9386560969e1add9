use Rattle.std.proofs.Common.{◌≡◌, take, length}
use Rattle.ice_write_session.proofs.submission.narrowed.Given as goal

abbrev pub invariant-loop-value : goal.invariant-loop-value
invariant-loop-value l = (l.narrow.items ≡ take l.value-index l.values) × (length l.narrow.items ≡ l.value-index)
