use Rattle.std.proofs.Common.{◌≡◌, length}
use Rattle.ice_tolled_search.proofs.guide.Guide.rates.Given as goal

abbrev pub invariant-loop-good : goal.invariant-loop-good
invariant-loop-good l = length l.m ≡ length l.room
