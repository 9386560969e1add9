use Rattle.std.proofs.Common.{drop}
use Rattle.ice_turns.proofs.Multiples.{IsDen}
use Rattle.ice_turns.proofs.fractions.common_den.Given as goal

abbrev pub invariant-loop-place : goal.invariant-loop-place
invariant-loop-place l = IsDen l.most (drop l.place l.fractions) l.den
