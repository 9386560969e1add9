use Rattle.std.proofs.Common.{◌≡◌, replicate, pos}
use Rattle.ice_derived.proofs.rates.Rates.zero.Given as goal

abbrev pub invariant-loop-good : goal.invariant-loop-good
invariant-loop-good l = l.numbers.items ≡ replicate l._good (pos 0)
