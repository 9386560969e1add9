use Rattle.std.proofs.Common.{◌≡◌}
use Rattle.std.specs.Prelude.{take}
use Rattle.ice_bound.specs.Laws.{in_4096ths}
use Rattle.ice_tolled_log.proofs.numbers.LeafNumbers.of_goods.Given as goal

abbrev pub invariant-loop-good : goal.invariant-loop-good
invariant-loop-good l = l.numbers ≡ in_4096ths (take l.good l.m)
