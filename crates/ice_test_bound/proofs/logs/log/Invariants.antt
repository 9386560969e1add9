use Rattle.std.specs.List.{AllByRecursion}
use Rattle.ice_refute.specs.Code.{CountsGoods}
use Rattle.ice_test_bound.proofs.logs.log.Given as goal

abbrev pub invariant-loop-plain : goal.invariant-loop-plain
invariant-loop-plain l = AllByRecursion (CountsGoods 1) l.log
