use Rattle.std.proofs.Common.{◌≡◌, take}
use Rattle.ice_bound.proofs.exact.ExactGoods.new.Given as goal

abbrev pub invariant-loop-flag : goal.invariant-loop-flag
invariant-loop-flag l = l.flags.items ≡ take l.flag-index l.exact
