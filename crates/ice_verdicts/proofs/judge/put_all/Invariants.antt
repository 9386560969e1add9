use Rattle.std.proofs.Common.{◌≡◌, take}
use Rattle.ice_verdicts.proofs.judge.put_all.Given as goal

abbrev pub invariant-loop-bidder : goal.invariant-loop-bidder
invariant-loop-bidder l = take l.bidder l.bounds ≡ take l.bidder l.others
