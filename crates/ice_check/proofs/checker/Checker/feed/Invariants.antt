use Rattle.std.proofs.Common.{length}
use Rattle.ice_check.proofs.Standing.{HasFed}
use Rattle.ice_check.proofs.checker.Checker.feed.Given as goal

abbrev pub invariant-loop-text : goal.invariant-loop-text
invariant-loop-text l = HasFed l.piece l.rest l.initial.self l.self

abbrev pub decreases-loop-text : goal.decreases-loop-text
decreases-loop-text l = length l.rest
