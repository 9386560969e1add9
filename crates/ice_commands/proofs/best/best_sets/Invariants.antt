use Rattle.std.proofs.Common.{take}
use Rattle.ice_defs.specs.Exchange.{names_of}
use Rattle.ice_commands.specs.Bests.{AreBestSets}
use Rattle.ice_commands.proofs.best.best_sets.Given as goal

abbrev pub invariant-loop-bidder : goal.invariant-loop-bidder
invariant-loop-bidder l = AreBestSets l.exchange l.prices 0 (take l.bidder (names_of l.exchange)) l.sets.items
