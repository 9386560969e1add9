use Rattle.std.proofs.Common.{◌≡◌, take}
use Rattle.ice_defs.specs.Exchange.{names_of}
use Rattle.ice_replay.specs.Replays.{names_in, bounds_in}
use Rattle.ice_replay.proofs.bidders.all_bidders.Given as goal

abbrev pub invariant-loop-bidder : goal.invariant-loop-bidder
invariant-loop-bidder l = record {
  names : names_in l.all.items ≡ take l.bidder (names_of l.exchange);
  bounds : bounds_in l.all.items ≡ take l.bidder l.bounds;
}
