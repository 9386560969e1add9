use Rattle.std.proofs.Common.{◌≡◌, map, take}
use Rattle.serde_json.specs.View.{view}
use Rattle.ice_read.specs.Written.{bidder_data}
use Rattle.ice_read.proofs.write.bidders_value.Given as goal

abbrev pub invariant-loop-bidder : goal.invariant-loop-bidder
invariant-loop-bidder l = map view l.bidders.items ≡ map (bidder_data l.ex.goods) (take l.bidder l.ex.bidders)
