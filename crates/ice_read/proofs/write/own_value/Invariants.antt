use Rattle.std.proofs.Common.{◌≡◌, drop}
use Rattle.serde_json.specs.View.{members_view}
use Rattle.ice_read.specs.Written.{own_members}
use Rattle.ice_read.specs.Parts.{bidder_of}
use Rattle.ice_read.proofs.write.own_value.Given as goal

abbrev pub invariant-loop-good : goal.invariant-loop-good
invariant-loop-good l = members_view l.own.entries ≡ own_members (drop l.good l.ex.goods) (drop l.good (bidder_of l.ex l.bidder).own)
