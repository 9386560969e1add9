use Rattle.ice_separation.proofs.Nodes.{put_nodes}
use Rattle.ice_separation.proofs.rounding.put.Goals as goal

pub returns : goal.returns
returns c = put_nodes c.args.amounts.now c.put.new.self c.args.bidder c.args.node _ c.put.ensures
