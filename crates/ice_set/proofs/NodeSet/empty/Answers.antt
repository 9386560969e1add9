use Rattle.ice_set.specs.Bits.{bits_of-zeros}
use Rattle.ice_set.proofs.NodeSet.empty.Goals as goal

pub returns : goal.returns
returns c = bits_of-zeros c.args.nodes
