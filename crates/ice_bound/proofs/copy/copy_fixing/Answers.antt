use Rattle.std.proofs.Common.{arith}
use Rattle.ice_bound.proofs.Copying.{copied_one}
use Rattle.ice_bound.proofs.copy.copy_fixing.Goals as goal

pub returns : goal.returns
returns c =
    let i = c.loop-node.invariant in
    copied_one c.args.marks.now c.loop-node.marks c.args.bidder c.args.from.now c.requires.bidder i.bidders i.nodes (λ n h. i.copied n (omega arith)) i.others
