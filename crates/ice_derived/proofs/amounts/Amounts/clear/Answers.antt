use Rattle.std.proofs.Common.{replicate, pos}
use Rattle.ice_derived.proofs.Fitting.{put_amounts, zero_amounts}
use Rattle.ice_derived.proofs.amounts.Amounts.clear.Goals as goal

pub invariant_of-self : goal.invariant_of-self
invariant_of-self c = rw c.zero.ensures (put_amounts c.self.inside.rows.items c.args.bidder (replicate c.args.nodes (pos 0)) c.self.invariant (zero_amounts c.args.nodes))
