use Rattle.ice_bound.proofs.Reaching.{not_none}
use Rattle.ice_bound.proofs.beside.Beside.greatest.Goals as goal

pub unreachable-requires : goal.unreachable-requires
unreachable-requires c =
    let known = c.greatest_net.ensures.known in
    not_none _ _ c.args.self.now.moved _ _ c.greatest_net.ensures.net (known.live c.args.bidder c.requires.bidder) c.in_default.not-Some
