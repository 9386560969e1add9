use Rattle.std.proofs.Common.{◌-◌, length}
use Rattle.ice_defs.specs.Exchange.{trees_of}
use Rattle.ice_round.proofs.settling.Settling.+close.Given as goal

abbrev pub decreases-close : goal.decreases-close
decreases-close l = length (trees_of l.self.session.exchange) - length l.self.discounts
