use Rattle.std.proofs.Common.{◌≡◌, [], take}
use Rattle.ice_trade.proofs.maker.ExchangeMaker.without_bidders.Given as goal

abbrev pub invariant-loop-good : goal.invariant-loop-good
invariant-loop-good l = l.maker ≡ record { settings = l.self.settings; goods = take l.good l.self.goods; bidders = [] }
