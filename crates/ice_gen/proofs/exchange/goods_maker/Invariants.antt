use Rattle.std.proofs.Common.{◌≡◌, []}
use Rattle.ice_gen.specs.Parts.{the_settings, goods_below}
use Rattle.ice_gen.proofs.exchange.goods_maker.Given as goal

abbrev pub invariant-loop-good : goal.invariant-loop-good
invariant-loop-good l = l.maker ≡ record { settings = the_settings; goods = goods_below l.good; bidders = [] }
