use Rattle.std.proofs.Common.{◌≡◌, None}
use Rattle.ice_defs.specs.Making.{over_sale}
use Rattle.ice_trade.proofs.sale.over_sale.Given as goal

abbrev pub invariant-loop-good : goal.invariant-loop-good
invariant-loop-good l = over_sale l.good l.tree l.own ≡ None
