use Rattle.std.proofs.Common.{◌≡◌}
use Rattle.ice_gen.proofs.Selling.{sale_state, sold_by}
use Rattle.ice_gen.proofs.seller.seller.Given as goal

abbrev pub invariant-loop-sale : goal.invariant-loop-sale
invariant-loop-sale l = (l.maker ≡ sold_by l.number l.sale l.initial.generator) × (l.generator ≡ sale_state l.sale l.initial.generator)
