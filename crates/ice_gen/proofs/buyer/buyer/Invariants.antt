use Rattle.std.proofs.Common.{◌≡◌, ◌-◌}
use Rattle.ice_gen.proofs.Packaging.{package_state, bought_by}
use Rattle.ice_gen.proofs.buyer.buyer.Given as goal

abbrev pub invariant-loop-goods : goal.invariant-loop-goods
invariant-loop-goods l = (l.maker ≡ bought_by (l.goods - 2) l.initial.generator) × (l.generator ≡ package_state (l.goods - 2) l.initial.generator)
