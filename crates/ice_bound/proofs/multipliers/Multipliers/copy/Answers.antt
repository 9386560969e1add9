use Rattle.std.proofs.Common.{arith, pos}
use Rattle.std.proofs.lemmas.List.{ext_get_or}
use Rattle.ice_bound.proofs.multipliers.Multipliers.copy.Goals as goal

pub returns : goal.returns
returns c = ext_get_or (pos 0) c.loop-good.copy c.args.self.now c.loop-good.invariant.goods (λ g h. c.loop-good.invariant.copied g (omega arith))
