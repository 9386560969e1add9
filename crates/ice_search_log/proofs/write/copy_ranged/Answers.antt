use Rattle.std.proofs.Common.{arith, pos}
use Rattle.std.proofs.lemmas.List.{ext_get_or}
use Rattle.ice_search_log.proofs.write.copy_ranged.Goals as goal

pub returns-clause-value : goal.returns-clause-value
returns-clause-value c = ext_get_or (pos 0) c.loop-good.copy c.args.m.now c.loop-good.invariant.goods (λ g h. c.loop-good.invariant.copied g (omega arith))
