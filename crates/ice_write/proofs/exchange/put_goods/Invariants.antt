use Rattle.std.proofs.Common.{drop}
use Rattle.std.specs.List.{flat_map}
use Rattle.ice_edge.specs.Puts.{TakesAllBut}
use Rattle.ice_write.specs.Pieces.{good_text}
use Rattle.ice_write.proofs.exchange.put_goods.Given as goal

abbrev pub invariant-loop-good : goal.invariant-loop-good
invariant-loop-good g l =
    TakesAllBut (flat_map good_text (drop l.good l.exchange.goods)) (flat_map good_text l.exchange.goods) (g.K.Sink.taken l.initial.out) (g.K.Sink.taken l.out)
