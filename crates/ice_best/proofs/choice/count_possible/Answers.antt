use Rattle.std.proofs.Common.{arith}
use Rattle.ice_best.proofs.Children.{picked_count_more}
use Rattle.ice_best.proofs.choice.count_possible.Goals as goal
use Rattle.ice_best.proofs.choice.count_possible.Goals.{then-possible-child, else-possible-child}

pub loop-child-preserved : goal.loop-child-preserved
loop-child-preserved c = record {
  few = elim c.if-possible-child.branch [ then-possible-child w ↦ omega arith | else-possible-child w ↦ omega arith ];
  count_is =
      elim c.if-possible-child.branch [ then-possible-child w ↦ grind (arith, picked_count_more) | else-possible-child w ↦ grind (arith, picked_count_more) ];
}
