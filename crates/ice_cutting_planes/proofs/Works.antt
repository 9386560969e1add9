-- Work that is added to work.
use Rattle.std.proofs.Common.{arith}
use Rattle.ice_cutting_planes.specs.declared.work.Work.{Work}
use Rattle.ice_cutting_planes.specs.Works.{IsMoreWork}

pub more-trans : (a b c : Work) → IsMoreWork a b → IsMoreWork b c → IsMoreWork a c
more-trans a b c p q = record {
  turns = omega (arith, p.turns, q.turns);
  pivots = omega (arith, p.pivots, q.pivots);
  few_pivots = omega (arith, p.few_pivots, q.few_pivots);
  columns = omega (arith, p.columns, q.columns);
  few_columns = omega (arith, p.few_columns, q.few_columns);
  rounded = λ h. q.rounded (p.rounded h);
}
