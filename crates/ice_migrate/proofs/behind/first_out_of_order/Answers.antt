use Rattle.std.proofs.Common.{arith}
use Rattle.ice_migrate.specs.Order.{order_from}
use Rattle.ice_migrate.proofs.Ordering.{comes_more}
use Rattle.ice_migrate.proofs.behind.first_out_of_order.Goals as goal

pub after-requires : goal.after-requires
after-requires c = record { few = omega (arith, c.loop-record.invariant.few, c.loop-record.invariant.low, c.in-Some.ensures.shorter) }

pub loop-record-preserved : goal.loop-record-preserved
loop-record-preserved c = record {
  few = omega (arith, c.loop-record.invariant.few, c.in-Some.ensures.shorter);
  low = omega (arith, c.loop-record.invariant.low, c.in-Some-after.ensures.more);
  comes = λ s left is stands.
      comes_more c.loop-record.records c.next.new.self c.args.counts c.loop-record.here c.loop-record.number (order_from s left) c.in-Some.record c.in-Some-after.next (c.loop-record.invariant.comes s left is stands) c.in-Some.ensures.next
      c.in-Some-after.ensures.place;
}
