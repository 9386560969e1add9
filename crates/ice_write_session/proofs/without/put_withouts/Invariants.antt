use Rattle.std.proofs.Common.{drop, length}
use Rattle.std.specs.List.{AllByRecursion}
use Rattle.ice_edge.specs.Puts.{TakesAllBut}
use Rattle.ice_defs.specs.Exchange.{exact_of}
use Rattle.ice_vickrey.specs.Marginals.{proved_without}
use Rattle.ice_write_session.specs.Writable.{IsWritable}
use Rattle.ice_write_session.proofs.Withouts.{groups_from}
use Rattle.ice_write_session.proofs.without.put_withouts.Given as goal

abbrev pub invariant-loop-bidder : goal.invariant-loop-bidder
invariant-loop-bidder g l = record {
  each : AllByRecursion (λ m. IsWritable (length (exact_of l.exchange)) (proved_without m)) (drop l.bidder l.marginals);
  left : TakesAllBut (groups_from (length (exact_of l.exchange)) l.bidder (drop l.bidder l.marginals)) (groups_from (length (exact_of l.exchange)) 0 l.marginals)
      (g.K.Sink.taken l.initial.out) (g.K.Sink.taken l.out);
}
