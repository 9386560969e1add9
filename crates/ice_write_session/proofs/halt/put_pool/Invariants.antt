use Rattle.std.proofs.Common.{drop}
use Rattle.std.specs.List.{AllByRecursion, flat_map}
use Rattle.ice_edge.specs.Puts.{TakesAllBut}
use Rattle.ice_write_session.specs.Pieces.{member_text}
use Rattle.ice_write_session.specs.Writable.{IsWritableMember}
use Rattle.ice_write_session.proofs.halt.put_pool.Given as goal

abbrev pub invariant-loop-member : goal.invariant-loop-member
invariant-loop-member g l = record {
  pool : AllByRecursion IsWritableMember (drop l.member-index l.pool);
  left : TakesAllBut (flat_map member_text (drop l.member-index l.pool)) (flat_map member_text l.pool) (g.K.Sink.taken l.initial.out) (g.K.Sink.taken l.out);
}
