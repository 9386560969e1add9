use Rattle.std.proofs.Common.{◌-◌, length, drop, arith}
use Rattle.std.proofs.lemmas.List.{length-take}
use Rattle.ice_edge.proofs.Bytes.{front_grows}
use Rattle.ice_edge.proofs.writing.write_piece.Goals as goal

pub loop-taken-preserved : goal.loop-taken-preserved
loop-taken-preserved g c =
    let piece = c.args.piece.now in
    let taken = c.loop-taken.taken in
    record {
      within = omega (arith, c.in-Ok.ensures.bound, length-take (length piece - taken) (drop taken piece), c.loop-taken-test.true);
      written = front_grows (g.W.Write.contents c.args.to.now) (g.W.Write.contents c.loop-taken.to) (g.W.Write.contents c.write.new.self)
          piece taken c.in-Ok.count c.loop-taken.invariant.written c.in-Ok.ensures.bytes;
    }
