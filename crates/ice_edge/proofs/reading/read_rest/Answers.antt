use Rattle.std.proofs.Common.{◌<◌, length, arith}
use Rattle.ice_edge.proofs.Bytes.{all_left}
use Rattle.ice_edge.proofs.reading.read_rest.Goals as goal

pub returns-in-Ok-2-clause-bytes : goal.returns-in-Ok-2-clause-bytes
returns-in-Ok-2-clause-bytes g c =
    let few : length c.read_to_end.new.buf.items < c.take.result.limit = omega (arith, c.saturating_add-most.ensures, c.take.ensures.limit, c.len.ensures, c.if-len-limit.false, c.read_to_end.new.buf.ok.0, c.read_to_end.new.buf.small) in
    all_left (g.F.Read.remaining c.args.file) c.take.result.limit c.in_ok-bytes.bytes.items c.read_to_end.new.buf.items c.in_ok-bytes.ensures.items few (rw c.take.ensures.inner at c.in-Ok-2.ensures.bytes)
