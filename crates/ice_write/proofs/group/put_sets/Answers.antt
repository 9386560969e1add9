use Rattle.std.proofs.Common.{◌<◌, ap, length, map, arith, []}
use Rattle.std.specs.List.{flat_map}
use Rattle.std.proofs.lemmas.Result.{err_from_is_err_and}
use Rattle.ice_defs.specs.Trade.{set_of}
use Rattle.ice_journal.specs.Records as line
use Rattle.ice_journal.specs.Journal.{bytes_of}
use Rattle.ice_journal.specs.Ranges.{IsBits}
use Rattle.ice_write.specs.Pieces.{set_text}
use Rattle.ice_write.proofs.Loops.{fails_as, takes_as, one_more, one_fails, all_put, bytes_map, same_there, next_all}
use Rattle.ice_write.proofs.group.put_sets.Goals as goal

pub returns-in_err-put_record : goal.returns-in_err-put_record
returns-in_err-put_record g c =
    let sets = c.args.sets.now in
    let i = c.loop-bidder.bidder in
    let there : i < length sets = omega (arith, c.len-bidder-end.ensures) in
    let p = err_from_is_err_and c.from_residual.result c.from_residual.ensures.1 in
    fails_as (bytes_of (map line.set sets)) (flat_map set_text sets) c.from_residual.result p.0 p.1 (bytes_map line.set sets)
    (one_fails set_text sets i (set_of sets i) there (same_there sets i [] there) (set_text c.of.result.now) (flat_map set_text sets) (ap set_text c.of.ensures) c.loop-bidder.invariant.left c.in_err-put_record.ensures)

pub loop-bidder-preserved : goal.loop-bidder-preserved
loop-bidder-preserved g c =
    let sets = c.args.sets.now in
    let i = c.loop-bidder.bidder in
    let there : i < length sets = omega (arith, c.len-bidder-end.ensures) in
    record {
      bits = (next_all IsBits sets i [] there c.loop-bidder.invariant.bits).1;
      left = one_more set_text sets i (set_of sets i) there (same_there sets i [] there) (set_text c.of.result.now) (flat_map set_text sets) (ap set_text c.of.ensures) c.loop-bidder.invariant.left c.in_ok-put_record.ensures;
    }

pub returns : goal.returns
returns g c =
    let sets = c.args.sets.now in
    takes_as (bytes_of (map line.set sets)) (flat_map set_text sets) (bytes_map line.set sets)
    (all_put set_text sets c.loop-bidder.bidder (flat_map set_text sets) (omega (arith, c.len-bidder-end.ensures)) c.loop-bidder.invariant.left)
