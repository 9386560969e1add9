use Rattle.std.proofs.Common.{◌<◌, ◌+◌, length, drop, refl, arith}
use Rattle.std.specs.Prelude.{slice_index_or}
use Rattle.std.proofs.lemmas.Result.{err_from_is_err_and}
use Rattle.ice_write_fair.specs.Lines.{hold_text, hold_lines}
use Rattle.ice_write.proofs.Loops.{fails_as, next_fails, next_taken}
use Rattle.ice_write_fair.proofs.Holding.{holds_open}
use Rattle.ice_write_fair.proofs.holds.put_holds.Goals as goal

pub returns-in_err-put_hold : goal.returns-in_err-put_hold
returns-in_err-put_hold g c =
    let low = c.args.low.now in
    let high = c.args.high.now in
    let b = c.loop-bidder.bidder in
    let whole = hold_lines 0 low high in
    let there : b < length low = omega arith in
    let too : b < length high = omega (arith, there, c.requires.count) in
    let p = err_from_is_err_and c.from_residual.result c.from_residual.ensures.1 in
    fails_as whole whole c.from_residual.result p.0 p.1 refl
    (next_fails (hold_text b (slice_index_or low b 0) (slice_index_or high b 0)) (hold_lines (b + 1) (drop (b + 1) low) (drop (b + 1) high)) (hold_lines b (drop b low) (drop b high)) whole (holds_open low high b there too) c.loop-bidder.invariant.left c.in_err-put_hold.ensures)

pub loop-bidder-preserved : goal.loop-bidder-preserved
loop-bidder-preserved g c =
    let low = c.args.low.now in
    let high = c.args.high.now in
    let b = c.loop-bidder.bidder in
    let there : b < length low = omega arith in
    let too : b < length high = omega (arith, there, c.requires.count) in
    record {
      inside = omega (arith, there);
      left = next_taken (hold_text b (slice_index_or low b 0) (slice_index_or high b 0)) (hold_lines (b + 1) (drop (b + 1) low) (drop (b + 1) high)) (hold_lines b (drop b low) (drop b high)) (hold_lines 0 low high) (holds_open low high b there too) c.loop-bidder.invariant.left c.in_ok-put_hold.ensures;
    }
