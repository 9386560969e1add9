use Rattle.std.proofs.Common.{◌<◌, length, refl, sym, arith}
use Rattle.std.specs.List.{flat_map}
use Rattle.std.proofs.lemmas.Result.{err_from_is_err_and}
use Rattle.ice_write.proofs.Loops.{fails_as, one_more, one_fails, all_put}
use Rattle.ice_replay.specs.Lines.{bidder_line, bidder_lines}
use Rattle.ice_replay.proofs.putting.put_bidders.Goals as goal

pub returns-in_err-put_bidder : goal.returns-in_err-put_bidder
returns-in_err-put_bidder g c =
    let xs = c.args.bidders.now in
    let i = c.loop-bidder.bidder-index in
    let x = c.bidder-item.result in
    let there : i < length xs = omega arith in
    let p = err_from_is_err_and c.from_residual.result c.from_residual.ensures.1 in
    fails_as (bidder_lines xs) (bidder_lines xs) c.from_residual.result p.0 p.1 refl
    (one_fails bidder_line xs i x there (sym c.bidder-item.is) (bidder_line x) (flat_map bidder_line xs) refl c.loop-bidder.invariant c.in_err-put_bidder.ensures)

pub loop-bidder-preserved : goal.loop-bidder-preserved
loop-bidder-preserved g c =
    let xs = c.args.bidders.now in
    let i = c.loop-bidder.bidder-index in
    let x = c.bidder-item.result in
    let there : i < length xs = omega arith in
    one_more bidder_line xs i x there (sym c.bidder-item.is) (bidder_line x) (flat_map bidder_line xs) refl c.loop-bidder.invariant c.in_ok-put_bidder.ensures

pub returns : goal.returns
returns g c =
    let xs = c.args.bidders.now in
    all_put bidder_line xs c.loop-bidder.bidder-index (flat_map bidder_line xs) (omega arith) c.loop-bidder.invariant
