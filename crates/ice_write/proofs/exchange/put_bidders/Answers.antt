use Rattle.std.proofs.Common.{◌<◌, refl, length, arith}
use Rattle.std.specs.List.{flat_map}
use Rattle.std.proofs.lemmas.Result.{err_from_is_err_and}
use Rattle.ice_journal.specs.Journal.{bytes_of}
use Rattle.ice_section.specs.Described.{bidder_records}
use Rattle.ice_write.specs.Bidders.{no_bidder, bidder_of}
use Rattle.ice_write.specs.Pieces.{bidder_text}
use Rattle.ice_write.proofs.Loops.{fails_as, takes_as, one_more, one_fails, all_put, bytes_flat, same_there}
use Rattle.ice_write.proofs.exchange.put_bidders.Goals as goal

pub returns-in_err-put_bidder : goal.returns-in_err-put_bidder
returns-in_err-put_bidder g c =
    let bidders = c.args.exchange.now.bidders in
    let i = c.loop-bidder.bidder in
    let there : i < length bidders = omega (arith, c.bidders-bidder-end.ensures.value) in
    let p = err_from_is_err_and c.from_residual.result c.from_residual.ensures.1 in
    fails_as (bytes_of (flat_map bidder_records bidders)) (flat_map bidder_text bidders) c.from_residual.result p.0 p.1 (bytes_flat bidder_records bidders)
    (one_fails bidder_text bidders i (bidder_of c.args.exchange.now i) there (same_there bidders i no_bidder there) (bidder_text (bidder_of c.args.exchange.now i)) (flat_map bidder_text bidders) refl c.loop-bidder.invariant c.in_err-put_bidder.ensures)

pub loop-bidder-preserved : goal.loop-bidder-preserved
loop-bidder-preserved g c =
    let bidders = c.args.exchange.now.bidders in
    let i = c.loop-bidder.bidder in
    let there : i < length bidders = omega (arith, c.bidders-bidder-end.ensures.value) in
    one_more bidder_text bidders i (bidder_of c.args.exchange.now i) there (same_there bidders i no_bidder there) (bidder_text (bidder_of c.args.exchange.now i)) (flat_map bidder_text bidders) refl c.loop-bidder.invariant c.in_ok-put_bidder.ensures

pub returns : goal.returns
returns g c =
    let bidders = c.args.exchange.now.bidders in
    takes_as (bytes_of (flat_map bidder_records bidders)) (flat_map bidder_text bidders) (bytes_flat bidder_records bidders)
    (all_put bidder_text bidders c.loop-bidder.bidder (flat_map bidder_text bidders) (omega (arith, c.bidders-bidder-end.ensures.value)) c.loop-bidder.invariant)
