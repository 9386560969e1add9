use Rattle.std.proofs.Common.{◌∙◌, ◌∷◌, ap, get_or}
use Rattle.std.proofs.lemmas.Result.{err_from_is_err_and}
use Rattle.ice_journal.specs.Records as line
use Rattle.ice_journal.specs.Spelling.{line_of}
use Rattle.ice_journal.specs.Journal.{bytes_of}
use Rattle.ice_section.specs.Described.{node_records, bidder_records}
use Rattle.ice_write.specs.Bidders.{with_tree, bidder_of}
use Rattle.ice_write.proofs.Loops.{fails_as, put_as, first_fails, then_put}
use Rattle.ice_write.proofs.Described.{bidder_is, sized_bounds}
use Rattle.ice_write.proofs.exchange.put_bidder.Goals as goal

pub put_nodes-requires : goal.put_nodes-requires
put_nodes-requires g c =
    sized_bounds c.args.exchange.now c.args.bidder c.index-trees-bidder.result c.index-bounds-bidder.result c.trees.ensures.lawful c.requires
    (c.index-trees-bidder.is ∙ ap (λ l. get_or l c.args.bidder c.index-trees-bidder.result) c.trees.ensures.value)
    (c.index-bounds-bidder.is ∙ ap (λ l. get_or l c.args.bidder c.index-bounds-bidder.result) c.bounds.ensures.value)

pub returns-in_err-put_record : goal.returns-in_err-put_record
returns-in_err-put_record g c =
    let tree = c.index-trees-bidder.result in
    let bounds = c.index-bounds-bidder.result in
    let first = line.bidder c.copy.result c.own_of.result.items in
    let nodes = node_records (with_tree tree bounds) in
    let p = err_from_is_err_and c.from_residual.result c.from_residual.ensures.1 in
    fails_as (bytes_of (bidder_records (bidder_of c.args.exchange.now c.args.bidder))) (bytes_of (first ∷ nodes)) c.from_residual.result p.0 p.1
    (ap bytes_of (bidder_is c.args.exchange.now c.args.bidder c.copy.result c.own_of.result.items tree bounds c.requires (c.copy.ensures.copy ∙ c.bidder_name.ensures) c.own_of.ensures.own
    (c.index-trees-bidder.is ∙ ap (λ l. get_or l c.args.bidder tree) c.trees.ensures.value) (c.index-bounds-bidder.is ∙ ap (λ l. get_or l c.args.bidder bounds) c.bounds.ensures.value)))
    (first_fails (line_of first) (bytes_of nodes) c.in_err-put_record.ensures)

pub returns : goal.returns
returns g c =
    let tree = c.index-trees-bidder.result in
    let bounds = c.index-bounds-bidder.result in
    let first = line.bidder c.copy.result c.own_of.result.items in
    let nodes = node_records (with_tree tree bounds) in
    put_as (bytes_of (bidder_records (bidder_of c.args.exchange.now c.args.bidder))) (bytes_of (first ∷ nodes)) c.put_nodes.result (g.K.Sink.taken c.args.out.now) (g.K.Sink.taken c.put_nodes.new.out)
    (ap bytes_of (bidder_is c.args.exchange.now c.args.bidder c.copy.result c.own_of.result.items tree bounds c.requires (c.copy.ensures.copy ∙ c.bidder_name.ensures) c.own_of.ensures.own
    (c.index-trees-bidder.is ∙ ap (λ l. get_or l c.args.bidder tree) c.trees.ensures.value) (c.index-bounds-bidder.is ∙ ap (λ l. get_or l c.args.bidder bounds) c.bounds.ensures.value)))
    (then_put (line_of first) (bytes_of nodes) c.put_nodes.result (g.K.Sink.taken c.put_nodes.new.out) c.in_ok-put_record.ensures c.put_nodes.ensures)
