use Rattle.std.proofs.Common.{◌∙◌, ◌∷◌, ◌++◌, map, ap, sym}
use Rattle.std.specs.List.{flat_map}
use Rattle.std.proofs.lemmas.Result.{err_from_is_err_and}
use Rattle.ice_defs.specs.Exchange.{Settings}
use Rattle.ice_journal.specs.Records as line
use Rattle.ice_journal.specs.Spelling.{line_of}
use Rattle.ice_journal.specs.Journal.{bytes_of}
use Rattle.ice_section.specs.Section.{good_record}
use Rattle.ice_section.specs.Described.{bidder_records, section_records}
use Rattle.ice_write.proofs.Loops.{fails_as, put_as, first_fails, then_fails, then_put, takes_both, bytes_append}
use Rattle.ice_write.proofs.exchange.put_section.Goals as goal

pub returns-in_err-put_record : goal.returns-in_err-put_record
returns-in_err-put_record g c =
    let ex = c.args.exchange.now in
    let first = line.settings c.settings.result in
    let goods = map good_record ex.goods in
    let bidders = flat_map bidder_records ex.bidders in
    let p = err_from_is_err_and c.from_residual.result c.from_residual.ensures.1 in
    fails_as (bytes_of (section_records ex)) (bytes_of (first ∷ goods) ++ bytes_of bidders) c.from_residual.result p.0 p.1 (ap (λ (x : Settings). bytes_of ((line.settings x ∷ goods) ++ bidders)) (sym c.settings.ensures) ∙ bytes_append (first ∷ goods) bidders)
    (first_fails (bytes_of (first ∷ goods)) (bytes_of bidders) (first_fails (line_of first) (bytes_of goods) c.in_err-put_record.ensures))

pub returns-in_err-put_goods : goal.returns-in_err-put_goods
returns-in_err-put_goods g c =
    let ex = c.args.exchange.now in
    let first = line.settings c.settings.result in
    let goods = map good_record ex.goods in
    let bidders = flat_map bidder_records ex.bidders in
    let p = err_from_is_err_and c.from_residual-in_err-put_goods.result c.from_residual-in_err-put_goods.ensures.1 in
    fails_as (bytes_of (section_records ex)) (bytes_of (first ∷ goods) ++ bytes_of bidders) c.from_residual-in_err-put_goods.result p.0 p.1 (ap (λ (x : Settings). bytes_of ((line.settings x ∷ goods) ++ bidders)) (sym c.settings.ensures) ∙ bytes_append (first ∷ goods) bidders)
    (first_fails (bytes_of (first ∷ goods)) (bytes_of bidders) (then_fails (line_of first) (bytes_of goods) c.in_ok-put_record.ensures c.in_err-put_goods.ensures))

pub returns : goal.returns
returns g c =
    let ex = c.args.exchange.now in
    let first = line.settings c.settings.result in
    let goods = map good_record ex.goods in
    let bidders = flat_map bidder_records ex.bidders in
    put_as (bytes_of (section_records ex)) (bytes_of (first ∷ goods) ++ bytes_of bidders) c.put_bidders.result (g.K.Sink.taken c.args.out.now) (g.K.Sink.taken c.put_bidders.new.out)
    (ap (λ (x : Settings). bytes_of ((line.settings x ∷ goods) ++ bidders)) (sym c.settings.ensures) ∙ bytes_append (first ∷ goods) bidders)
    (then_put (bytes_of (first ∷ goods)) (bytes_of bidders) c.put_bidders.result (g.K.Sink.taken c.put_bidders.new.out) (takes_both (line_of first) (bytes_of goods) c.in_ok-put_record.ensures c.in_ok-put_goods.ensures) c.put_bidders.ensures)
