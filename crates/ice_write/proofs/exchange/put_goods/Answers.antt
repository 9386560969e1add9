use Rattle.std.proofs.Common.{◌≡◌, ◌∙◌, ◌<◌, ap, length, map, get_or, arith}
use Rattle.std.specs.List.{flat_map}
use Rattle.std.proofs.lemmas.Result.{err_from_is_err_and}
use Rattle.ice_defs.specs.Exchange.{Good}
use Rattle.ice_journal.specs.Spelling.{line_of}
use Rattle.ice_journal.specs.Journal.{bytes_of}
use Rattle.ice_journal.specs.Lines.{record_of}
use Rattle.ice_section.specs.Section.{good_record}
use Rattle.ice_write.specs.Pieces.{good_text}
use Rattle.ice_write.proofs.Loops.{fails_as, takes_as, one_more, one_fails, all_put, bytes_map}
use Rattle.ice_write.proofs.Described.{good_is}
use Rattle.ice_write.proofs.exchange.put_goods.Goals as goal

pub returns-in_err-put_record : goal.returns-in_err-put_record
returns-in_err-put_record g c =
    let goods = c.args.exchange.now.goods in
    let i = c.loop-good.good in
    let there : i < length goods = omega (arith, c.goods-good-end.ensures.value) in
    let x : Good = record { name = c.copy-name.result; exact = c.is_exact.result } in
    let is : get_or goods i x ≡ x = good_is c.args.exchange.now i c.copy-name.result c.is_exact.result there (c.copy-name.ensures.copy ∙ c.good_name.ensures) c.is_exact.ensures in
    let p = err_from_is_err_and c.from_residual.result c.from_residual.ensures.1 in
    fails_as (bytes_of (map good_record goods)) (flat_map good_text goods) c.from_residual.result p.0 p.1 (bytes_map good_record goods)
    (one_fails good_text goods i x there is (line_of (record_of c.good_line.result)) (flat_map good_text goods) (ap line_of c.good_line.ensures.line) c.loop-good.invariant c.in_err-put_record.ensures)

pub loop-good-preserved : goal.loop-good-preserved
loop-good-preserved g c =
    let goods = c.args.exchange.now.goods in
    let i = c.loop-good.good in
    let there : i < length goods = omega (arith, c.goods-good-end.ensures.value) in
    let x : Good = record { name = c.copy-name.result; exact = c.is_exact.result } in
    let is : get_or goods i x ≡ x = good_is c.args.exchange.now i c.copy-name.result c.is_exact.result there (c.copy-name.ensures.copy ∙ c.good_name.ensures) c.is_exact.ensures in
    one_more good_text goods i x there is (line_of (record_of c.good_line.result)) (flat_map good_text goods) (ap line_of c.good_line.ensures.line) c.loop-good.invariant c.in_ok-put_record.ensures

pub returns : goal.returns
returns g c =
    let goods = c.args.exchange.now.goods in
    takes_as (bytes_of (map good_record goods)) (flat_map good_text goods) (bytes_map good_record goods)
    (all_put good_text goods c.loop-good.good (flat_map good_text goods) (omega (arith, c.goods-good-end.ensures.value)) c.loop-good.invariant)
