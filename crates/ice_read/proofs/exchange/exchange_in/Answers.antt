use Rattle.std.proofs.Common.{◌∙◌, Ok, [], sym, ap}
use Rattle.std.proofs.lemmas.Result.{err_from_is_err_and}
use Rattle.std.specs.Prelude.{codes}
use Rattle.serde_json.specs.View.{view}
use Rattle.ice_defs.specs.Exchange.{Exchange}
use Rattle.ice_defs.specs.Making.{exchange_refusal}
use Rattle.ice_read.specs.ExchangeFile.{settings_at, goods_at, bidders_at}
use Rattle.ice_read.proofs.GoodsAndBidders.{unmade}
use Rattle.ice_read.proofs.ExchangeFiles.{file_chain, whole, not_refused}
use Rattle.ice_read.proofs.FaultNumbers.{numbered, member_no_memory}
use Rattle.ice_read.proofs.ExchangeFaultNumbers.{settings_plain, goods_plain, bidders_numbered}
use Rattle.ice_read.specs.declared.fault.ReadFault.{ReadFault}
use Rattle.ice_read.specs.Sale.{IsSaleIn}
use Rattle.ice_read.proofs.SalesTold.{shape_is_no_sale, member_is_no_sale, finish_is_no_sale, sale_in}
use Rattle.ice_read.proofs.exchange.exchange_in.Goals as goal

pub returns-in_err-settings-clause-answer : goal.returns-in_err-settings-clause-answer
returns-in_err-settings-clause-answer c =
    let p = err_from_is_err_and c.from_residual.result c.from_residual.ensures.1 in
    rw (p.1, p.2) (λ other. rw (← c.if-not-has_exactly.ensures, c.in_err-settings.ensures []))

pub returns-in_err-take_goods_member-clause-answer : goal.returns-in_err-take_goods_member-clause-answer
returns-in_err-take_goods_member-clause-answer c =
    let p = err_from_is_err_and c.from_residual-in_err-take_goods_member.result c.from_residual-in_err-take_goods_member.ensures.1 in
    rw (p.1, p.2) (λ other. rw (← c.if-not-has_exactly.ensures, c.in_ok-settings.ensures [], c.in_err-take_goods_member.ensures.refused []))

pub returns-in_err-take_bidders_member-clause-answer : goal.returns-in_err-take_bidders_member-clause-answer
returns-in_err-take_bidders_member-clause-answer c =
    let p = err_from_is_err_and c.from_residual-in_err-take_bidders_member.result c.from_residual-in_err-take_bidders_member.ensures.1 in
    rw (p.1, p.2) (λ other. rw (← c.if-not-has_exactly.ensures, c.in_ok-settings.ensures [], c.in_ok-take_goods_member.ensures.taken [], c.in_err-take_bidders_member.ensures.refused []))

pub returns-in-Ok-finish-clause-answer : goal.returns-in-Ok-finish-clause-answer
returns-in-Ok-finish-clause-answer c =
    let with_goods = c.take_goods_member.new.exchange in
    let full = c.take_bidders_member.new.exchange in
    let goods = ap (λ (e : Exchange). e.goods) c.in_ok-take_bidders_member.ensures.same in
    let due = rw goods at c.in-Ok-finish.ensures.refused in
    file_chain (view c.args.value.now) c.in_ok-settings.settings with_goods.goods full.bidders c.if-not-has_exactly.ensures (c.in_ok-settings.ensures []) (c.in_ok-take_goods_member.ensures.taken []) (c.in_ok-take_bidders_member.ensures.taken [])
    ∙ not_refused c.in_ok-settings.settings with_goods.goods full.bidders due
    ∙ ap (λ (e : Exchange). Ok e) (whole c.in_ok-settings.settings c.in-Ok.exchange with_goods full c.in-Ok.ensures c.in_ok-take_goods_member.ensures.same c.in_ok-take_bidders_member.ensures.same ∙ sym c.in-Ok-finish.ensures.made)

pub returns-in-Err-clause-answer : goal.returns-in-Err-clause-answer
returns-in-Err-clause-answer c = λ other.
    let with_goods = c.take_goods_member.new.exchange in
    let full = c.take_bidders_member.new.exchange in
    let goods = ap (λ (e : Exchange). e.goods) c.in_ok-take_bidders_member.ensures.same in
    let due = rw goods at c.in-Err.ensures.refused in
    file_chain (view c.args.value.now) c.in_ok-settings.settings with_goods.goods full.bidders c.if-not-has_exactly.ensures (c.in_ok-settings.ensures []) (c.in_ok-take_goods_member.ensures.taken []) (c.in_ok-take_bidders_member.ensures.taken [])
    ∙ unmade (exchange_refusal with_goods.goods full.bidders) c.in-Err.fault c.of-in-Err.result (record { settings = c.in_ok-settings.settings; goods = with_goods.goods; bidders = full.bidders }) [] due.0 due.1 c.of-in-Err.ensures

pub returns-in_err-settings-clause-memory : goal.returns-in_err-settings-clause-memory
returns-in_err-settings-clause-memory c =
    let p = err_from_is_err_and c.from_residual.result c.from_residual.ensures.1 in
    rw (p.1, p.2) (λ memory. absurd (member_no_memory (codes "settings") settings_at (λ path d. numbered _ (settings_plain path d)) (view c.args.value.now) c.in_err-settings.field-0.0 (c.in_err-settings.ensures []) memory))

pub returns-in_err-take_goods_member-clause-memory : goal.returns-in_err-take_goods_member-clause-memory
returns-in_err-take_goods_member-clause-memory c =
    let p = err_from_is_err_and c.from_residual-in_err-take_goods_member.result c.from_residual-in_err-take_goods_member.ensures.1 in
    rw (p.1, p.2) (λ memory. absurd (member_no_memory (codes "goods") goods_at (λ path d. numbered _ (goods_plain path d)) (view c.args.value.now) c.in_err-take_goods_member.field-0.0 (c.in_err-take_goods_member.ensures.refused []) memory))

pub returns-in_err-take_bidders_member-clause-memory : goal.returns-in_err-take_bidders_member-clause-memory
returns-in_err-take_bidders_member-clause-memory c =
    let p = err_from_is_err_and c.from_residual-in_err-take_bidders_member.result c.from_residual-in_err-take_bidders_member.ensures.1 in
    let goods = c.take_goods_member.new.exchange.goods in
    rw (p.1, p.2) (λ memory. absurd (member_no_memory (codes "bidders") (bidders_at goods) (bidders_numbered goods) (view c.args.value.now) c.in_err-take_bidders_member.field-0.0 (c.in_err-take_bidders_member.ensures.refused []) memory))

pub returns-then-not-has_exactly-clause-sale : goal.returns-then-not-has_exactly-clause-sale
returns-then-not-has_exactly-clause-sale c = shape_is_no_sale (IsSaleIn (view c.args.value.now)) c.of.result (ap (λ (f : ReadFault). f.cause) c.of.ensures)

pub returns-in_err-settings-clause-sale : goal.returns-in_err-settings-clause-sale
returns-in_err-settings-clause-sale c =
    let p = err_from_is_err_and c.from_residual.result c.from_residual.ensures.1 in
    rw p.1 (member_is_no_sale (IsSaleIn (view c.args.value.now)) (codes "settings") settings_at settings_plain (view c.args.value.now) c.in_err-settings.field-0.0 p.0 p.2 (c.in_err-settings.ensures []))

pub returns-in_err-take_goods_member-clause-sale : goal.returns-in_err-take_goods_member-clause-sale
returns-in_err-take_goods_member-clause-sale c =
    let p = err_from_is_err_and c.from_residual-in_err-take_goods_member.result c.from_residual-in_err-take_goods_member.ensures.1 in
    rw p.1 (member_is_no_sale (IsSaleIn (view c.args.value.now)) (codes "goods") goods_at goods_plain (view c.args.value.now) c.in_err-take_goods_member.field-0.0 p.0 p.2 (c.in_err-take_goods_member.ensures.refused []))

pub returns-in_err-take_bidders_member-clause-sale : goal.returns-in_err-take_bidders_member-clause-sale
returns-in_err-take_bidders_member-clause-sale c =
    let p = err_from_is_err_and c.from_residual-in_err-take_bidders_member.result c.from_residual-in_err-take_bidders_member.ensures.1 in
    rw (p.1, p.2) (sale_in (view c.args.value.now) c.take_goods_member.new.exchange.goods c.in_err-take_bidders_member.field-0.0 (c.in_ok-take_goods_member.ensures.taken []) c.in_err-take_bidders_member.ensures.sale)

pub returns-in-Err-clause-sale : goal.returns-in-Err-clause-sale
returns-in-Err-clause-sale c =
    finish_is_no_sale (IsSaleIn (view c.args.value.now)) c.take_bidders_member.new.exchange.goods c.take_bidders_member.new.exchange.bidders c.in-Err.fault c.of-in-Err.result c.in-Err.ensures.refused.0 c.of-in-Err.ensures
