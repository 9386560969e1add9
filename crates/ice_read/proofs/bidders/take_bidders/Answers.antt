use Rattle.std.proofs.Common.{◌≡◌, ◌∙◌, List, [], drop, Ok, Err, sym, ap, subst, arith}
use Rattle.std.specs.Prelude.{decimal}
use Rattle.serde_json.specs.View.{view, items_view}
use Rattle.ice_defs.specs.Exchange.{Good, Exchange}
use Rattle.ice_defs.specs.Lawful.{good_names}
use Rattle.ice_defs.specs.FileFault.{◌>>=◌}
use Rattle.ice_read.specs.Values.{at_index}
use Rattle.ice_read.specs.ExchangeFile.{bidders_from}
use Rattle.ice_read.proofs.PlacesOfFaults.{fault_below}
use Rattle.ice_read.proofs.GoodsAndBidders.{bad_bidder}
use Rattle.std.proofs.lemmas.Result.{err_from_is_err_and}
use Rattle.ice_read.specs.Sale.{TellsOfSale, IsSaleOf, IsSaleAmong}
use Rattle.ice_read.proofs.SalesTold.{array_is_no_sale, sale_among}
use Rattle.ice_read.proofs.bidders.take_bidders.Goals as goal

pub returns-in-Err-clause-refused : goal.returns-in-Err-clause-refused
returns-in-Err-clause-refused c = λ path.
    let vs = c.deref-item-items.result.now in
    let i = c.loop-index.index in
    let now = c.loop-index.exchange in
    let names = good_names c.args.exchange.now in
    let child = bad_bidder now path vs i c.item-item.result _ (omega arith) (sym c.item-item.is) (c.in-Err.ensures.refused (at_index path i)) in
    let same = ap (λ (e : Exchange). good_names e) c.loop-index.invariant.same in
    ap (λ r. r >>= bidders_from names path 0 []) (c.in_ok-items.ensures.reading path)
    ∙ ap (λ xs. bidders_from names path 0 [] (items_view xs)) (sym c.deref-item-items.ensures.value)
    ∙ c.loop-index.invariant.rest path
    ∙ ap (λ g. bidders_from g path i now.bidders (items_view (drop i vs))) (sym same)
    ∙ child
    ∙ ap Err (fault_below (decimal i) c.in-Err.fault c.at.result c.at.ensures.fault path)

pub returns-in_err-items-clause-sale : goal.returns-in_err-items-clause-sale
returns-in_err-items-clause-sale c =
    let p = err_from_is_err_and c.from_residual.result c.from_residual.ensures.1 in
    rw p.1 (array_is_no_sale (IsSaleAmong c.args.exchange.now.goods (view c.args.value.now)) (view c.args.value.now) c.in_err-items.field-0.0 p.0 p.2 c.in_err-items.ensures.reading)

pub returns-in-Err-clause-sale : goal.returns-in-Err-clause-sale
returns-in-Err-clause-sale c =
    let vs = c.deref-item-items.result.now in
    let i = c.loop-index.index in
    let now = c.loop-index.exchange in
    let same : now.goods ≡ c.args.exchange.now.goods = ap (λ (e : Exchange). e.goods) c.loop-index.invariant.same in
    let told = subst (λ (goods : List Good). TellsOfSale (IsSaleOf goods (view c.item-item.result)) c.in-Err.fault) same c.in-Err.ensures.sale in
    sale_among c.args.exchange.now.goods (view c.args.value.now) vs c.item-item.result i c.in-Err.fault c.at.result (λ path. c.in_ok-items.ensures.reading path ∙ ap (λ xs. Ok (items_view xs)) (sym c.deref-item-items.ensures.value))
    (omega arith) (sym c.item-item.is) told c.at.ensures.fault
