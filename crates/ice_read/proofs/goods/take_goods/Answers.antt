use Rattle.std.proofs.Common.{◌∙◌, [], Err, sym, ap, arith}
use Rattle.std.specs.Prelude.{decimal}
use Rattle.serde_json.specs.View.{items_view}
use Rattle.ice_defs.specs.FileFault.{◌>>=◌}
use Rattle.ice_read.specs.Values.{at_index}
use Rattle.ice_read.specs.ExchangeFile.{goods_from}
use Rattle.ice_read.proofs.PlacesOfFaults.{fault_below}
use Rattle.ice_read.proofs.GoodsAndBidders.{bad_good}
use Rattle.ice_read.proofs.goods.take_goods.Goals as goal

pub returns-in-Err-clause-refused : goal.returns-in-Err-clause-refused
returns-in-Err-clause-refused c = λ path.
    let vs = c.deref-item-items.result.now in
    let i = c.loop-index.index in
    let child = bad_good c.loop-index.exchange path vs i c.item-item.result _ (omega arith) (sym c.item-item.is) (c.in-Err.ensures.refused (at_index path i)) in
    ap (λ r. r >>= goods_from path 0 []) (c.in_ok-items.ensures.reading path)
    ∙ ap (λ xs. goods_from path 0 [] (items_view xs)) (sym c.deref-item-items.ensures.value)
    ∙ c.loop-index.invariant.rest path
    ∙ child
    ∙ ap Err (fault_below (decimal i) c.in-Err.fault c.at.result c.at.ensures.fault path)
