use Rattle.std.proofs.Common.{◌≡◌, ◌≤◌, [], length, drop}
use Rattle.serde_json.specs.View.{items_view}
use Rattle.ice_defs.specs.FileFault.{Path}
use Rattle.ice_read.specs.ExchangeFile.{goods_from}
use Rattle.ice_read.proofs.goods.take_goods.Given as goal

abbrev pub invariant-loop-index : goal.invariant-loop-index
invariant-loop-index l = record {
  same : l.exchange ≡ record l.fn.exchange { goods = l.exchange.goods };
  count : length l.exchange.goods ≡ l.index;
  few : l.index ≤ 32;
  rest : (path : Path) → goods_from path 0 [] (items_view l.item-items) ≡ goods_from path l.index l.exchange.goods (items_view (drop l.index l.item-items));
}
