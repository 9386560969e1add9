use Rattle.std.proofs.Common.{◌≡◌, ◌≤◌, [], length, drop}
use Rattle.serde_json.specs.View.{items_view}
use Rattle.ice_defs.specs.FileFault.{Path}
use Rattle.ice_defs.specs.Lawful.{good_names}
use Rattle.ice_read.specs.ExchangeFile.{bidders_from}
use Rattle.ice_read.proofs.bidders.take_bidders.Given as goal

abbrev pub invariant-loop-index : goal.invariant-loop-index
invariant-loop-index l = record {
  same : l.exchange ≡ record l.fn.exchange { bidders = l.exchange.bidders };
  count : length l.exchange.bidders ≡ l.index;
  few : l.index ≤ 40;
  rest : (path : Path) → bidders_from (good_names l.fn.exchange) path 0 [] (items_view l.item-items) ≡ bidders_from (good_names l.fn.exchange) path l.index l.exchange.bidders (items_view (drop l.index l.item-items));
}
