use Rattle.std.proofs.Common.{◌≡◌, [], length, drop}
use Rattle.serde_json.specs.View.{items_view}
use Rattle.ice_defs.specs.FileFault.{Path}
use Rattle.ice_defs.specs.Lawful.{good_names}
use Rattle.ice_xor.specs.FlatFile.{flat_bidders_from}
use Rattle.ice_xor.specs.Lawful.{AreFlatBidders}
use Rattle.ice_xor.proofs.bidders.bidders_of.Given as goal

abbrev pub invariant-loop-index : goal.invariant-loop-index
invariant-loop-index l = record {
  count : length l.bidders.items ≡ l.index;
  lawful : AreFlatBidders (length l.exchange.goods) l.bidders.items;
  rest : (path : Path) → flat_bidders_from (good_names l.exchange) path 0 [] (items_view l.item-items) ≡ flat_bidders_from (good_names l.exchange) path l.index l.bidders.items (items_view (drop l.index l.item-items));
}
