use Rattle.std.proofs.Common.{◌≡◌, length}
use Rattle.serde_json.specs.View.{members_view}
use Rattle.ice_defs.specs.FileFault.{Path}
use Rattle.ice_defs.specs.Lawful.{good_names}
use Rattle.ice_read.specs.ExchangeFile.{own_from}
use Rattle.ice_read.specs.Owned.{AreAmounts}
use Rattle.ice_read.proofs.own.own_of.Given as goal

abbrev pub invariant-loop-name : goal.invariant-loop-name
invariant-loop-name l = record {
  count : length l.own.items ≡ length l.fn.exchange.goods;
  limits : AreAmounts l.own.items;
  rest : (path : Path) → own_from (good_names l.fn.exchange) path l.initial.own.items (members_view l.initial.name-iterator) ≡ own_from (good_names l.fn.exchange) path l.own.items (members_view l.name-iterator);
}
