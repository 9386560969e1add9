use Rattle.std.proofs.Common.{◌≡◌}
use Rattle.serde_json.specs.View.{members_view}
use Rattle.ice_defs.specs.FileFault.{Path}
use Rattle.ice_defs.specs.Lawful.{good_names}
use Rattle.ice_xor.specs.FlatFile.{units_from}
use Rattle.ice_xor.proofs.units.units_of.Given as goal

abbrev pub invariant-loop-name : goal.invariant-loop-name
invariant-loop-name l = record {
  rest : (path : Path) → units_from (good_names l.fn.exchange) path l.initial.units.items (members_view l.initial.name-iterator) ≡ units_from (good_names l.fn.exchange) path l.units.items (members_view l.name-iterator);
}
