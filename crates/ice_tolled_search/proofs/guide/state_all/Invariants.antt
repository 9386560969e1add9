use Rattle.std.proofs.Common.{◌≡◌}
use Rattle.std.specs.Prelude.{vec_len}
use Rattle.std.specs.List.{All}
use Rattle.ice_defs.specs.Follows.{AreLawful}
use Rattle.ice_refute.specs.Waiting.{nodes_of}
use Rattle.ice_separation.specs.Derivations.{IsDerivation}
use Rattle.ice_tolled_search.specs.Stated.{IsMore, AddsShown}
use Rattle.ice_tolled_search.proofs.guide.state_all.Given as goal

abbrev pub invariant-loop-one : goal.invariant-loop-one
invariant-loop-one l = record {
  each : All (IsDerivation l.trees l.room) l.found.items;
  lawful : AreLawful l.trees l.room l.stated.goods.goods;
  more : IsMore l.fn.stated.goods l.stated.goods;
  shown : AddsShown l.trees l.room l.fn.stated.shown.items l.stated.shown.items;
  nodes : l.stated.goods.nodes ≡ nodes_of l.trees;
}

abbrev pub decreases-loop-one : goal.decreases-loop-one
decreases-loop-one l = vec_len l.found
