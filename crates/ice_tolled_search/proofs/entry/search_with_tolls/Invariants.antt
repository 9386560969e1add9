use Rattle.std.proofs.Common.{◌≡◌}
use Rattle.ice_defs.specs.Exchange.{trees_of, exact_of}
use Rattle.ice_defs.specs.Follows.{AreLawful}
use Rattle.ice_refute.specs.Waiting.{nodes_of}
use Rattle.ice_search_log.specs.Searching.{IsIncumbent}
use Rattle.ice_tolled_search.specs.Stated.{IsMore, AddsShown}
use Rattle.ice_tolled_search.proofs.entry.search_with_tolls.Given as goal

abbrev pub invariant-loop-pass : goal.invariant-loop-pass
invariant-loop-pass l = record {
  incumbent : IsIncumbent (trees_of l.exchange) (exact_of l.exchange) l.weights l.start l.first l.best l.value;
  nodes : l.stated.goods.nodes ≡ nodes_of (trees_of l.exchange);
  lawful : AreLawful (trees_of l.exchange) (exact_of l.exchange) l.stated.goods.goods;
  more : IsMore l.fn.stated.goods l.stated.goods;
  shown : AddsShown (trees_of l.exchange) (exact_of l.exchange) l.fn.stated.shown.items l.stated.shown.items;
  branches : l.branches ≡ l.fn.branches;
}
