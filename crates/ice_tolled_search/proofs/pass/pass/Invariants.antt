use Rattle.std.proofs.Common.{◌≡◌, ◌+◌, ◌*◌, length, ℕ}
use Rattle.ice_defs.specs.Conditions.{AreFixingsOf}
use Rattle.ice_defs.specs.Exchange.{exact_of}
use Rattle.ice_refute.specs.Waiting.{nodes_of}
use Rattle.ice_tolled_search.specs.Stated.{AreSame}
use Rattle.ice_tolled_search.proofs.Growing.{Grows}
use Rattle.ice_tolled_search.proofs.pass.pass.Given as goal

abbrev pub invariant-loop-trees : goal.invariant-loop-trees
invariant-loop-trees l = record {
  same : AreSame l.fn.stated.goods l.stated.goods;
  shown : l.stated.shown.items ≡ l.fn.stated.shown.items;
  exact : l.desk.room ≡ exact_of l.exchange;
  desk : AreFixingsOf l.trees l.desk.marks;
  marks : AreFixingsOf l.trees l.marks;
  nodes : l.walk.nodes ≡ nodes_of l.trees;
  used : ℕ;
  grows : Grows l.fn.stated.goods.goods l.trees (exact_of l.exchange) l.weights l.value l.start l.log l.walk.sides used;
  left : l.left + used ≡ l.branches;
}

abbrev pub decreases-loop-trees : goal.decreases-loop-trees
decreases-loop-trees l = 2 * l.left + length l.walk.sides
