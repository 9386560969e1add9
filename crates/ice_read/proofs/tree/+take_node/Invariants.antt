use Rattle.std.proofs.Common.{◌≡◌, ◌-◌, ◌∷◌, length, drop}
use Rattle.serde_json.specs.View.{items_view}
use Rattle.ice_defs.specs.FileFault.{Path}
use Rattle.ice_defs.specs.Lawful.{good_names}
use Rattle.ice_read.specs.TreeFile.{node_at, children_at}
use Rattle.ice_read.specs.Reading.{made_so_far, levels_below}
use Rattle.ice_read.proofs.Nodes.{IsGoing}
use Rattle.ice_read.proofs.tree.+take_node.Given as goal

abbrev pub decreases-take_node : goal.decreases-take_node
decreases-take_node l = 17 - length l.maker.now.draft.opened

abbrev pub invariant-loop-index : goal.invariant-loop-index
invariant-loop-index l = record {
  going : IsGoing l.fn.maker.draft l.initial.maker.draft l.maker.draft l.index;
  same : l.maker ≡ record l.fn.maker { draft = record l.maker.draft { opened = length l.fn.maker.draft.tree ∷ l.fn.maker.draft.opened } };
  rest : (path : Path) → children_at (node_at (good_names l.fn.exchange) (levels_below l.initial.maker.draft) (length l.fn.maker.draft.tree)) path 0 (items_view l.item-items) (made_so_far l.initial.maker.draft)
      ≡ children_at (node_at (good_names l.fn.exchange) (levels_below l.initial.maker.draft) (length l.fn.maker.draft.tree)) path l.index (items_view (drop l.index l.item-items)) (made_so_far l.maker.draft);
}
