-- The parts of an exchange that are written one by one.
use Rattle.std.specs.Prelude.{ℕ, ℤ, List, [], ◌∷◌, codes, slice_index_or}
use Rattle.serde_json.specs.Data.{Data, string}
use Rattle.ice_defs.specs.declared.NodeKind.TheVariants.{Choose}
use Rattle.ice_defs.specs.Tree.{Tree}
use Rattle.ice_defs.specs.Bounds.{Bounds, no_bounds}
use Rattle.ice_defs.specs.Exchange.{Bidder, Exchange}
use Rattle.ice_read.specs.Written.{object_of, is_called, kind_data}

-- a bidder of whom only the tree is written
abbrev pub with_tree : Tree → Bounds → Bidder
with_tree tree bounds = record { name = []; own = []; tree = tree; bounds = bounds }

abbrev pub bidder_of : Exchange → ℕ → Bidder
bidder_of ex b = slice_index_or ex.bidders b (with_tree [] no_bounds)

-- a choose node with these children
abbrev pub choose_data : ℕ → ℕ → ℤ → ℤ → List Data → Data
choose_data least most lo hi children = kind_data [] (Choose least most) lo hi children

abbrev pub named_data : List ℕ → Data → Data → Data
named_data name own tree =
    object_of (is_called (codes "name") (string name) ∷ is_called (codes "own") own ∷ is_called (codes "tree") tree ∷ [])

abbrev pub file_data : Data → Data → Data → Data
file_data settings goods bidders =
    object_of (is_called (codes "settings") settings ∷ is_called (codes "goods") goods ∷ is_called (codes "bidders") bidders ∷ [])
