-- A tree in the making whose nodes have values.
use Rattle.std.specs.Prelude.{ℕ, ◌≡◌, ◌≤◌, List, [], ◌∷◌, ◌++◌, length, pos, neg_ℤ}
use Rattle.std.specs.List.{AllByRecursion}
use Rattle.ice_defs.specs.declared.NodeKind.{NodeKind}
use Rattle.ice_defs.specs.Tree.{Tree}
use Rattle.ice_defs.specs.Exchange.{IsBetween}
use Rattle.ice_defs.specs.Making.{TreeDraft, innermost}
use Rattle.ice_tree.specs.Making.{Making}
use Rattle.ice_gen.specs.declared.valued.Valued.{Valued}
use Rattle.ice_gen.specs.Generated.{bounds_of_values}

-- a true value of at most 1,000 in size, with distances of at most 255
abbrev pub IsModest : Valued → Type 0
IsModest v =
    IsBetween (neg_ℤ (pos 1000)) (pos 1000) v.truth
    × IsBetween (pos 0) (pos 255) (pos v.below)
    × IsBetween (pos 0) (pos 255) (pos v.above)

-- one value for each node, and the open nodes, the innermost first
pub record ValuedDraft : Type 0 where
  pub tree : Tree
  pub values : List Valued
  pub opened : List ℕ

abbrev pub no_nodes : ValuedDraft
no_nodes = record { tree = []; values = []; opened = [] }

-- the same tree with the bounds of its values
abbrev pub draft_of : ValuedDraft → TreeDraft
draft_of d = record { tree = d.tree; bounds = bounds_of_values d.values; opened = d.opened }

-- one more node, under the innermost open one
abbrev pub with_valued : ValuedDraft → NodeKind → Valued → ValuedDraft
with_valued d kind value = record {
  tree = d.tree ++ record { kind = kind; parent = innermost d.opened } ∷ [];
  values = d.values ++ value ∷ [];
  opened = d.opened;
}

-- one more choose node, which is open
abbrev pub with_choose : ValuedDraft → NodeKind → Valued → ValuedDraft
with_choose d kind value = record (with_valued d kind value) { opened = length d.tree ∷ d.opened }

-- what a maker of trees and a list of values keep
abbrev pub kept : Making → List Valued → ValuedDraft
kept maker values = record { tree = maker.draft.tree; values = values; opened = maker.draft.opened }

-- over 12 goods, one value for each node and none of them large, and the bounds of the values
pub record IsKept (maker : Making) (values : List Valued) : Type 0 where
  pub goods : maker.goods ≡ 12
  pub count : length values ≡ length maker.draft.tree
  pub few : length values ≤ 13
  pub modest : AllByRecursion IsModest values
  pub bounds : maker.draft.bounds ≡ bounds_of_values values
