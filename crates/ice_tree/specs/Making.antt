-- A tree that is being made.
use Rattle.std.specs.Prelude.{ℕ, suc, ◌+◌, ◌<◌, ◌≤◌, ◌≡◌, ◌≢◌, ◌==◌, if◌then◌else◌, List, [], ◌∷◌, ◌++◌, length, reverse, slice_index}
use Rattle.std.specs.Prelude.{slice_set, Option, Some, None, ℤ}
use Rattle.ice_defs.specs.declared.Node.{Node}
use Rattle.ice_defs.specs.declared.NodeKind.{NodeKind}
use Rattle.ice_defs.specs.declared.NodeKind.TheVariants.{Choose, Buy, Sell}
use Rattle.ice_defs.specs.Tree.{IsInterval, kind_of, parent_of, children_of}
use Rattle.ice_defs.specs.Making.{TreeDraft, close_refusal, innermost}
use Rattle.ice_defs.specs.Lawful.{IsLimitedKind, IsDepth, AreBounds}

-- the number of goods, and the tree so far
pub record Making : Type 0 where
  pub goods : ℕ
  pub draft : TreeDraft

abbrev pub IsLeaf : NodeKind → Type 0
IsLeaf (Choose least most) = ⊥
IsLeaf (Buy good units) = Unit {0}
IsLeaf (Sell good units) = Unit {0}

-- ---- closing

abbrev pub kind_close_refusal : NodeKind → ℕ → Option ℕ
kind_close_refusal (Choose least most) children = close_refusal least most children
kind_close_refusal (Buy good units) children = if children == 0 then None else Some 20
kind_close_refusal (Sell good units) children = if children == 0 then None else Some 20

-- no node is open, or the innermost open one has no
-- child or an interval that doesn't fit its children
abbrev pub draft_close_refusal : TreeDraft → Option ℕ
draft_close_refusal d =
    if length d.opened == 0 then Some 25
    else kind_close_refusal (kind_of d.tree (innermost d.opened)) (length (children_of d.tree (innermost d.opened)))

abbrev pub all_but_first : List ℕ → List ℕ
all_but_first [] = []
all_but_first (number ∷ outer) = outer

-- the innermost open node is closed
abbrev pub with_closed : TreeDraft → TreeDraft
with_closed d = record d { opened = all_but_first d.opened }

-- ---- what the maker keeps

-- the open nodes from the root down make the path
abbrev pub draft_of : List Node → List ℤ → List ℤ → List ℕ → TreeDraft
draft_of nodes lo hi path = record { tree = nodes; bounds = record { lo = lo; hi = hi }; opened = reverse path }

-- the numbers of children, with one child more below the parent
abbrev pub one_child_more : List ℕ → ℕ → List ℕ
one_child_more children parent = slice_set children parent (slice_index children parent + 1) ++ 0 ∷ []

-- a tree whose nodes on the path are open
pub record IsGrown (nodes : List Node) (path : List ℕ) : Type 0 where
  pub few : length nodes ≤ 200
  pub deep : length path ≤ 16
  pub root_parent : parent_of nodes 0 ≡ 0
  pub parent_first : (c : ℕ) → 0 < c → c < length nodes → parent_of nodes c < c
  pub preorder : (c k : ℕ) → 0 < c → c < length nodes → parent_of nodes c < k → k < c → parent_of nodes c ≤ parent_of nodes k
  pub path_there : (k : ℕ) → k < length path → slice_index path k < length nodes
  pub path_up : (i j : ℕ) → i < j → j < length path → slice_index path i < slice_index path j
  pub path_over : (k j : ℕ) → k < length path → slice_index path k < j → j < length nodes → slice_index path k ≤ parent_of nodes j
  pub closed : (n : ℕ) → n < length nodes → ((k : ℕ) → k < length path → slice_index path k ≢ n)
      → IsInterval (kind_of nodes n) (length (children_of nodes n))

pub record AreCounts (nodes : List Node) (children : List ℕ) : Type 0 where
  pub there : length children ≡ length nodes
  pub are : (n : ℕ) → n < length nodes → slice_index children n ≡ length (children_of nodes n)

-- each node has its depth, and those on the path have 1, 2 and so on
pub record HasDepths (nodes : List Node) (path : List ℕ) : Type 0 where
  pub depth : ℕ → ℕ
  pub is : IsDepth nodes depth
  pub low : (n : ℕ) → n < length nodes → depth n ≤ 16
  pub along : (k : ℕ) → k < length path → depth (slice_index path k) ≡ suc k

pub record IsMaking (goods : ℕ) (nodes : List Node) (lo hi : List ℤ) (children path : List ℕ) : Type 0 where
  pub few_goods : goods ≤ 32
  pub grown : IsGrown nodes path
  pub counts : AreCounts nodes children
  pub depths : HasDepths nodes path
  pub kinds : (n : ℕ) → n < length nodes → IsLimitedKind goods (kind_of nodes n)
  pub bounds : AreBounds (length nodes) record { lo = lo; hi = hi }
