-- How trees and bounds are kept.
use Rattle.std.specs.Prelude.{ℕ, zero, suc, ◌<◌, ◌≤◌, ◌≡◌, List, [], ◌++◌, length, slice_index, slice_range}
use Rattle.ice_defs.specs.Tree.{Tree, children_of}
use Rattle.ice_defs.specs.Bounds.{Bounds}
use Rattle.ice_defs.specs.Lawful.{IsLimitedTree, AreBounds}

-- the children of the first n nodes, one node's after another
abbrev pub children_before : Tree → ℕ → List ℕ
children_before t zero = []
children_before t (suc n) = children_before t n ++ children_of t n

pub record IsStored (t : Tree) (children starts ends : List ℕ) : Type 0 where
  pub tree : IsLimitedTree 32 t
  pub starts_there : length starts ≡ length t
  pub ends_there : length ends ≡ length t
  pub in_order : (n : ℕ) → n < length t → slice_index starts n ≤ slice_index ends n
  pub in_range : (n : ℕ) → n < length t → slice_index ends n ≤ length children
  pub are_children : (n : ℕ) → n < length t → slice_range children (slice_index starts n) (slice_index ends n) ≡ children_of t n

pub record AreStoredBounds (b : Bounds) : Type 0 where
  pub few : length b.lo ≤ 200
  pub bounds : AreBounds (length b.lo) b
