-- How a tree of packages is built.
use Rattle.std.specs.Prelude.{ℕ, ◌<◌, ◌≡◌, [], ◌∷◌, ◌++◌, length, replicate, pos, Option}
use Rattle.std.specs.List.{AllByRecursion}
use Rattle.ice_defs.specs.Tree.{Tree}
use Rattle.ice_defs.specs.Bounds.{Bounds}
use Rattle.ice_defs.specs.Making.{TreeDraft}
use Rattle.ice_xor.specs.FlatBids.{Package, package_nodes}
use Rattle.ice_xor.specs.Translating.{nodes_refusal}

-- the root alone is open, and each parent is there
pub record IsUnderRoot (d : TreeDraft) : Type 0 where
  pub begun : 0 < length d.tree
  pub root : d.opened ≡ 0 ∷ []
  pub parents : AllByRecursion (λ n. n.parent < length d.tree) d.tree

abbrev pub package_values : Package → Bounds
package_values p = record { lo = p.lo ∷ replicate (length p.units) (pos 0); hi = p.hi ∷ replicate (length p.units) (pos 0) }

abbrev pub package_refusal : ℕ → ℕ → Package → Option ℕ
package_refusal goods number p = nodes_refusal goods number (package_nodes number p) (package_values p).lo (package_values p).hi

-- more nodes with their values
abbrev pub with_nodes : TreeDraft → Tree → Bounds → TreeDraft
with_nodes d t values = record {
  tree = d.tree ++ t;
  bounds = record { lo = d.bounds.lo ++ values.lo; hi = d.bounds.hi ++ values.hi };
  opened = d.opened;
}

abbrev pub with_package : TreeDraft → Package → TreeDraft
with_package d p = with_nodes d (package_nodes (length d.tree) p) (package_values p)
