-- Derived goods to which others are added.
use Rattle.std.specs.Prelude.{◌≡◌, ◌++◌, Bool, List}
use Rattle.std.specs.List.{AllByRecursion}
use Rattle.ice_defs.specs.Tree.{Tree}
use Rattle.ice_defs.specs.Derived.{Derived}
use Rattle.ice_derived.specs.Goods.{GoodsView}
use Rattle.ice_separation.specs.Derivations.{DerivationView, IsDerivation}

-- those of before stay at the head, of the same trees, and as many have room
pub record IsMore (old new : GoodsView) : Type 0 where
  pub more : List Derived
  pub goods : new.goods ≡ old.goods ++ more
  pub nodes : new.nodes ≡ old.nodes
  pub most : new.most ≡ old.most

-- those of before stay at the head, and one leaf shows each of the others
pub record AddsShown (ts : List Tree) (exact : List Bool) (old new : List DerivationView) : Type 0 where
  pub more : List DerivationView
  pub items : new ≡ old ++ more
  pub each : AllByRecursion (IsDerivation ts exact) more

-- all but the tolls is as it was
pub record AreSame (old new : GoodsView) : Type 0 where
  pub goods : new.goods ≡ old.goods
  pub nodes : new.nodes ≡ old.nodes
  pub most : new.most ≡ old.most
