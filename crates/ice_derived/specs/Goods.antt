-- How a list of derived goods is seen.
use Rattle.std.specs.Prelude.{ℕ, List}
use Rattle.ice_defs.specs.Derived.{Derived, Tolls}

-- the goods, the numbers of nodes of the bidders' trees, how many goods have room, and one toll for
-- each good
pub record GoodsView : Type 0 where
  pub goods : List Derived
  pub nodes : List ℕ
  pub most : ℕ
  pub tolls : Tolls
