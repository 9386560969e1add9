-- How derived goods lie in one list of numbers: those of one good after those of another, and of a
-- good the amounts of one bidder's nodes after those of another.
use Rattle.std.specs.Prelude.{ℕ, ◌*◌, ◌<◌, ◌≤◌, ◌≡◌, List, [], ◌∷◌, length, sum, map, take, drop, slice_index, ℤ}
use Rattle.std.specs.List.{flat_map}
use Rattle.ice_defs.specs.Set.{Weights, weight_of}
use Rattle.ice_defs.specs.Trade.{weights_of}
use Rattle.ice_defs.specs.Derived.{Derived, derived_at}
use Rattle.ice_derived.specs.Ranges.{IsAmount, IsLimit}

-- the list cut into rows of so many numbers
abbrev pub rows_of : List ℕ → List ℤ → List Weights
rows_of [] numbers = []
rows_of (n ∷ nodes) numbers = take n numbers ∷ rows_of nodes (drop n numbers)

-- and rows, one after another
abbrev pub joined : List Weights → List ℤ
joined rows = flat_map (λ (w : Weights). w) rows

-- a derived good for each limit
abbrev pub goods_of : List ℕ → List ℤ → List ℤ → List Derived
goods_of nodes numbers [] = []
goods_of nodes numbers (limit ∷ limits) =
    record { amounts = rows_of nodes numbers; limit = limit } ∷ goods_of nodes (drop (sum nodes) numbers) limits

-- how such a list is seen: the goods, the numbers of nodes of the bidders' trees, and how many
-- goods have room
pub record PackedView : Type 0 where
  pub goods : List Derived
  pub nodes : List ℕ
  pub most : ℕ

-- each derived good has an amount of each node, and they are in range
pub record IsLaidOut (nodes : List ℕ) (size most : ℕ) (numbers limits : List ℤ) : Type 0 where
  pub bidders : length nodes ≤ 40
  pub sum_is : size ≡ sum nodes
  pub small : size ≤ 2000
  pub few : most ≤ 2000
  pub room : length limits ≤ most
  pub full : length numbers ≡ length limits * size
  pub amounts : (i : ℕ) → i < length numbers → IsAmount (weight_of numbers i)
  pub limits_fit : (k : ℕ) → k < length limits → IsLimit (weight_of limits k)

-- each derived good has an amount of each node and a limit, in range
pub record AreFit (v : PackedView) : Type 0 where
  pub few : length v.goods ≤ 2000
  pub bidders : length v.nodes ≤ 40
  pub nodes : (k : ℕ) → k < length v.goods → map length (derived_at v.goods k).amounts ≡ v.nodes
  pub amounts : (k b n : ℕ) → k < length v.goods → b < length v.nodes → n < slice_index v.nodes b
      → IsAmount (weight_of (weights_of (derived_at v.goods k).amounts b) n)
  pub limits : (k : ℕ) → k < length v.goods → IsLimit (derived_at v.goods k).limit
