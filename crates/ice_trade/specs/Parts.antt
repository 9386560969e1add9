-- How an exchange is made of its parts, and what holds of one that isn't finished.
use Rattle.std.specs.Prelude.{ℕ, ◌≤◌, ◌+◌, ◌≡◌, IsTrue, Bool, List, [], ◌∷◌, ◌++◌, length, None}
use Rattle.std.specs.List.{AllByRecursion, IsDistinct}
use Rattle.std.specs.Str.{bytes_eq}
use Rattle.ice_defs.specs.Tree.{Tree}
use Rattle.ice_defs.specs.Name.{is_name}
use Rattle.ice_defs.specs.Bounds.{Bounds}
use Rattle.ice_defs.specs.Exchange.{Settings, AreSettings, Good, Bidder, Exchange, names_of}
use Rattle.ice_defs.specs.Lawful.{IsBidder, good_names}
use Rattle.ice_defs.specs.Making.{node_count, over_sale}
use Rattle.indexmap.specs.IndexSet.{IndexSet, spare}

abbrev pub goods_from : List (List ℕ) → List Bool → List Good
goods_from [] exact = []
goods_from (name ∷ names) [] = []
goods_from (name ∷ names) (flag ∷ exact) = record { name = name; exact = flag } ∷ goods_from names exact

abbrev pub bidders_from : List (List ℕ) → List (List ℕ) → List Tree → List Bounds → List Bidder
bidders_from [] owned trees bounds = []
bidders_from (name ∷ names) [] trees bounds = []
bidders_from (name ∷ names) (own ∷ owned) [] bounds = []
bidders_from (name ∷ names) (own ∷ owned) (tree ∷ trees) [] = []
bidders_from (name ∷ names) (own ∷ owned) (tree ∷ trees) (b ∷ bounds) =
    record { name = name; own = own; tree = tree; bounds = b } ∷ bidders_from names owned trees bounds

abbrev pub no_exchange : Settings → Exchange
no_exchange settings = record { settings = settings; goods = []; bidders = [] }

abbrev pub with_good : Exchange → Good → Exchange
with_good ex good = record ex { goods = ex.goods ++ good ∷ [] }

abbrev pub with_bidder : Exchange → Bidder → Exchange
with_bidder ex bidder = record ex { bidders = ex.bidders ++ bidder ∷ [] }

-- an exchange that more may be added to
pub record IsUnfinished (ex : Exchange) : Type 0 where
  pub settings : AreSettings ex.settings
  pub goods_count : length ex.goods ≤ 32
  pub bidders_count : length ex.bidders ≤ 40
  pub goods_named : AllByRecursion (λ name. IsTrue (is_name name)) (good_names ex)
  pub goods : IsDistinct bytes_eq (good_names ex)
  pub bidders_named : AllByRecursion (λ name. IsTrue (is_name name)) (names_of ex)
  pub names : IsDistinct bytes_eq (names_of ex)
  pub bidders : AllByRecursion (IsBidder (length ex.goods)) ex.bidders
  pub nodes : node_count ex.bidders ≤ 2000
  pub sold : AllByRecursion (λ b. over_sale (length ex.goods) b.tree b.own ≡ None) ex.bidders

-- the numbers of these names, with room for so many
abbrev pub IsIndex : {S : Type 0} → ℕ → List (List ℕ) → IndexSet (List ℕ) S → Type 0
IsIndex most names numbers = (numbers.keys ≡ names) × (most ≤ length names + spare numbers)

-- what a maker keeps: its exchange, and the numbers of its goods and bidders
pub record IsKept {S : Type 0} (ex : Exchange) (goods bidders : IndexSet (List ℕ) S) : Type 0 where
  pub unfinished : IsUnfinished ex
  pub by_good : IsIndex 32 (good_names ex) goods
  pub by_bidder : IsIndex 40 (names_of ex) bidders
