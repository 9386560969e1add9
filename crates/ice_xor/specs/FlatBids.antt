-- Flat bids: packages of which one, or any, may be taken; and the tree that says the same.
use Rattle.std.specs.Prelude.{ℕ, suc, ◌+◌, ◌<◌, ◌≤◌, ◌≡◌, ◌↔◌, ◌==◌, Bool, false, if◌then◌else◌, List, [], ◌∷◌, ◌++◌, length, map}
use Rattle.std.specs.Prelude.{replicate, slice_index_or, unsigned_abs, int_lt, ℤ, pos}
use Rattle.ice_defs.specs.declared.NodeKind.{NodeKind}
use Rattle.ice_defs.specs.declared.NodeKind.TheVariants.{Choose, Buy, Sell}
use Rattle.ice_defs.specs.Sum.{sum_below, sum_over, count_below}
use Rattle.ice_defs.specs.Tree.{Tree}
use Rattle.ice_defs.specs.Set.{NodeSet, has, Weights, value}
use Rattle.ice_defs.specs.Greatest.{IsGreatest}
use Rattle.ice_defs.specs.Trade.{is_exact, IsCovered}
use Rattle.ice_defs.specs.Bounds.{Bounds, IsInside}
use Rattle.ice_defs.specs.Market.{Trade, IsWorth}
use Rattle.ice_defs.specs.Exchange.{Settings, Good, Bidder, Exchange}
use Rattle.ice_xor.specs.declared.units.GoodUnits.{GoodUnits}

pub record Package : Type 0 where
  pub lo : ℤ
  pub hi : ℤ
  pub units : List GoodUnits

-- any number of the packages may be taken, or at most one
pub record FlatBidder : Type 0 where
  pub name : List ℕ
  pub own : List ℕ
  pub any : Bool
  pub packages : List Package

pub record FlatExchange : Type 0 where
  pub settings : Settings
  pub goods : List Good
  pub bidders : List FlatBidder

abbrev pub package_units : Package → ℕ → ℤ
package_units p g = sum_over (λ u. if u.good == g then u.amount else pos 0) p.units

abbrev pub no_package : Package
no_package = record { lo = pos 0; hi = pos 0; units = [] }

-- the units of the packages that are taken
abbrev pub taken_units : List Package → NodeSet → ℕ → ℤ
taken_units packages s g =
    sum_below (λ j. if has s j then package_units (slice_index_or packages j no_package) g else pos 0) (length packages)

-- packages that may be taken together, and that the trade covers
pub record ServesFlat (exact : List Bool) (b : FlatBidder) (trade : Trade) (s : NodeSet) : Type 0 where
  pub same_length : length s ≡ length b.packages
  pub one : b.any ≡ false → count_below (has s) (length s) ≤ 1
  pub fits : (g : ℕ) → g < length exact → IsCovered (is_exact exact g) (taken_units b.packages s g) (trade g)

-- the flat worth of a trade: the greatest sum of values of such packages
abbrev pub IsFlatWorth : List Bool → FlatBidder → List ℤ → Trade → ℤ → Type 0
IsFlatWorth exact b v trade worth = IsGreatest (ServesFlat exact b trade) (λ s. value s v) worth

-- ---- the tree

abbrev pub leaf_kind : GoodUnits → NodeKind
leaf_kind u = if int_lt u.amount (pos 0) then Sell u.good (unsigned_abs u.amount) else Buy u.good (unsigned_abs u.amount)

-- a package is a choose node that takes all its leaves
abbrev pub package_nodes : ℕ → Package → Tree
package_nodes number p =
    record { kind = Choose (length p.units) (length p.units); parent = 0 }
    ∷ map (λ u. record { kind = leaf_kind u; parent = number }) p.units

abbrev pub packages_nodes : ℕ → List Package → Tree
packages_nodes number [] = []
packages_nodes number (p ∷ later) = package_nodes number p ++ packages_nodes (suc (number + length p.units)) later

abbrev pub flat_tree : FlatBidder → Tree
flat_tree b = record { kind = Choose 0 (if b.any then length b.packages else 1); parent = 0 } ∷ packages_nodes 1 b.packages

-- a number for each package, at its node; 0 at the root and at the leaves
abbrev pub spread_over : List Package → List ℤ → Weights
spread_over [] v = []
spread_over (p ∷ later) [] = []
spread_over (p ∷ later) (z ∷ v) = z ∷ replicate (length p.units) (pos 0) ++ spread_over later v

abbrev pub spread : FlatBidder → List ℤ → Weights
spread b v = pos 0 ∷ spread_over b.packages v

abbrev pub flat_bounds : FlatBidder → Bounds
flat_bounds b = record { lo = spread b (map (λ p. p.lo) b.packages); hi = spread b (map (λ p. p.hi) b.packages) }

abbrev pub translated_bidder : FlatBidder → Bidder
translated_bidder b = record { name = b.name; own = b.own; tree = flat_tree b; bounds = flat_bounds b }

-- the exchange that the flat bids say
abbrev pub translation : FlatExchange → Exchange
translation flat = record { settings = flat.settings; goods = flat.goods; bidders = map translated_bidder flat.bidders }

abbrev pub package_bounds : FlatBidder → Bounds
package_bounds b = record { lo = map (λ p. p.lo) b.packages; hi = map (λ p. p.hi) b.packages }

-- for every profile and trade, the tree's worth is the flat
-- one, and one is missing exactly where the other is
abbrev pub KeepsWorth : List Bool → FlatBidder → Type 0
KeepsWorth exact b =
    (k : ℕ) (v : List ℤ) (trade : Trade) (worth : ℤ) → 1 ≤ k → IsInside k (package_bounds b) v
    → IsWorth exact (flat_tree b) (spread b v) trade worth ↔ IsFlatWorth exact b v trade worth
