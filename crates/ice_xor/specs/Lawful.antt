-- What a flat exchange keeps out.
use Rattle.std.specs.Prelude.{ℕ, ◌<◌, ◌≤◌, ◌≡◌, ◌≢◌, IsTrue, List, length, map, ℤ, pos, neg_ℤ}
use Rattle.std.specs.List.{AllByRecursion, IsDistinct}
use Rattle.std.specs.Str.{bytes_eq}
use Rattle.ice_defs.specs.Name.{is_name}
use Rattle.ice_defs.specs.Exchange.{IsBetween, AreSettings}
use Rattle.ice_xor.specs.FlatBids.{Package, FlatBidder, FlatExchange}

abbrev pub IsAmount : ℤ → Type 0
IsAmount z = IsBetween (neg_ℤ (pos 1000)) (pos 1000) z × (z ≢ pos 0)

abbrev pub IsValue : ℤ → Type 0
IsValue z = IsBetween (neg_ℤ (pos 1000000000)) (pos 1000000000) z

pub record IsFlatPackage (goods : ℕ) (p : Package) : Type 0 where
  pub lo : IsValue p.lo
  pub hi : IsValue p.hi
  pub some : 0 < length p.units
  pub units : AllByRecursion (λ u. (u.good < goods) × IsAmount u.amount) p.units

pub record IsFlatBidder (goods : ℕ) (b : FlatBidder) : Type 0 where
  pub name : IsTrue (is_name b.name)
  pub own_count : length b.own ≡ goods
  pub own : AllByRecursion (λ amount. amount ≤ 1000000) b.own
  pub some : 0 < length b.packages
  pub packages : AllByRecursion (IsFlatPackage goods) b.packages

-- at most 40, with names that differ
pub record AreFlatBidders (goods : ℕ) (bidders : List FlatBidder) : Type 0 where
  pub few : length bidders ≤ 40
  pub names : IsDistinct bytes_eq (map (λ bidder. bidder.name) bidders)
  pub each : AllByRecursion (IsFlatBidder goods) bidders

-- 1 to 32 goods with names that differ, and at least one bidder
pub record IsFlatExchange (flat : FlatExchange) : Type 0 where
  pub settings : AreSettings flat.settings
  pub goods_count : (1 ≤ length flat.goods) × (length flat.goods ≤ 32)
  pub goods_named : AllByRecursion (λ name. IsTrue (is_name name)) (map (λ good. good.name) flat.goods)
  pub goods : IsDistinct bytes_eq (map (λ good. good.name) flat.goods)
  pub some : 1 ≤ length flat.bidders
  pub bidders : AreFlatBidders (length flat.goods) flat.bidders
