-- Units of members, good by good.
use Rattle.std.proofs.Common.{ℕ, ◌+◌, ◌≡◌, [], ◌∷◌, ◌++◌, map, pos, ap, ◌∙◌, add-one, ℤ, ◌-ℤ◌, ◌*ℤ◌}
use Rattle.std.proofs.lemmas.List.{map-append}
use Rattle.ice_defs.specs.Sum.{numbers_below}
use Rattle.ice_defs.specs.Set.{units}
use Rattle.ice_defs.specs.Trade.{tree_of, set_of}
use Rattle.ice_defs.specs.PricingRun.{Member}
use Rattle.ice_pricing.specs.Provisional.{ProvisionalTrade}

-- a member's units of a good above those of the bidder's own set, times a factor
abbrev pub unit_of : ProvisionalTrade → ℕ → Member → ℕ → ℤ
unit_of t factor m g = pos factor *ℤ (units (tree_of t.trees m.bidder) m.set g -ℤ units (tree_of t.trees m.bidder) (set_of t.sets m.bidder) g)

pub map_below-more : (f : ℕ → ℤ) (n : ℕ) → map f (numbers_below (n + 1)) ≡ map f (numbers_below n) ++ f n ∷ []
map_below-more f n = ap (λ k. map f (numbers_below k)) (add-one n) ∙ map-append f (numbers_below n) (n ∷ [])
