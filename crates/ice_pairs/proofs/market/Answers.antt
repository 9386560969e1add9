use Rattle.std.proofs.Common.{ℕ, zero, suc, ◌<◌, [], ◌∷◌, length, refl, arith}
use Rattle.ice_defs.specs.Trade.{tree_of}
use Rattle.ice_defs.specs.Bounds.{bounds_of}
use Rattle.ice_defs.specs.Lawful.{AreBounds}
use Rattle.ice_pairs.proofs.market.Goals as goal

pub returns-clause-bounds : goal.returns-clause-bounds
returns-clause-bounds c = record { same_length = refl; each = each }
  where
    each : (k : ℕ) → k < 4
        → AreBounds (length (tree_of (c.in_ok-seller.seller ∷ c.in_ok-a.a ∷ c.in_ok-b.b ∷ c.in_ok-c.c ∷ []) k)) (bounds_of (c.in_ok-seller.s ∷ c.in_ok-a.x ∷ c.in_ok-b.y ∷ c.in_ok-c.z ∷ []) k)
    each zero h = c.in_ok-seller.ensures.bounds
    each (suc zero) h = c.in_ok-a.ensures.bounds
    each (suc (suc zero)) h = c.in_ok-b.ensures.bounds
    each (suc (suc (suc zero))) h = c.in_ok-c.ensures.bounds
    each (suc (suc (suc (suc k)))) h = absurd (omega (arith, h))
