-- The stated Vickrey discounts are what the best of all
-- is worth above the best without each bidder.
use Rattle.std.proofs.Common.{ℕ, zero, suc, ◌<◌, List, [], ◌∷◌, length, zip, get_or, slice_index_or, arith, ap, subst, ◌∙◌, ℤ, pos, ◌-ℤ◌}
use Rattle.std.specs.List.{AllByRecursion}
use Rattle.std.proofs.lemmas.List.{get_or-map}
use Rattle.ice_defs.specs.Sum.{numbers_below}
use Rattle.ice_defs.specs.Bounds.{Bounds}
use Rattle.ice_defs.specs.Weighing.{lower_weights}
use Rattle.ice_defs.specs.Vickrey.{IsBestWithout, IsVickrey}
use Rattle.ice_defs.specs.Exchange.{Exchange, trees_of, exact_of, opening_bounds}
use Rattle.ice_defs.specs.Session.{Proved, Closed, Session}
use Rattle.ice_headline_laws.specs.Right.{IsRight, IsClosed, vickreys_of, final_bounds}
use Rattle.ice_headline_laws.specs.Headline.{AreVickreys}
use Rattle.ice_headline_laws.proofs.Last.{last_is_closed}
use Rattle.ice_defs.proofs.Below.{length-numbers_below, get_or-numbers_below}

nothing : Proved
nothing = record { value = pos 0; sets = []; log = [] }

at_zip : (P : ℕ × Proved → Type 0) (ks : List ℕ) (ps : List Proved) → AllByRecursion P (zip ks ps) → (i : ℕ) → i < length ks → i < length ps → P (get_or ks i 0, get_or ps i nothing)
at_zip P [] ps all i h l = absurd (omega arith)
at_zip P (k ∷ ks) [] all i h l = absurd (omega arith)
at_zip P (k ∷ ks) (p ∷ ps) all zero h l = all.0
at_zip P (k ∷ ks) (p ∷ ps) all (suc i) h l = at_zip P ks ps all.1 i (omega arith) (omega arith)

pub stated_at : (ex : Exchange) (bounds : List Bounds) (c : Closed) → IsClosed ex bounds c → (b : ℕ) → b < length (trees_of ex) → IsVickrey (trees_of ex) (exact_of ex) (lower_weights bounds) b (slice_index_or (vickreys_of c) b (pos 0))
stated_at ex bounds c is b h =
    let l : b < length c.withouts = omega (arith, h, is.withouts_count) in
    let numbers : List ℕ = numbers_below (length c.withouts) in
    let IsIt : ℕ → Type 0 = λ k. IsBestWithout (trees_of ex) (exact_of ex) (lower_weights bounds) k (get_or c.withouts b nothing).value in
    let best = at_zip (λ p. IsBestWithout (trees_of ex) (exact_of ex) (lower_weights bounds) p.0 (p.1).value) numbers c.withouts is.withouts b (omega (arith, l, length-numbers_below (length c.withouts))) l in (
      c.settlement.final.value,
      (get_or c.withouts b nothing).value,
      is.settled.final.best,
      subst IsIt (get_or-numbers_below (length c.withouts) b 0 l) best,
      ap (λ (vs : List ℤ). slice_index_or vs b (pos 0)) is.vickreys ∙ get_or-map (λ (p : Proved). c.settlement.final.value -ℤ p.value) c.withouts b nothing (pos 0) l,
    )

pub stated_vickreys : (s : Session) → IsRight s → AreVickreys s (lower_weights (final_bounds s)) (vickreys_of s.closed)
stated_vickreys s right = stated_at s.exchange (final_bounds s) s.closed (last_is_closed s.exchange 0 (opening_bounds s.exchange) s.going s.closed right.settlements)
