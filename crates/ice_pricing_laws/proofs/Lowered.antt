-- Weights in lowest terms, and certificates that move to other prices.
use Rattle.std.proofs.Common.{ℕ, ◌/◌, ◌<◌, ◌≡◌, List, length, slice_index_or, ℤ, pos, negsuc, ◌-ℤ◌, ◌*ℤ◌, ◌≤ℤ◌, refl, arith, ap, sym, subst, ◌∙◌}
use Rattle.std.specs.Prelude.{unsigned_abs}
use Rattle.std.specs.List.{AllByRecursion}
use Rattle.std.proofs.lemmas.Int.{ints}
use Rattle.std.proofs.lemmas.List.{get_or-map, length-map}
use Rattle.std.proofs.lemmas.Nat.Gcd.{dvd_refl}
use Rattle.std.proofs.Math.IntN.{*ℤ-zero, zero-*ℤ, *ℤ_comm}
use Rattle.ice_defs.specs.Rows.{weighted_sum, demand}
use Rattle.ice_defs.specs.Rows as rows
use Rattle.ice_defs.specs.Fraction.{Fraction, whole_number, IsFraction, Equals, AtMost, times, fraction_at}
use Rattle.ice_defs.specs.PricingRun.{common_den, num_over}
use Rattle.ice_defs.proofs.Products.{times-le}
use Rattle.ice_frac.proofs.Fractions.{Equals-trans}
use Rattle.ice_frac.proofs.Ring.{cancel_le}
use Rattle.ice_frac.proofs.Lowest.{Equals-lowest, positive-lowest}
use Rattle.ice_defs.proofs.Multiples.{times_swap, times_turn}
use Rattle.ice_pricing_laws.specs.Weights.{AccuracyMoves, lowest_of, weights_of_duals, nums_of, LoweredAreWeights}
use Rattle.ice_pricing_laws.proofs.Lists.{all-each, all-map, all-at}
use Rattle.ice_pricing_laws.proofs.Dens.{common_den-pos, are_over}
use Rattle.ice_pricing_laws.proofs.Weighed.{cancel_left}

moved : (t v w : ℤ) (m n d : ℕ) → 0 < m → pos m *ℤ t ≡ v *ℤ pos d → v *ℤ pos n ≡ w *ℤ pos m → pos n *ℤ t ≡ w *ℤ pos d
moved t v w m n d hm equal same =
    cancel_left m (pos n *ℤ t) (w *ℤ pos d) hm
    (times_swap n (pos m) t ∙ ap (λ z. pos n *ℤ z) equal ∙ times_turn n d v ∙ ap (λ z. pos d *ℤ z) same ∙ times_turn d m w)

pub accuracy_moves : AccuracyMoves
accuracy_moves ts ws sets goods cap p q v w c hp same passes = record {
  proper = passes.proper;
  rows = passes.rows;
  weights = passes.weights;
  equal = moved (weighted_sum (rows.worth_above ts ws sets) c.rows -ℤ (pos 100 *ℤ (cap *ℤ demand ts ws sets goods c.rows))) v w p.den q.den c.den hp passes.equal same;
}

-- ---- weights

pub abs-is : (z : ℤ) → pos 0 ≤ℤ z → pos (unsigned_abs z) ≡ z
abs-is (pos n) h = refl
abs-is (negsuc n) h = absurd (omega (arith, ints, h))

pub num-low : (d : ℕ) (f : Fraction) → pos 0 ≤ℤ f.num → pos 0 ≤ℤ num_over d f
num-low d f h = let some = times-le (d / f.den) (pos 0) f.num h in omega (arith, ints, some, *ℤ-zero (pos (d / f.den)), *ℤ_comm f.num (pos (d / f.den)))

-- a multiple in lowest terms isn't below 0
pub multiple-low : (factor : ℕ) (f : Fraction) → IsFraction f → AtMost (whole_number (pos 0)) f → pos 0 ≤ℤ (lowest_of (times (whole_number (pos factor)) f)).num
multiple-low factor f is low =
    let t : Fraction = times (whole_number (pos factor)) f in
    let some : pos 0 ≤ℤ t.num = (let more = times-le factor (pos 0) f.num (omega (arith, ints, low, zero-*ℤ (pos f.den))) in omega (arith, ints, more, *ℤ-zero (pos factor))) in
    let wide : pos 0 ≤ℤ (pos (lowest_of t).den *ℤ t.num) = (let more = times-le (lowest_of t).den (pos 0) t.num some in omega (arith, ints, more, *ℤ-zero (pos (lowest_of t).den))) in
    cancel_le t.den (pos 0) (lowest_of t).num (omega (arith, is)) (omega (arith, ints, wide, Equals-lowest t.num t.den, *ℤ_comm t.num (pos (lowest_of t).den), zero-*ℤ (pos t.den)))

pub lowered_are_weights : LoweredAreWeights
lowered_are_weights factor fs low =
    let ys : List Fraction = weights_of_duals factor fs in
    let d : ℕ = common_den ys in
    let proper : AllByRecursion IsFraction ys =
    all-map IsFraction (λ y. lowest_of (times (whole_number (pos factor)) y)) fs
    (all-each (λ f. IsFraction f × AtMost (whole_number (pos 0)) f) (λ f. IsFraction (lowest_of (times (whole_number (pos factor)) f))) fs
    (λ f h. positive-lowest (times (whole_number (pos factor)) f).num (times (whole_number (pos factor)) f).den (omega (arith, h.0))) low) in
    let nums : AllByRecursion (λ w. pos 0 ≤ℤ num_over d w) ys =
    all-map (λ w. pos 0 ≤ℤ num_over d w) (λ y. lowest_of (times (whole_number (pos factor)) y)) fs
    (all-each (λ f. IsFraction f × AtMost (whole_number (pos 0)) f) (λ f. pos 0 ≤ℤ num_over d (lowest_of (times (whole_number (pos factor)) f))) fs
    (λ f h. num-low d (lowest_of (times (whole_number (pos factor)) f)) (multiple-low factor f h.0 h.1)) low) in
    let over = are_over d ys proper (dvd_refl d) in
    let size : length ys ≡ length fs = length-map fs (λ y. lowest_of (times (whole_number (pos factor)) y)) in (
      record {
        positive = common_den-pos ys proper;
        same_length = length-map ys (λ w. unsigned_abs (num_over d w)) ∙ size;
        equal = λ i h.
            let long : i < length ys = omega (arith, size, h) in
            let f : Fraction = fraction_at fs i in
            let z : ℤ = num_over d (fraction_at ys i) in
            let e : pos (slice_index_or (nums_of ys) i 0) ≡ z =
            ap pos (get_or-map (λ w. unsigned_abs (num_over d w)) ys i (whole_number (pos 0)) 0 long) ∙ abs-is z (all-at (λ w. pos 0 ≤ℤ num_over d w) ys i (whole_number (pos 0)) nums long) in
            let at : fraction_at ys i ≡ lowest_of (times (whole_number (pos factor)) f) = get_or-map (λ y. lowest_of (times (whole_number (pos factor)) y)) fs i (whole_number (pos 0)) (whole_number (pos 0)) h in
            let t : Fraction = times (whole_number (pos factor)) f in
            let w : Fraction = lowest_of t in
            let own : Equals w (record { num = z; den = d }) = subst (λ (g : Fraction). Equals g (record { num = z; den = d })) at (over i long).equal in
            let is : IsFraction w = subst IsFraction at (over i long).proper in
            subst (λ k. Equals (record { num = k; den = d }) t) (sym e) (Equals-trans (record { num = z; den = d }) w t is (sym own) (Equals-lowest t.num t.den));
      },
      nums,
    )
