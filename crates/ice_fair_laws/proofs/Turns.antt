-- Turns of the fairness stage: weights, shapes, and the member that may follow.
use Rattle.std.proofs.Common.{ℕ, zero, suc, ◌+◌, ◌*◌, ◌<◌, ◌≡◌, List, [], ◌∷◌, ◌++◌, length, map, slice_index_or, ℤ, pos, neg_ℤ, ◌*ℤ◌, ◌≤ℤ◌, arith, ap, sym, subst, ◌∙◌}
use Rattle.std.specs.Prelude.{unsigned_abs}
use Rattle.std.specs.Int.{◌∣◌}
use Rattle.std.specs.List.{AllByRecursion, flat_map}
use Rattle.std.proofs.lemmas.Int.{ints}
use Rattle.std.proofs.lemmas.List.{get_or-map, length-map, length_push, length-append, get_or_append_left, get_or-append-add}
use Rattle.std.proofs.lemmas.Nat.Gcd.{dvd_trans}
use Rattle.ice_defs.specs.Sum.{numbers_below}
use Rattle.ice_defs.specs.Set.{NodeSet}
use Rattle.ice_defs.specs.Pricing.{excess_net}
use Rattle.ice_defs.specs.Fraction.{Fraction, whole_number, IsFraction, Equals, AtMost, times, fraction_at}
use Rattle.ice_defs.specs.Program.{Constraint, AreNonNegative}
use Rattle.ice_defs.specs.PricingRun.{Member, common_den, num_over, IsBestSet, solution_prices}
use Rattle.ice_defs.proofs.Lists.{all-append}
use Rattle.ice_frac.proofs.Fractions.{Equals-trans}
use Rattle.ice_frac.proofs.Lowest.{Equals-lowest, positive-lowest}
use Rattle.ice_frac.proofs.Ring.{scale_le}
use Rattle.ice_pricing_laws.specs.Weights.{AreWeights, lowest_of, weights_of_duals, nums_over}
use Rattle.ice_pricing_laws.proofs.Lists.{all-map, all-each, all-at, all-below, length-map_below, length-only_at}
use Rattle.ice_pricing_laws.proofs.Dens.{common_den-pos, dvd-lcm_left, dvd-lcm_right, num_over-is}
use Rattle.ice_pricing_laws.proofs.Lowered.{abs-is, num-low, multiple-low}
use Rattle.ice_fair_laws.specs.Fair.{PaidTrade, own_units}
use Rattle.ice_fair_laws.specs.FairRun.{set_units, over_row, under_row, bidder_rows, cap_row, member_row, ViolatesFair}
use Rattle.ice_fair_laws.specs.Run.{LoweredTogether, FirstMayFollowFair, FairIsShaped}
use Rattle.ice_fair_laws.proofs.Points.{all-pairs}
use Rattle.ice_fair_laws.proofs.FairColumns.{rows-count, more}

-- ---- weights

-- each denominator divides the least common one
den-divides : (fs : List Fraction) (i : ℕ) → i < length fs → (fraction_at fs i).den ∣ common_den fs
den-divides [] i h = absurd (omega (arith, h))
den-divides (f ∷ fs) zero h = dvd-lcm_left f.den (common_den fs)
den-divides (f ∷ fs) (suc i) h = dvd_trans (fraction_at fs i).den (den-divides fs i (omega (arith, h))) (dvd-lcm_right f.den (common_den fs))

lowered-proper : (k : ℕ) (fs : List Fraction) → AreNonNegative fs → AllByRecursion IsFraction (weights_of_duals k fs)
lowered-proper k fs low =
    all-map IsFraction (λ y. lowest_of (times (whole_number (pos k)) y)) fs
    (all-each (λ f. IsFraction f × AtMost (whole_number (pos 0)) f) (λ f. IsFraction (lowest_of (times (whole_number (pos k)) f))) fs
    (λ f h. positive-lowest (times (whole_number (pos k)) f).num (times (whole_number (pos k)) f).den (omega (arith, h.0))) low)

-- over any denominator that each one divides
lowered-over : (k d : ℕ) (fs : List Fraction) → AreNonNegative fs → 0 < d → ((i : ℕ) → i < length fs → (fraction_at (weights_of_duals k fs) i).den ∣ d) → AreWeights k fs d (nums_over d (weights_of_duals k fs))
lowered-over k d fs low hd divides =
    let ys : List Fraction = weights_of_duals k fs in
    let size : length ys ≡ length fs = length-map fs (λ y. lowest_of (times (whole_number (pos k)) y)) in
    let proper = lowered-proper k fs low in
    record {
      positive = hd;
      same_length = length-map ys (λ w. unsigned_abs (num_over d w)) ∙ size;
      equal = λ i h.
          let long : i < length ys = omega (arith, size, h) in
          let f : Fraction = fraction_at fs i in
          let z : ℤ = num_over d (fraction_at ys i) in
          let at : fraction_at ys i ≡ lowest_of (times (whole_number (pos k)) f) = get_or-map (λ y. lowest_of (times (whole_number (pos k)) y)) fs i (whole_number (pos 0)) (whole_number (pos 0)) h in
          let t : Fraction = times (whole_number (pos k)) f in
          let w : Fraction = lowest_of t in
          let here = all-at (λ f. IsFraction f × AtMost (whole_number (pos 0)) f) fs i (whole_number (pos 0)) low h in
          let some : pos 0 ≤ℤ z = num-low d (fraction_at ys i) (subst (λ g. pos 0 ≤ℤ g.num) (sym at) (multiple-low k f here.0 here.1)) in
          let e : pos (slice_index_or (nums_over d ys) i 0) ≡ z = ap pos (get_or-map (λ w. unsigned_abs (num_over d w)) ys i (whole_number (pos 0)) 0 long) ∙ abs-is z some in
          let is_over = num_over-is d (fraction_at ys i) (all-at IsFraction ys i (whole_number (pos 0)) proper long) (divides i h) in
          let own : Equals w (record { num = z; den = d }) = subst (λ (g : Fraction). Equals g (record { num = z; den = d })) at is_over.equal in
          let is : IsFraction w = subst IsFraction at is_over.proper in
          subst (λ n. Equals (record { num = n; den = d }) t) (sym e) (Equals-trans (record { num = z; den = d }) w t is (sym own) (Equals-lowest t.num t.den));
    }

pub lowered_together : LoweredTogether
lowered_together k l fs gs low other =
    let xs : List Fraction = weights_of_duals k fs in
    let ys : List Fraction = weights_of_duals l gs in
    let d : ℕ = common_den (xs ++ ys) in
    let hd : 0 < d = common_den-pos (xs ++ ys) (all-append IsFraction xs ys (lowered-proper k fs low) (lowered-proper l gs other)) in
    let size : length xs ≡ length fs = length-map fs (λ y. lowest_of (times (whole_number (pos k)) y)) in
    let long : length ys ≡ length gs = length-map gs (λ y. lowest_of (times (whole_number (pos l)) y)) in (
      lowered-over k d fs low hd
          (λ i h. subst (λ (g : Fraction). g.den ∣ d) (get_or_append_left xs ys (whole_number (pos 0)) i (omega (arith, size, h))) (den-divides (xs ++ ys) i (omega (arith, length-append xs ys, size, h)))),
      lowered-over l d gs other hd
          (λ i h. subst (λ (g : Fraction). g.den ∣ d) (get_or-append-add xs ys i (whole_number (pos 0))) (den-divides (xs ++ ys) (length xs + i) (omega (arith, length-append xs ys, long, h)))),
    )

-- ---- turns

module _ (t : PaidTrade) (cut : ℕ) (delta : ℤ) (den : ℕ) (x : List Fraction) where
  -- where a bidder's best set doesn't violate, none of it does
  best-none : (m : Member) → IsBestSet t.trees t.weights t.sets t.goods t.cap x m → ¬ ViolatesFair t cut delta den x m → (s : NodeSet) → ¬ ViolatesFair t cut delta den x (record { bidder = m.bidder; set = s })
  best-none m best calm s (there, below) =
      let p = solution_prices t.trees t.weights t.sets t.goods t.cap x in
      let most = scale_le den (excess_net t.trees t.weights t.sets p (m.bidder, s)) (excess_net t.trees t.weights t.sets p (m.bidder, m.set)) (best.1 s there) in
      calm (best.0, omega (arith, ints, most, below))

  other-none : (m other : Member) → IsBestSet t.trees t.weights t.sets t.goods t.cap x m → ¬ ViolatesFair t cut delta den x m → m.bidder ≡ other.bidder → ¬ ViolatesFair t cut delta den x other
  other-none m other best calm e violates = best-none m best calm other.set (subst (λ b. ViolatesFair t cut delta den x (record { bidder = b; set = other.set })) (sym e) violates)

pub first_may_follow_fair : FirstMayFollowFair
first_may_follow_fair t cut delta den pool x best m room solved few are calm is violates = record {
  room = room;
  solved = (
    x,
    solved,
    few,
    violates,
    is,
    λ other h. other-none t cut delta den x (best other.bidder) other (are other.bidder h).1 (calm other.bidder h) (are other.bidder h).0,
  );
}

-- ---- shapes

pub fair_is_shaped : FairIsShaped
fair_is_shaped t cut delta den pool =
    let Fits : Constraint → Type 0 = λ row. length row.coeffs ≡ t.goods + 1 in
    let caps : List Constraint = map (cap_row t cut delta den) (numbers_below t.goods) in
    let bidders : List Constraint = flat_map (bidder_rows t cut delta den) (numbers_below (length t.trees)) in (
      omega (arith, length-only_at (suc t.goods) t.goods (pos 1)),
      rows-count t cut delta den pool,
      all-append Fits caps (bidders ++ map (member_row t cut delta den) pool)
          (all-map Fits (cap_row t cut delta den) (numbers_below t.goods) (all-below (λ g. Fits (cap_row t cut delta den g)) t.goods (λ g h. omega (arith, length-only_at (suc t.goods) g (neg_ℤ (pos 1))))))
          (all-append Fits bidders (map (member_row t cut delta den) pool)
          (all-pairs Fits (over_row t cut delta den) (under_row t cut delta den) (length t.trees) (λ b h. (set (pos cut) b, set (neg_ℤ (pos cut)) b)))
          (all-map Fits (member_row t cut delta den) pool (members pool))),
    )
  where
    pushed : (f : ℕ → ℤ) (z : ℤ) → length (map f (numbers_below t.goods) ++ z ∷ []) ≡ t.goods + 1
    pushed f z = omega (arith, length_push (map f (numbers_below t.goods)) z, length-map_below f t.goods)

    set : (factor : ℤ) (b : ℕ) → length (set_units t cut delta den factor b ++ pos cut ∷ []) ≡ t.goods + 1
    set factor b = pushed (λ g. factor *ℤ own_units t b g) (pos cut)

    members : (ms : List Member) → AllByRecursion (λ m. length (member_row t cut delta den m).coeffs ≡ t.goods + 1) ms
    members [] = tt
    members (m ∷ ms) = (pushed (λ g. pos (100 * den) *ℤ more t cut delta den [] m g) (pos 0), members ms)
