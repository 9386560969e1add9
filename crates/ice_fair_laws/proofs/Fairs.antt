-- Where no set is to be added, the least point of the fairness program has fair prices.
use Rattle.std.proofs.Common.{ℕ, suc, ◌*◌, ◌<◌, ◌≤◌, ◌≡◌, List, [], length, map, ℤ, pos, neg_ℤ, ◌+ℤ◌, ◌-ℤ◌, ◌*ℤ◌, ◌≤ℤ◌, refl, arith, ap, sym, subst, ◌∙◌}
use Rattle.std.specs.Prelude.{Some}
use Rattle.std.specs.Int.{int_max}
use Rattle.std.specs.List.{AllByRecursion}
use Rattle.std.proofs.lemmas.Int.{ints, clamps}
use Rattle.std.proofs.lemmas.List.{get_or-map, length-map, length_push}
use Rattle.std.proofs.lemmas.Option.{none-some}
use Rattle.std.proofs.Math.Nat.{mul-pos}
use Rattle.std.proofs.Math.IntN.{zero-*ℤ, *ℤ_comm}
use Rattle.ice_defs.specs.Sum.{numbers_below}
use Rattle.ice_defs.specs.Fraction.{Fraction, whole_number, IsFraction, AtMost, negation, fraction_at}
use Rattle.ice_defs.specs.Prices.{Prices, price_of, cost_of, ArePrices}
use Rattle.ice_defs.specs.Pricing.{IsChoice}
use Rattle.ice_defs.specs.Program.{Program, IsPoint, IsLeast, AreDuals, cost}
use Rattle.ice_defs.specs.Trace.{TraceEnd, least_end, infeasible_end, wide_end, pivots_end, trace_end, point_of, duals_of}
use Rattle.ice_defs.specs.PricingRun.{Member, point_at, duals_at}
use Rattle.ice_defs.proofs.Lists.{all_push}
use Rattle.ice_defs.proofs.Products.{times-le, times_neg}
use Rattle.ice_defs.proofs.Integers.{neg_times}
use Rattle.ice_frac.proofs.Ring.{is_diff, diff_same, diff_pos, diffs, cancel_le, scale_le, turn3}
use Rattle.ice_frac.proofs.Fractions.{AtMost-left, AtMost-right, AtMost-trans, AtMost-num, Equals_from_AtMost, AtMost_from_Equals}
use Rattle.ice_program_laws.specs.Laws.{AreCosts}
use Rattle.ice_program_laws.proofs.Ends.{least_end_gives_duals, least_end_gives_least}
use Rattle.ice_pricing_laws.proofs.Lists.{all-each, all-at, below-all, length-only_at}
use Rattle.ice_pricing_laws.proofs.Dens.{num_over-is}
use Rattle.ice_pricing_laws.proofs.Dots.{over-le}
use Rattle.ice_pricing_laws.proofs.Excess.{excess, ArePricesOver, cost-same, excess-balance}
use Rattle.ice_pricing_laws.proofs.Programs.{MeetsBalance}
use Rattle.ice_pricing_laws.proofs.Solved.{den_of, num_at, den_of-pos, are_over-own, prices-pos, are_prices-over, nums_with, point_with, point_with-size, point_with-over, nums_with-price, nums_with-last}
use Rattle.ice_pricing_laws.proofs.Accuracy.{each-below, none-le}
use Rattle.ice_pricing_laws.proofs.Balanced.{accurate-le}
use Rattle.ice_pricing_laws.proofs.Sizes.{only_at-holds}
use Rattle.ice_pricing_laws.proofs.Feasible.{greatest, greatest-high}
use Rattle.ice_pricing_laws.proofs.Weighed.{cancel_left}
use Rattle.ice_fair_laws.specs.Fair.{PaidTrade, own_units, gap, Covers, IsDistance, HasViolationOf, AreAccurate}
use Rattle.ice_fair_laws.specs.Laws.{IsPaidTrade, violation_of}
use Rattle.ice_fair_laws.specs.Whole.{ArePaidOver, gap_num}
use Rattle.ice_fair_laws.specs.FairRun.{payment_num, fairness_program, fairness_at, IsFairPool, starts, follows}
use Rattle.ice_fair_laws.specs.Run.{IsCutDen, prices_at, AreMembersOf, FairTracesSolve, FairIsFeasible, FairIsWithin, FairPoolIsProper, LeastIsFair}
use Rattle.ice_fair_laws.proofs.Overs.{over, own_over, negated_over}
use Rattle.ice_fair_laws.proofs.Wholes.{whole-gap}
use Rattle.ice_fair_laws.proofs.Points.{fair-cost-over, from_fair, to_fair}

-- ---- integers

-- a bidder's row gives a bound of its gap
row-gap : (a c s size : ℤ) (k d n : ℕ) → (a *ℤ pos d) ≤ℤ (s +ℤ (pos n *ℤ size)) → pos k *ℤ s ≡ pos d *ℤ (pos n *ℤ c) → (((a *ℤ pos k) -ℤ (pos n *ℤ c)) *ℤ pos d) ≤ℤ (size *ℤ pos (n * k))
row-gap a c s size k d n row same = omega (arith, ints, times-le k (a *ℤ pos d) (s +ℤ (pos n *ℤ size)) row, same, first, second, third)
  where
    first : pos k *ℤ (a *ℤ pos d) ≡ (a *ℤ pos k) *ℤ pos d
    first = rw (is_diff a) (simp (diffs, diff_pos) (diff_same _ _ _ _ (omega arith)))

    second : pos k *ℤ (s +ℤ (pos n *ℤ size)) ≡ (pos k *ℤ s) +ℤ (size *ℤ pos (n * k))
    second = rw (is_diff s, is_diff size) (simp (diffs, diff_pos) (diff_same _ _ _ _ (omega arith)))

    third : ((a *ℤ pos k) -ℤ (pos n *ℤ c)) *ℤ pos d ≡ ((a *ℤ pos k) *ℤ pos d) -ℤ (pos d *ℤ (pos n *ℤ c))
    third = rw (is_diff a, is_diff c) (simp (diffs, diff_pos) (diff_same _ _ _ _ (omega arith)))

row-under : (a c s size : ℤ) (k d n : ℕ) → (neg_ℤ a *ℤ pos d) ≤ℤ (s +ℤ (pos n *ℤ size)) → pos k *ℤ s ≡ pos d *ℤ (neg_ℤ (pos n) *ℤ c) → (neg_ℤ ((a *ℤ pos k) -ℤ (pos n *ℤ c)) *ℤ pos d) ≤ℤ (size *ℤ pos (n * k))
row-under a c s size k d n row same =
    omega (
      arith,
      ints,
      times-le k (neg_ℤ a *ℤ pos d) (s +ℤ (pos n *ℤ size)) row,
      same,
      ap (λ w. pos d *ℤ w) (neg_times (pos n) c),
      times_neg (pos d) (pos n *ℤ c),
      first,
      second,
      third (pos n *ℤ c),
    )
  where
    first : pos k *ℤ (neg_ℤ a *ℤ pos d) ≡ neg_ℤ ((a *ℤ pos k) *ℤ pos d)
    first = rw (is_diff a) (simp (diffs, diff_pos) (diff_same _ _ _ _ (omega arith)))

    second : pos k *ℤ (s +ℤ (pos n *ℤ size)) ≡ (pos k *ℤ s) +ℤ (size *ℤ pos (n * k))
    second = rw (is_diff s, is_diff size) (simp (diffs, diff_pos) (diff_same _ _ _ _ (omega arith)))

    third : (u : ℤ) → neg_ℤ ((a *ℤ pos k) -ℤ u) *ℤ pos d ≡ (pos d *ℤ u) -ℤ ((a *ℤ pos k) *ℤ pos d)
    third u = rw (is_diff a, is_diff u) (simp (diffs, diff_pos) (diff_same _ _ _ _ (omega arith)))

-- and back
gap-row : (a c s size : ℤ) (k e n : ℕ) → 0 < k → (((a *ℤ pos k) -ℤ (pos n *ℤ c)) *ℤ pos e) ≤ℤ (size *ℤ pos (n * k)) → pos k *ℤ s ≡ pos (k * e) *ℤ (pos n *ℤ c)
    → (a *ℤ pos (k * e)) ≤ℤ (s +ℤ (pos n *ℤ (size *ℤ pos k)))
gap-row a c s size k e n hk most same =
    let is : s ≡ pos e *ℤ (pos n *ℤ c) = cancel_left k s (pos e *ℤ (pos n *ℤ c)) hk (same ∙ apart) in
    omega (arith, ints, most, is, first, second, third)
  where
    apart : pos (k * e) *ℤ (pos n *ℤ c) ≡ pos k *ℤ (pos e *ℤ (pos n *ℤ c))
    apart = rw (is_diff c) (simp (diffs, diff_pos) (diff_same _ _ _ _ (omega arith)))

    first : a *ℤ pos (k * e) ≡ (a *ℤ pos k) *ℤ pos e
    first = rw (is_diff a) (simp (diffs, diff_pos) (diff_same _ _ _ _ (omega arith)))

    second : pos n *ℤ (size *ℤ pos k) ≡ size *ℤ pos (n * k)
    second = rw (is_diff size) (simp (diffs, diff_pos) (diff_same _ _ _ _ (omega arith)))

    third : ((a *ℤ pos k) -ℤ (pos n *ℤ c)) *ℤ pos e ≡ ((a *ℤ pos k) *ℤ pos e) -ℤ (pos e *ℤ (pos n *ℤ c))
    third = rw (is_diff a, is_diff c) (simp (diffs, diff_pos) (diff_same _ _ _ _ (omega arith)))

under-row : (a c s size : ℤ) (k e n : ℕ) → 0 < k → (neg_ℤ ((a *ℤ pos k) -ℤ (pos n *ℤ c)) *ℤ pos e) ≤ℤ (size *ℤ pos (n * k)) → pos k *ℤ s ≡ pos (k * e) *ℤ (neg_ℤ (pos n) *ℤ c)
    → (neg_ℤ a *ℤ pos (k * e)) ≤ℤ (s +ℤ (pos n *ℤ (size *ℤ pos k)))
under-row a c s size k e n hk most same =
    let is : s ≡ pos e *ℤ (neg_ℤ (pos n) *ℤ c) = cancel_left k s (pos e *ℤ (neg_ℤ (pos n) *ℤ c)) hk (same ∙ apart (neg_ℤ (pos n) *ℤ c)) in
    omega (
      arith,
      ints,
      most,
      is,
      ap (λ w. pos e *ℤ w) (neg_times (pos n) c),
      times_neg (pos e) (pos n *ℤ c),
      first,
      second,
      third (pos n *ℤ c),
    )
  where
    apart : (w : ℤ) → pos (k * e) *ℤ w ≡ pos k *ℤ (pos e *ℤ w)
    apart w = rw (is_diff w) (simp (diffs, diff_pos) (diff_same _ _ _ _ (omega arith)))

    first : neg_ℤ a *ℤ pos (k * e) ≡ neg_ℤ ((a *ℤ pos k) *ℤ pos e)
    first = rw (is_diff a) (simp (diffs, diff_pos) (diff_same _ _ _ _ (omega arith)))

    second : pos n *ℤ (size *ℤ pos k) ≡ size *ℤ pos (n * k)
    second = rw (is_diff size) (simp (diffs, diff_pos) (diff_same _ _ _ _ (omega arith)))

    third : (u : ℤ) → neg_ℤ ((a *ℤ pos k) -ℤ u) *ℤ pos e ≡ (pos e *ℤ u) -ℤ ((a *ℤ pos k) *ℤ pos e)
    third u = rw (is_diff a, is_diff u) (simp (diffs, diff_pos) (diff_same _ _ _ _ (omega arith)))

-- ---- payments

pub paid-cut : (t : PaidTrade) (cut : ℕ) (delta : ℤ) (den : ℕ) → IsPaidTrade t → IsCutDen t cut → ArePaidOver t cut (payment_num t cut delta den)
paid-cut t cut delta den is cuts = record {
  positive = cuts.positive;
  each = λ b h. (num_over-is cut (fraction_at t.payments b) (all-at IsFraction t.payments b (whole_number (pos 0)) is.fractions (omega (arith, is.payments_count, h))) (cuts.divides b h)).equal;
}

module _ (t : PaidTrade) (cut : ℕ) (delta : ℤ) (den : ℕ) where
  pub fair-size : (pool : List Member) (x : List Fraction) → IsPoint (fairness_program t cut delta den pool) x → length x ≡ suc t.goods
  fair-size pool x point = omega (arith, point.same_length, length-only_at (suc t.goods) t.goods (pos 1))

  -- the prices of a point are within the cap
  pub fair-within : (pool : List Member) (x : List Fraction) → IsPoint (fairness_program t cut delta den pool) x → ArePrices t.goods t.cap (prices_at t x)
  fair-within pool x point =
      let size = fair-size pool x point in
      let low = point.non_negative in
      let p : Prices = prices_at t x in
      let d : ℕ = den_of x in
      let n : ℕ → ℤ = num_at x in
      let same = are_prices-over t.goods x low size in
      let is = from_fair t cut delta den x d n (den_of-pos t.goods x low size) (are_over-own t.goods x low size) size pool point in
      record {
        positive = prices-pos t.goods x low size;
        same_length = same.size;
        low = λ g h. cancel_le d (pos 0) (price_of p g) (den_of-pos t.goods x low size) (let most = scale_le p.den (pos 0) (n g) (is.low g (omega (arith, h))) in omega (arith, ints, most, same.same g h));
        high = λ g h. cancel_le d (price_of p g) (t.cap *ℤ pos p.den) (den_of-pos t.goods x low size)
            (let most = scale_le p.den (n g) (t.cap *ℤ pos d) (is.high g h) in omega (arith, ints, most, same.same g h, turn3 t.cap d p.den));
      }

  -- the last number of a point covers its prices
  pub point-covers : (pool : List Member) (x : List Fraction) → IsPaidTrade t → IsCutDen t cut → IsPoint (fairness_program t cut delta den pool) x → Covers t (prices_at t x) (fraction_at x t.goods)
  point-covers pool x paid cuts point b h =
      let size = fair-size pool x point in
      let low = point.non_negative in
      let p : Prices = prices_at t x in
      let d : ℕ = den_of x in
      let n : ℕ → ℤ = num_at x in
      let hd = den_of-pos t.goods x low size in
      let hp = prices-pos t.goods x low size in
      let same = are_prices-over t.goods x low size in
      let own = are_over-own t.goods x low size t.goods (omega (arith, size)) in
      let is = from_fair t cut delta den x d n hd (are_over-own t.goods x low size) size pool point in
      let a : ℤ = payment_num t cut delta den b in
      let c : ℤ = cost_of p (own_units t b) in
      let z : ℤ = gap_num t p cut (payment_num t cut delta den) b in
      let one = whole-gap t p cut (payment_num t cut delta den) paid hp (paid-cut t cut delta den paid cuts) b h in
      let other = negated_over (cut * p.den) z (gap t p b) one in
      let hg : 0 < cut * p.den = mul-pos cuts.positive hp in
      let first : AtMost (over z (cut * p.den)) (over (n t.goods) d) =
      row-gap a c _ (n t.goods) p.den d cut (is.bidders b h).0 (cost-same t.goods p d n (pos cut) (own_units t b) same) in
      let second : AtMost (over (neg_ℤ z) (cut * p.den)) (over (n t.goods) d) =
      row-under a c _ (n t.goods) p.den d cut (is.bidders b h).1 (cost-same t.goods p d n (neg_ℤ (pos cut)) (own_units t b) same) in (
        AtMost-right (gap t p b) (over (n t.goods) d) (fraction_at x t.goods) hd (sym own.equal) (AtMost-left (over z (cut * p.den)) (gap t p b) (over (n t.goods) d) hg (sym one.equal) first),
        AtMost-right (negation (gap t p b)) (over (n t.goods) d) (fraction_at x t.goods) hd (sym own.equal)
            (AtMost-left (over (neg_ℤ z) (cut * p.den)) (negation (gap t p b)) (over (n t.goods) d) hg (sym other.equal) second),
      )

  -- ---- prices with a number that covers them, as a point

  abbrev wide : Prices → Fraction → Prices
  wide q e = record { den = q.den * e.den; nums = map (λ z. z *ℤ pos e.den) q.nums }

  abbrev pub covered_point : Prices → Fraction → List Fraction
  covered_point q e = point_with (wide q e) (e.num *ℤ pos q.den)

  module _ (q : Prices) (e : Fraction) (are : ArePrices t.goods t.cap q) (he : 0 < e.den) where
    wide-pos : 0 < q.den * e.den
    wide-pos = mul-pos are.positive he

    wide-size : length (wide q e).nums ≡ t.goods
    wide-size = length-map q.nums (λ z. z *ℤ pos e.den) ∙ are.same_length

    abbrev n : ℕ → ℤ
    n = nums_with (wide q e) (e.num *ℤ pos q.den)

    n-price : (g : ℕ) → g < t.goods → n g ≡ price_of q g *ℤ pos e.den
    n-price g h = nums_with-price t.goods (wide q e) (e.num *ℤ pos q.den) wide-pos wide-size g h ∙ get_or-map (λ z. z *ℤ pos e.den) q.nums g (pos 0) (pos 0) (omega (arith, are.same_length, h))

    n-last : n t.goods ≡ e.num *ℤ pos q.den
    n-last = nums_with-last t.goods (wide q e) (e.num *ℤ pos q.den) wide-pos wide-size

    n-same : ArePricesOver t.goods q (q.den * e.den) n
    n-same = record { size = are.same_length; same = λ g h. turned (price_of q g) q.den e.den ∙ ap (λ z. z *ℤ pos q.den) (sym (n-price g h)) }
      where
        turned : (a : ℤ) (k d : ℕ) → a *ℤ pos (k * d) ≡ (a *ℤ pos d) *ℤ pos k
        turned a k d = rw (is_diff a) (simp (diffs, diff_pos) (diff_same _ _ _ _ (omega arith)))

    -- a number that covers isn't below 0
    cover-low : IsPaidTrade t → IsCutDen t cut → Covers t q e → (b : ℕ) → b < length t.trees → pos 0 ≤ℤ e.num
    cover-low paid cuts covers b h =
        let a : ℕ → ℤ = payment_num t cut delta den in
        let z : ℤ = gap_num t q cut a b in
        let d : ℕ = cut * q.den in
        let hd : 0 < d = mul-pos cuts.positive are.positive in
        let one = whole-gap t q cut a paid are.positive (paid-cut t cut delta den paid cuts) b h in
        let up : (z *ℤ pos e.den) ≤ℤ (e.num *ℤ pos d) = over-le d e.den z e.num (gap t q b) e hd one (own_over e he) (covers b h).0 in
        let down : (neg_ℤ z *ℤ pos e.den) ≤ℤ (e.num *ℤ pos d) = over-le d e.den (neg_ℤ z) e.num (negation (gap t q b)) e hd (negated_over d z (gap t q b) one) (own_over e he) (covers b h).1 in
        cancel_le d (pos 0) e.num hd (omega (arith, ints, up, down, turn z e.den, zero-*ℤ (pos d)))
      where
        turn : (g : ℤ) (d : ℕ) → neg_ℤ g *ℤ pos d ≡ neg_ℤ (g *ℤ pos d)
        turn g d = rw (is_diff g) (simp (diffs, diff_pos) (diff_same _ _ _ _ (omega arith)))

    pub covered-is_point : (pool : List Member) → IsPaidTrade t → IsCutDen t cut → Covers t q e → (b : ℕ) → b < length t.trees
        → AllByRecursion (λ m. (pos den *ℤ excess t.trees t.weights t.sets t.goods t.cap q m) ≤ℤ (delta *ℤ pos q.den)) pool
        → IsPoint (fairness_program t cut delta den pool) (covered_point q e)
    covered-is_point pool paid cuts covers b0 h0 bound =
        let d : ℕ = q.den * e.den in
        to_fair t cut delta den (covered_point q e) d n wide-pos
        (point_with-over t.goods (wide q e) (e.num *ℤ pos q.den) wide-pos wide-size) (point_with-size t.goods (wide q e) (e.num *ℤ pos q.den) wide-pos wide-size) pool
        (record {
          low = each-below (λ j. pos 0 ≤ℤ n j) t.goods
              (λ g h. let some = scale_le e.den (pos 0) (price_of q g) (are.low g h) in omega (arith, ints, some, n-price g h, zero-*ℤ (pos e.den)))
              (let some = scale_le q.den (pos 0) e.num (cover-low paid cuts covers b0 h0) in omega (arith, ints, some, n-last, zero-*ℤ (pos q.den)));
          high = λ g h. let most = scale_le e.den (price_of q g) (t.cap *ℤ pos q.den) (are.high g h) in omega (arith, ints, most, n-price g h, widened t.cap q.den e.den);
          bidders = λ b h.
              let a : ℤ = payment_num t cut delta den b in
              let z : ℤ = gap_num t q cut (payment_num t cut delta den) b in
              let c : ℤ = cost_of q (own_units t b) in
              let k : ℕ = cut * q.den in
              let hk : 0 < k = mul-pos cuts.positive are.positive in
              let one = whole-gap t q cut (payment_num t cut delta den) paid are.positive (paid-cut t cut delta den paid cuts) b h in
              let up : (z *ℤ pos e.den) ≤ℤ (e.num *ℤ pos k) = over-le k e.den z e.num (gap t q b) e hk one (own_over e he) (covers b h).0 in
              let down : (neg_ℤ z *ℤ pos e.den) ≤ℤ (e.num *ℤ pos k) =
              over-le k e.den (neg_ℤ z) e.num (negation (gap t q b)) e hk (negated_over k z (gap t q b) one) (own_over e he) (covers b h).1 in
              let last : pos cut *ℤ n t.goods ≡ pos cut *ℤ (e.num *ℤ pos q.den) = ap (λ w. pos cut *ℤ w) n-last in (
                (let row = gap-row a c _ e.num q.den e.den cut are.positive up (cost-same t.goods q d n (pos cut) (own_units t b) n-same) in omega (arith, ints, row, last)),
                (let row = under-row a c _ e.num q.den e.den cut are.positive down (cost-same t.goods q d n (neg_ℤ (pos cut)) (own_units t b) n-same) in omega (arith, ints, row, last)),
              );
          members = all-each (λ m. (pos den *ℤ excess t.trees t.weights t.sets t.goods t.cap q m) ≤ℤ (delta *ℤ pos q.den)) (MeetsBalance t.trees t.weights t.sets t.goods t.cap delta den d n) pool
              (λ m h. excess-balance t.trees t.weights t.sets t.goods t.cap q d n n-same m delta den are.positive h) bound;
        })
      where
        widened : (c : ℤ) (k d : ℕ) → (c *ℤ pos k) *ℤ pos d ≡ c *ℤ pos (k * d)
        widened c k d = rw (is_diff c) (simp (diffs, diff_pos) (diff_same _ _ _ _ (omega arith)))

    -- the least point's last number is at most one that covers prices that are a point
    pub least-covered : (pool : List Member) (x : List Fraction) → IsLeast (fairness_program t cut delta den pool) x → IsPoint (fairness_program t cut delta den pool) (covered_point q e) → AtMost (fraction_at x t.goods) e
    least-covered pool x least point =
        let size = fair-size pool x least.point in
        let low = least.point.non_negative in
        let p = fairness_program t cut delta den pool in
        let d : ℕ = den_of x in
        let hd = den_of-pos t.goods x low size in
        let mine = fair-cost-over t cut delta den x d (num_at x) hd (are_over-own t.goods x low size) size in
        let other = fair-cost-over t cut delta den (covered_point q e) (q.den * e.den) n wide-pos (point_with-over t.goods (wide q e) (e.num *ℤ pos q.den) wide-pos wide-size)
        (point_with-size t.goods (wide q e) (e.num *ℤ pos q.den) wide-pos wide-size) in
        let own = are_over-own t.goods x low size t.goods (omega (arith, size)) in
        let le : (num_at x t.goods *ℤ pos (q.den * e.den)) ≤ℤ (n t.goods *ℤ pos d) =
        over-le d (q.den * e.den) (num_at x t.goods) (n t.goods) (cost p x) (cost p (covered_point q e)) hd mine other (least.least (covered_point q e) point) in
        let at : AtMost (over (num_at x t.goods) d) e =
        cancel_le q.den (num_at x t.goods *ℤ pos e.den) (e.num *ℤ pos d) are.positive (omega (arith, ints, le, turned (num_at x t.goods) q.den e.den, ap (λ z. z *ℤ pos d) n-last, turn3 e.num q.den d)) in
        AtMost-left (over (num_at x t.goods) d) (fraction_at x t.goods) e hd (sym own.equal) at
      where
        turned : (a : ℤ) (k d : ℕ) → a *ℤ pos (k * d) ≡ (a *ℤ pos d) *ℤ pos k
        turned a k d = rw (is_diff a) (simp (diffs, diff_pos) (diff_same _ _ _ _ (omega arith)))

-- no member's excess at prices of a violation as small is above what is allowed
pub members-bound : (t : PaidTrade) (delta : ℤ) (den : ℕ) (pool : List Member) (q : Prices) (y : ℤ) → AreMembersOf t pool → HasViolationOf t q y → AtMost (violation_of q y) (over delta den)
    → AllByRecursion (λ m. (pos den *ℤ excess t.trees t.weights t.sets t.goods t.cap q m) ≤ℤ (delta *ℤ pos q.den)) pool
members-bound t delta den pool q y members is most =
    all-each (λ m. IsChoice t.trees t.weights t.sets (m.bidder, m.set)) (λ m. (pos den *ℤ excess t.trees t.weights t.sets t.goods t.cap q m) ≤ℤ (delta *ℤ pos q.den)) pool
    (λ m h. let le = times-le den (excess t.trees t.weights t.sets t.goods t.cap q m) y (is.bound (m.bidder, m.set) h) in omega (arith, ints, le, most, *ℤ_comm (pos den) y)) members

pub fair_is_within : FairIsWithin
fair_is_within t cut delta den pool x point = fair-within t cut delta den pool x point

pub least_is_fair : LeastIsFair
least_is_fair t cut p delta pool x v is members least none other =
    let r : Prices = prices_at t x in
    let mine : Fraction = violation_of r v in
    let first : Fraction = violation_of p delta in
    let within = fair-within t cut delta p.den pool x least.point in
    let most : AtMost mine first = none-le t.trees t.weights t.sets t.goods t.cap (fairness_at delta p.den) x v none other in
    let few : AtMost first mine = accurate-le t.trees t.weights t.sets t.goods t.cap p r delta v is.accurate is.violation within other in
    let hp : 0 < p.den = is.accurate.within.positive in
    let accurate : AreAccurate t r =
    record { within = within; least = (v, other, λ q y are there. AtMost-trans mine first (violation_of q y) hp most (accurate-le t.trees t.weights t.sets t.goods t.cap p q delta y is.accurate is.violation are there)) } in
    let ((b, s), (there, _), _) = is.violation.attained in
    let near : (q : Prices) (e : Fraction) → AreAccurate t q → IsFraction e → Covers t q e → AtMost (fraction_at x t.goods) e =
    λ q e same he covers.
    let (y, own, _) = same.least in
    least-covered t cut delta p.den q e same.within he pool x least
    (covered-is_point t cut delta p.den q e same.within he pool is.paid is.cut covers b there
    (members-bound t delta p.den pool q y members own (accurate-le t.trees t.weights t.sets t.goods t.cap q p y delta same own is.accurate.within is.violation))) in
    let size = fair-size t cut delta p.den pool x least.point in
    let proper = (are_over-own t.goods x least.point.non_negative size t.goods (omega (arith, size))).proper in
    let distance : IsDistance t r (fraction_at x t.goods) =
    record { proper = proper; covers = point-covers t cut delta p.den pool x is.paid is.cut least.point; least = λ e he covers. near r e accurate he covers } in (
      record { accurate = accurate; nearest = (fraction_at x t.goods, distance, λ q e same far. near q e same far.proper far.covers) },
      distance,
      Equals_from_AtMost mine first most few,
    )

-- ---- feasible

-- the greatest size of a gap covers
pub some-cover : (t : PaidTrade) (cut : ℕ) (delta : ℤ) (den : ℕ) (q : Prices) → IsPaidTrade t → IsCutDen t cut → 0 < q.den → (e : Fraction) × IsFraction e × Covers t q e
some-cover t cut delta den q paid cuts hq =
    let a : ℕ → ℤ = payment_num t cut delta den in
    let size : ℕ → ℤ = λ b. int_max (gap_num t q cut a b) (neg_ℤ (gap_num t q cut a b)) in
    let d : ℕ = cut * q.den in
    let hd : 0 < d = mul-pos cuts.positive hq in
    let top : ℤ = greatest size (numbers_below (length t.trees)) in
    let each = below-all (λ b. size b ≤ℤ top) (length t.trees) (greatest-high size (numbers_below (length t.trees)) 0) in (
      over top d,
      hd,
      λ b h.
          let z : ℤ = gap_num t q cut a b in
          let one = whole-gap t q cut a paid hq (paid-cut t cut delta den paid cuts) b h in
          let other = negated_over d z (gap t q b) one in
          let most = each b h in (
            AtMost-left (over z d) (gap t q b) (over top d) hd (sym one.equal) (AtMost-num z top d (omega (arith, ints, clamps, most))),
            AtMost-left (over (neg_ℤ z) d) (negation (gap t q b)) (over top d) hd (sym other.equal) (AtMost-num (neg_ℤ z) top d (omega (arith, ints, clamps, most))),
          ),
    )

pub fair_is_feasible : FairIsFeasible
fair_is_feasible t cut p delta pool is members infeasible =
    let (e, he, covers) = some-cover t cut delta p.den p is.paid is.cut is.accurate.within.positive in
    let ((b, s), (there, _), _) = is.violation.attained in
    let own : Fraction = violation_of p delta in
    infeasible (covered_point t cut delta p.den p e)
    (covered-is_point t cut delta p.den p e is.accurate.within he pool is.paid is.cut covers b there
    (members-bound t delta p.den pool p delta members is.violation (AtMost_from_Equals own own refl)))

-- ---- traces

same_point : (x y : List Fraction) → Some x ≡ Some y → x ≡ y
same_point x y e = cc

module _ (t : PaidTrade) where
  solves : (p : Program) (end : TraceEnd) (x : List Fraction) → AreCosts p → trace_end p ≡ end → point_at t.trees t.weights t.sets t.goods t.cap p end ≡ Some x
      → IsLeast p x × AreDuals p x (duals_at t.trees t.weights t.sets t.goods t.cap p end)
  solves p (least_end count d) x costs ends is =
      subst (λ (y : List Fraction). IsLeast p y × AreDuals p y (duals_of p d)) (same_point (point_of p d) x is)
      (least_end_gives_least p count d costs ends, (least_end_gives_duals p count d costs ends).1)
  solves p (infeasible_end count d k) x costs ends is = absurd (none-some x is)
  solves p wide_end x costs ends is = absurd (none-some x is)
  solves p pivots_end x costs ends is = absurd (none-some x is)

pub fair_traces_solve : FairTracesSolve
fair_traces_solve t cut delta den pool x is =
    solves t (fairness_program t cut delta den pool) (trace_end (fairness_program t cut delta den pool)) x
    (only_at-holds 1 (omega arith) (λ c. pos 0 ≤ℤ c) (suc t.goods) t.goods (pos 1) (omega (arith, ints)) (omega (arith, ints))) refl is

-- ---- pools

pub fair_pool_is_proper : FairPoolIsProper
fair_pool_is_proper t cut delta den pool is = by pool is
  where
    by : (pool : List Member) → IsFairPool t cut delta den pool → AreMembersOf t pool × (length pool ≤ 200)
    by [] starts = (tt, omega arith)
    by all (follows {pool} {m} turn may) =
        let (members, few) = by pool turn in
        let (x, solved, fits, violates, best, first) = may.solved in
        let room = may.room in
        (all_push (λ m. IsChoice t.trees t.weights t.sets (m.bidder, m.set)) pool m members violates.0, omega (arith, room, length_push pool m))
