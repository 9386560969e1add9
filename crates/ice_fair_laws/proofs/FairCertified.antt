-- The duals of the fairness program's least points give certificates that pass.
use Rattle.std.proofs.Common.{ℕ, ◌+◌, ◌*◌, ◌<◌, ◌≤◌, ◌≡◌, List, length, take, drop, slice_index_or, ℤ, pos, neg_ℤ, ◌+ℤ◌, ◌-ℤ◌, ◌*ℤ◌, ◌≤ℤ◌, refl, arith, ap, sym, subst, ◌∙◌}
use Rattle.std.proofs.lemmas.Int.{ints}
use Rattle.std.proofs.lemmas.List.{get_or-drop, get_or-take, length-drop, length-take-le}
use Rattle.std.proofs.Math.Nat.{mul-pos}
use Rattle.std.proofs.Math.IntN.{*ℤ_comm}
use Rattle.ice_defs.specs.Sum.{sum_below}
use Rattle.ice_defs.specs.Set.{value, units}
use Rattle.ice_defs.specs.Trade.{tree_of, set_of, weights_of}
use Rattle.ice_defs.specs.Prices.{Prices, cost_of}
use Rattle.ice_defs.specs.Rows.{weighted_sum, worth_above}
use Rattle.ice_defs.specs.Fraction.{Fraction, IsFraction, Equals, whole_number, plus, minus, times, fraction_at}
use Rattle.ice_defs.specs.Program.{dot, leasts, cost}
use Rattle.ice_defs.specs.PricingRun.{Member}
use Rattle.ice_defs.proofs.Sums.{sum_below-same, sum_below-less}
use Rattle.ice_defs.proofs.Products.{sum_below-times, times-le, times_add}
use Rattle.ice_defs.proofs.Integers.{neg_times}
use Rattle.ice_defs.proofs.Multiples.{times_keep, times_cancel, one_time}
use Rattle.ice_frac.proofs.Ring.{is_diff, diff_same, diff_pos, diffs}
use Rattle.ice_frac.proofs.Fractions.{Equals-plus, Equals-less, Equals-trans}
use Rattle.ice_row_laws.proofs.Weighted.{total_weight, weighted_sum-ones}
use Rattle.ice_row_laws.proofs.Priced.{rows-le}
use Rattle.ice_pricing_laws.specs.Pools.{member_at}
use Rattle.ice_pricing_laws.specs.Weights.{AreWeights}
use Rattle.ice_pricing_laws.proofs.Lists.{length-map_below, get_or-map_below}
use Rattle.ice_pricing_laws.proofs.Dens.{IsOver, AreOver}
use Rattle.ice_pricing_laws.proofs.Dots.{times-over, over-same}
use Rattle.ice_pricing_laws.proofs.Duals.{pool_sum}
use Rattle.ice_pricing_laws.proofs.Solved.{den_of, num_at, den_of-pos, are_over-own, own-pos, own-over}
use Rattle.ice_pricing_laws.proofs.Weighed.{weight_at, weighted-rows, rows-proper, pool_sum-times, AreMultiples, pool_sum-scaled, wanted-most}
use Rattle.ice_fair_laws.specs.Fair.{PaidTrade, FairCertificate, own_units, held, total_held, held_units, row_units, demand, held_payments}
use Rattle.ice_fair_laws.specs.Whole.{held_sum}
use Rattle.ice_fair_laws.specs.FairRun.{payment_num, fairness_program}
use Rattle.ice_fair_laws.specs.Run.{prices_at, fair_certificate, DualsPassFairness}
use Rattle.ice_fair_laws.proofs.Linear.{rest_of, rest-le, held-le}
use Rattle.ice_fair_laws.proofs.Overs.{over}
use Rattle.ice_fair_laws.proofs.Held.{both-sum, held-over, held-most}
use Rattle.ice_fair_laws.proofs.Nearest.{asked-le}
use Rattle.ice_fair_laws.proofs.Wholes.{paid-over}
use Rattle.ice_fair_laws.proofs.Points.{fair-cost-over}
use Rattle.ice_fair_laws.proofs.Fairs.{paid-cut, fair-size, least_is_fair}
use Rattle.ice_fair_laws.proofs.FairColumns.{worth, more, rows-count, low_at, high_at, member_num, FairTotal, fair-total, fair-duals}

-- ---- integers

-- the duals' total is at most the held payments with the rest, all times denominators
dual-le : (e d n m k f dx : ℕ) (h paid w worth ones a all cap v delta s last tau : ℤ) (total : ℕ) → 0 < e → 0 < dx → pos 0 ≤ℤ cap
    → pos e *ℤ h ≡ pos d *ℤ (pos n *ℤ paid) → pos e *ℤ w ≡ pos d *ℤ (pos k *ℤ worth) → pos e *ℤ pos total ≡ pos d *ℤ (pos k *ℤ ones) → (pos e *ℤ a) ≤ℤ (pos d *ℤ all)
    → v *ℤ pos k ≡ delta *ℤ pos m → s ≡ (paid +ℤ ((pos k *ℤ worth) -ℤ (delta *ℤ ones))) -ℤ (cap *ℤ all) → s *ℤ pos dx ≡ last *ℤ pos e → tau *ℤ pos dx ≡ last *ℤ pos f
    → (pos d *ℤ (tau *ℤ pos (n * m))) ≤ℤ (pos f *ℤ ((pos m *ℤ h) +ℤ (pos n *ℤ rest_of m total w v (cap *ℤ a))))
dual-le e d n m k f dx h paid w worth ones a all cap v delta s last tau total he hx some held worths totals wants same is left right =
    let z : ℤ = (pos m *ℤ h) +ℤ (pos n *ℤ rest_of m total w v (cap *ℤ a)) in
    let kept : (cap *ℤ (pos e *ℤ a)) ≤ℤ (cap *ℤ (pos d *ℤ all)) = times_keep cap (pos e *ℤ a) (pos d *ℤ all) some wants in
    let kept2 = times-le (n * m) (cap *ℤ (pos e *ℤ a)) (cap *ℤ (pos d *ℤ all)) kept in
    let violation : pos d *ℤ ((v *ℤ pos k) *ℤ ones) ≡ pos d *ℤ ((delta *ℤ pos m) *ℤ ones) = ap (λ u. pos d *ℤ (u *ℤ ones)) same in
    let most : (pos (d * (n * m)) *ℤ s) ≤ℤ (pos e *ℤ z) =
    omega (
      arith,
      ints,
      kept2,
      spread,
      ap (λ u. pos m *ℤ u) held,
      ap (λ u. pos (n * m) *ℤ u) worths,
      ap (λ u. pos n *ℤ (v *ℤ u)) totals,
      one,
      two,
      three,
      ap (λ u. pos n *ℤ u) violation,
      four,
      ap (λ u. pos (d * (n * m)) *ℤ u) is,
      five,
    ) in
    times_cancel (e * dx) _ _ (omega (arith, mul-pos he hx))
    (omega (
      arith,
      ints,
      times-le (f * dx) (pos (d * (n * m)) *ℤ s) (pos e *ℤ z) most,
      six,
      ap (λ u. pos (d * (n * m) * f) *ℤ u) left,
      seven,
      ap (λ u. pos (d * (n * m) * e) *ℤ u) right,
      eight,
      nine z,
    ))
  where
    spread : pos e *ℤ ((pos m *ℤ h) +ℤ (pos n *ℤ rest_of m total w v (cap *ℤ a)))
        ≡ ((pos m *ℤ (pos e *ℤ h)) +ℤ (pos (n * m) *ℤ (pos e *ℤ w))) -ℤ ((pos n *ℤ (v *ℤ (pos e *ℤ pos total))) +ℤ (pos (n * m) *ℤ (cap *ℤ (pos e *ℤ a))))
    spread = rw (is_diff h, is_diff w, is_diff v, is_diff cap, is_diff a) (simp (diffs, diff_pos) (diff_same _ _ _ _ (omega arith)))

    one : pos m *ℤ (pos d *ℤ (pos n *ℤ paid)) ≡ pos (d * (n * m)) *ℤ paid
    one = rw (is_diff paid) (simp (diffs, diff_pos) (diff_same _ _ _ _ (omega arith)))

    two : pos (n * m) *ℤ (pos d *ℤ (pos k *ℤ worth)) ≡ pos (d * (n * m)) *ℤ (pos k *ℤ worth)
    two = rw (is_diff worth) (simp (diffs, diff_pos) (diff_same _ _ _ _ (omega arith)))

    three : pos n *ℤ (v *ℤ (pos d *ℤ (pos k *ℤ ones))) ≡ pos n *ℤ (pos d *ℤ ((v *ℤ pos k) *ℤ ones))
    three = rw (is_diff v, is_diff ones) (simp (diffs, diff_pos) (diff_same _ _ _ _ (omega arith)))

    four : pos n *ℤ (pos d *ℤ ((delta *ℤ pos m) *ℤ ones)) ≡ pos (d * (n * m)) *ℤ (delta *ℤ ones)
    four = rw (is_diff delta, is_diff ones) (simp (diffs, diff_pos) (diff_same _ _ _ _ (omega arith)))

    five : pos (d * (n * m)) *ℤ ((paid +ℤ ((pos k *ℤ worth) -ℤ (delta *ℤ ones))) -ℤ (cap *ℤ all))
        ≡ ((pos (d * (n * m)) *ℤ paid) +ℤ (pos (d * (n * m)) *ℤ (pos k *ℤ worth))) -ℤ ((pos (d * (n * m)) *ℤ (delta *ℤ ones)) +ℤ (pos (n * m) *ℤ (cap *ℤ (pos d *ℤ all))))
    five = rw (is_diff paid, is_diff worth, is_diff delta, is_diff ones, is_diff cap, is_diff all) (simp (diffs, diff_pos) (diff_same _ _ _ _ (omega arith)))

    six : pos (f * dx) *ℤ (pos (d * (n * m)) *ℤ s) ≡ pos (d * (n * m) * f) *ℤ (s *ℤ pos dx)
    six = rw (is_diff s) (simp (diffs, diff_pos) (diff_same _ _ _ _ (omega arith)))

    seven : pos (d * (n * m) * f) *ℤ (last *ℤ pos e) ≡ pos (d * (n * m) * e) *ℤ (last *ℤ pos f)
    seven = rw (is_diff last) (simp (diffs, diff_pos) (diff_same _ _ _ _ (omega arith)))

    eight : pos (d * (n * m) * e) *ℤ (tau *ℤ pos dx) ≡ pos (e * dx) *ℤ (pos d *ℤ (tau *ℤ pos (n * m)))
    eight = rw (is_diff tau) (simp (diffs, diff_pos) (diff_same _ _ _ _ (omega arith)))

    nine : (z : ℤ) → pos (f * dx) *ℤ (pos e *ℤ z) ≡ pos (e * dx) *ℤ (pos f *ℤ z)
    nine z = rw (is_diff z) (simp (diffs, diff_pos) (diff_same _ _ _ _ (omega arith)))

-- the whole equality gives the test's
from-whole : (m n f d total : ℕ) (h worth x most least : ℤ) (held : Fraction) → IsOver n h held → 0 < m → 0 < n
    → pos d *ℤ (least *ℤ pos (n * m)) ≡ pos f *ℤ ((pos m *ℤ h) +ℤ (pos n *ℤ rest_of m total worth x most))
    → Equals (times (whole_number (pos d)) (over least f)) (minus (plus held (minus (whole_number worth) (times (whole_number (pos total)) (over x m)))) (whole_number most))
from-whole m n f d total h worth x most least held is hm hn even =
    let rows : Fraction = minus (whole_number worth) (times (whole_number (pos total)) (over x m)) in
    let all : Fraction = minus (plus held rows) (whole_number most) in
    let now : Fraction = minus (plus (over h n) rows) (whole_number most) in
    let same : Equals all now = Equals-less (plus held rows) (whole_number most) (plus (over h n) rows) (whole_number most) (Equals-plus held rows (over h n) rows is.equal refl) refl in
    let proper : IsFraction now = mul-pos (mul-pos hn (mul-pos (omega arith) (mul-pos (omega arith) hm))) (omega arith) in
    Equals-trans (times (whole_number (pos d)) (over least f)) now all proper (left ∙ even ∙ right) (sym same)
  where
    left : (pos d *ℤ least) *ℤ pos ((n * (1 * (1 * m))) * 1) ≡ pos d *ℤ (least *ℤ pos (n * m))
    left = rw (is_diff least) (simp (diffs, diff_pos) (diff_same _ _ _ _ (omega arith)))

    right : pos f *ℤ ((pos m *ℤ h) +ℤ (pos n *ℤ rest_of m total worth x most))
        ≡ (((h *ℤ pos (1 * (1 * m))) +ℤ (((worth *ℤ pos (1 * m)) +ℤ (neg_ℤ (pos total *ℤ x) *ℤ pos 1)) *ℤ pos n)) *ℤ pos 1 +ℤ (neg_ℤ most *ℤ pos (n * (1 * (1 * m))))) *ℤ pos (1 * f)
    right = rw (is_diff h, is_diff worth, is_diff x, is_diff most) (simp (diffs, diff_pos) (diff_same _ _ _ _ (omega arith)))

-- ---- the bidders' numbers

module _ (t : PaidTrade) (cut : ℕ) (pool : List Member) (y : List Fraction) (e : ℕ) (a : ℕ → ℤ) (are : AreOver e a y) (size : length y ≡ t.goods + (2 * length t.trees + length pool)) (den : ℕ) (ks ns : List ℕ) where
  abbrev pairs : ℕ
  pairs = 2 * length t.trees

  later-size : length (drop t.goods y) ≡ pairs + length pool
  later-size = omega (arith, length-drop t.goods y, size)

  number-at : (factor i : ℕ) (f : Fraction) (k : ℤ) → i < pairs + length pool → f ≡ fraction_at y (t.goods + i) → Equals (over k den) (times (whole_number (pos factor)) f)
      → 0 < den → k *ℤ pos e ≡ (pos factor *ℤ a (t.goods + i)) *ℤ pos den
  number-at factor i f k h same equal hd =
      let here = are (t.goods + i) (omega (arith, size, h)) in
      let whole_over : IsOver e (pos factor *ℤ a (t.goods + i)) (times (whole_number (pos factor)) f) =
      subst (λ g. IsOver e (pos factor *ℤ a (t.goods + i)) (times (whole_number (pos factor)) g)) (sym same) (times-over e (pos factor) (a (t.goods + i)) (fraction_at y (t.goods + i)) here) in
      over-same den e k (pos factor *ℤ a (t.goods + i)) (times (whole_number (pos factor)) f) (record { proper = whole_over.proper; equal = sym equal }) whole_over

  bidder-number : AreWeights cut (take pairs (drop t.goods y)) den ks → (i : ℕ) → i < pairs → pos (slice_index_or ks i 0) *ℤ pos e ≡ (pos cut *ℤ a (t.goods + i)) *ℤ pos den
  bidder-number weights i h =
      let long : i < length (take pairs (drop t.goods y)) = omega (arith, length-take-le pairs (drop t.goods y) (omega (arith, later-size)), h) in
      number-at cut i (fraction_at (take pairs (drop t.goods y)) i) (pos (slice_index_or ks i 0)) (omega (arith, h))
      (get_or-take pairs (drop t.goods y) i (whole_number (pos 0)) h ∙ get_or-drop t.goods y i (whole_number (pos 0))) (weights.equal i long) weights.positive

  pub member-numbers : (factor : ℕ) → AreWeights factor (drop pairs (drop t.goods y)) den ns → AreMultiples pool factor den e (weight_at ns) (member_num t cut (pos 0) 0 pool a)
  member-numbers factor weights i h =
      let long : i < length (drop pairs (drop t.goods y)) = omega (arith, length-drop pairs (drop t.goods y), later-size, h) in
      number-at factor (pairs + i) (fraction_at (drop pairs (drop t.goods y)) i) (weight_at ns i) (omega (arith, h))
      (get_or-drop pairs (drop t.goods y) i (whole_number (pos 0)) ∙ get_or-drop t.goods y (pairs + i) (whole_number (pos 0))) (weights.equal i long) weights.positive

  pub members-size : (factor : ℕ) → AreWeights factor (drop pairs (drop t.goods y)) den ns → length ns ≡ length pool
  members-size factor weights = omega (arith, weights.same_length, length-drop pairs (drop t.goods y), later-size)

  abbrev certificate : FairCertificate
  certificate = fair_certificate t den ks pool ns

  pub low-is : (b : ℕ) → b < length t.trees → slice_index_or certificate.low b 0 ≡ slice_index_or ks (2 * b) 0
  low-is b h = get_or-map_below (λ b. slice_index_or ks (2 * b) 0) (length t.trees) b 0 h

  pub high-is : (b : ℕ) → b < length t.trees → slice_index_or certificate.high b 0 ≡ slice_index_or ks (2 * b + 1) 0
  high-is b h = get_or-map_below (λ b. slice_index_or ks (2 * b + 1) 0) (length t.trees) b 0 h

  abbrev low_num : ℕ → ℤ
  low_num = low_at t cut (pos 0) 0 pool a

  abbrev high_num : ℕ → ℤ
  high_num = high_at t cut (pos 0) 0 pool a

  module _ (weights : AreWeights cut (take pairs (drop t.goods y)) den ks) where
    low-number : (b : ℕ) → b < length t.trees → pos (slice_index_or certificate.low b 0) *ℤ pos e ≡ (pos cut *ℤ low_num b) *ℤ pos den
    low-number b h = ap (λ k. pos k *ℤ pos e) (low-is b h) ∙ bidder-number weights (2 * b) (omega (arith, h))

    high-number : (b : ℕ) → b < length t.trees → pos (slice_index_or certificate.high b 0) *ℤ pos e ≡ (pos cut *ℤ high_num b) *ℤ pos den
    high-number b h = ap (λ k. pos k *ℤ pos e) (high-is b h) ∙ bidder-number weights (2 * b + 1) (omega (arith, h))

    -- what is held of numbers of the bidders
    pub held-scaled : (f : ℕ → ℤ) → pos e *ℤ held_sum t certificate f ≡ pos den *ℤ (pos cut *ℤ sum_below (λ b. (f b *ℤ low_num b) -ℤ (f b *ℤ high_num b)) (length t.trees))
    held-scaled f =
        sym (sum_below-times (pos e) (λ b. held certificate b *ℤ f b) (length t.trees))
        ∙ sum_below-same _ (λ b. pos den *ℤ (pos cut *ℤ ((f b *ℤ low_num b) -ℤ (f b *ℤ high_num b)))) (length t.trees)
        (λ b h. part (pos (slice_index_or certificate.low b 0)) (pos (slice_index_or certificate.high b 0)) (low_num b) (high_num b) (f b) (low-number b h) (high-number b h))
        ∙ sum_below-times (pos den) (λ b. pos cut *ℤ ((f b *ℤ low_num b) -ℤ (f b *ℤ high_num b))) (length t.trees)
        ∙ ap (λ z. pos den *ℤ z) (sum_below-times (pos cut) (λ b. (f b *ℤ low_num b) -ℤ (f b *ℤ high_num b)) (length t.trees))
      where
        part : (l h u v f : ℤ) → l *ℤ pos e ≡ (pos cut *ℤ u) *ℤ pos den → h *ℤ pos e ≡ (pos cut *ℤ v) *ℤ pos den → pos e *ℤ ((l -ℤ h) *ℤ f) ≡ pos den *ℤ (pos cut *ℤ ((f *ℤ u) -ℤ (f *ℤ v)))
        part l h u v f first second = apart ∙ ap (λ z. (f *ℤ z) -ℤ (f *ℤ (h *ℤ pos e))) first ∙ ap (λ z. (f *ℤ ((pos cut *ℤ u) *ℤ pos den)) -ℤ (f *ℤ z)) second ∙ back
          where
            apart : pos e *ℤ ((l -ℤ h) *ℤ f) ≡ (f *ℤ (l *ℤ pos e)) -ℤ (f *ℤ (h *ℤ pos e))
            apart = rw (is_diff l, is_diff h, is_diff f) (simp (diffs, diff_pos) (diff_same _ _ _ _ (omega arith)))

            back : (f *ℤ ((pos cut *ℤ u) *ℤ pos den)) -ℤ (f *ℤ ((pos cut *ℤ v) *ℤ pos den)) ≡ pos den *ℤ (pos cut *ℤ ((f *ℤ u) -ℤ (f *ℤ v)))
            back = rw (is_diff u, is_diff v, is_diff f) (simp (diffs, diff_pos) (diff_same _ _ _ _ (omega arith)))

    -- all numbers together
    pub total-scaled : pos e *ℤ pos (total_held certificate) ≡ pos den *ℤ sum_below (λ b. (pos cut *ℤ low_num b) +ℤ (pos cut *ℤ high_num b)) (length t.trees)
    total-scaled =
        let both : ℕ → ℤ = λ b. pos (slice_index_or certificate.low b 0) +ℤ pos (slice_index_or certificate.high b 0) in
        ap (λ z. pos e *ℤ z) (sym (both-sum t certificate (length-map_below (λ b. slice_index_or ks (2 * b) 0) (length t.trees)) (length-map_below (λ b. slice_index_or ks (2 * b + 1) 0) (length t.trees))))
        ∙ sym (sum_below-times (pos e) both (length t.trees))
        ∙ sum_below-same _ (λ b. pos den *ℤ ((pos cut *ℤ low_num b) +ℤ (pos cut *ℤ high_num b))) (length t.trees)
        (λ b h. part (pos (slice_index_or certificate.low b 0)) (pos (slice_index_or certificate.high b 0)) (low_num b) (high_num b) (low-number b h) (high-number b h))
        ∙ sum_below-times (pos den) (λ b. (pos cut *ℤ low_num b) +ℤ (pos cut *ℤ high_num b)) (length t.trees)
      where
        part : (l h u v : ℤ) → l *ℤ pos e ≡ (pos cut *ℤ u) *ℤ pos den → h *ℤ pos e ≡ (pos cut *ℤ v) *ℤ pos den → pos e *ℤ (l +ℤ h) ≡ pos den *ℤ ((pos cut *ℤ u) +ℤ (pos cut *ℤ v))
        part l h u v first second = apart ∙ ap (λ z. z +ℤ (h *ℤ pos e)) first ∙ ap (λ z. ((pos cut *ℤ u) *ℤ pos den) +ℤ z) second ∙ back
          where
            apart : pos e *ℤ (l +ℤ h) ≡ (l *ℤ pos e) +ℤ (h *ℤ pos e)
            apart = rw (is_diff l, is_diff h) (simp (diffs, diff_pos) (diff_same _ _ _ _ (omega arith)))

            back : ((pos cut *ℤ u) *ℤ pos den) +ℤ ((pos cut *ℤ v) *ℤ pos den) ≡ pos den *ℤ ((pos cut *ℤ u) +ℤ (pos cut *ℤ v))
            back = rw (is_diff u, is_diff v) (simp (diffs, diff_pos) (diff_same _ _ _ _ (omega arith)))

-- ---- the law

split-members : (pool : List Member) (k delta : ℤ) (f : Member → ℤ) (b : ℕ → ℤ) → pool_sum pool (λ m. (k *ℤ f m) -ℤ delta) b ≡ (k *ℤ pool_sum pool f b) -ℤ (delta *ℤ pool_sum pool (λ m. pos 1) b)
split-members pool k delta f b =
    sum_below-same _ (λ i. (k *ℤ (f (member_at pool i) *ℤ b i)) -ℤ (delta *ℤ (pos 1 *ℤ b i))) (length pool) (λ i h. part (f (member_at pool i)) (b i))
    ∙ sum_below-less (λ i. k *ℤ (f (member_at pool i) *ℤ b i)) (λ i. delta *ℤ (pos 1 *ℤ b i)) (length pool)
    ∙ ap (λ z. z -ℤ sum_below (λ i. delta *ℤ (pos 1 *ℤ b i)) (length pool)) (sum_below-times k (λ i. f (member_at pool i) *ℤ b i) (length pool))
    ∙ ap (λ z. (k *ℤ pool_sum pool f b) -ℤ z) (sum_below-times delta (λ i. pos 1 *ℤ b i) (length pool))
  where
    part : (f b : ℤ) → ((k *ℤ f) -ℤ delta) *ℤ b ≡ (k *ℤ (f *ℤ b)) -ℤ (delta *ℤ (pos 1 *ℤ b))
    part f b = rw (is_diff k, is_diff delta, is_diff f, is_diff b) (simp (diffs, diff_pos) (diff_same _ _ _ _ (omega arith)))

pub duals_pass_fairness : DualsPassFairness
duals_pass_fairness t cut p delta pool x y v den ks ns is members least duals none other first_weights weights =
    let program = fairness_program t cut delta p.den pool in
    let r : Prices = prices_at t x in
    let c : FairCertificate = fair_certificate t den ks pool ns in
    let count : ℕ = length t.trees in
    let (fair, distance, equals) = least_is_fair t cut p delta pool x v is members least none other in
    let within = fair.accurate.within in
    let ((b0, s0), (there, _), _) = is.violation.attained in
    let long : length y ≡ t.goods + (2 * count + length pool) = duals.same_length ∙ rows-count t cut delta p.den pool in
    let e : ℕ = den_of y in
    let a : ℕ → ℤ = num_at y in
    let he = own-pos y duals.non_negative in
    let over_y = own-over y duals.non_negative in
    let facts = fair-duals t cut delta p.den pool a y e he over_y long x duals in
    let s : ℤ = FairTotal t cut delta p.den pool a in
    let total = fair-total t cut delta p.den pool a y e he over_y long in
    let size = fair-size t cut delta p.den pool x least.point in
    let low = least.point.non_negative in
    let dx : ℕ = den_of x in
    let hx = den_of-pos t.goods x low size in
    let last : ℤ = num_at x t.goods in
    let tau : Fraction = fraction_at x t.goods in
    let mine = fair-cost-over t cut delta p.den x dx (num_at x) hx (are_over-own t.goods x low size) size in
    let own = are_over-own t.goods x low size t.goods (omega (arith, size)) in
    let sum = dot (leasts program) y in
    let left : s *ℤ pos dx ≡ last *ℤ pos e =
    over-same e dx s last sum total (record { proper = total.proper; equal = Equals-trans sum (cost program x) (over last dx) mine.proper duals.equal mine.equal }) in
    let low_b : ℕ → ℤ = λ b. a (t.goods + 2 * b) in
    let high_b : ℕ → ℤ = λ b. a (t.goods + (2 * b + 1)) in
    let of : ℕ → ℤ = λ i. a (t.goods + (2 * count + i)) in
    let paid : ℕ → ℤ = payment_num t cut delta p.den in
    let held_of = held-scaled t cut pool y e a over_y long den ks ns first_weights in
    let few = members-size t cut pool y e a over_y long den ks ns p.den weights in
    let multiples = member-numbers t cut pool y e a over_y long den ks ns p.den weights in
    let scaled : (f : Member → ℤ) → pos e *ℤ pool_sum pool f (weight_at ns) ≡ pos den *ℤ (pos p.den *ℤ pool_sum pool f of) = λ f. pool_sum-scaled pool p.den den e (weight_at ns) of f multiples in
    let worths : pos e *ℤ weighted_sum (worth_above t.trees t.weights t.sets) c.rows ≡ pos den *ℤ (pos p.den *ℤ pool_sum pool (worth t cut delta p.den pool) of) =
    ap (λ z. pos e *ℤ z) (weighted-rows (λ b k. value k (weights_of t.weights b) -ℤ value (set_of t.sets b) (weights_of t.weights b)) pool ns few) ∙ scaled (worth t cut delta p.den pool) in
    let totals : pos e *ℤ pos (total_weight c.rows) ≡ pos den *ℤ (pos p.den *ℤ pool_sum pool (λ m. pos 1) of) =
    ap (λ z. pos e *ℤ z) (sym (weighted_sum-ones c.rows) ∙ weighted-rows (λ b k. pos 1) pool ns few) ∙ scaled (λ m. pos 1) in
    let numbers : total_held c ≤ den =
    (let most : pos (total_held c) ≤ℤ pos den =
    times_cancel e (pos (total_held c)) (pos den) he
    (omega (arith, ints, total-scaled t cut pool y e a over_y long den ks ns first_weights, times-le den (sum_below (λ b. (pos cut *ℤ low_b b) +ℤ (pos cut *ℤ high_b b)) count) (pos e) facts.last, *ℤ_comm (pos den) (pos e))) in
    omega (arith, ints, most)) in
    let each : (g : ℕ) → g < t.goods → (pos 1 *ℤ (pos e *ℤ (held_units t c g +ℤ (pos 100 *ℤ row_units t c g)))) ≤ℤ (pos den *ℤ a g) =
    λ g h.
    let u : ℕ → ℤ = λ b. own_units t b g in
    let members_sum : ℤ = pool_sum pool (λ m. more t cut delta p.den pool m g) of in
    let units = ap (λ z. pos e *ℤ z) (weighted-rows (λ b k. units (tree_of t.trees b) k g -ℤ units (tree_of t.trees b) (set_of t.sets b) g) pool ns few) ∙ scaled (λ m. more t cut delta p.den pool m g) in
    let sets : sum_below (λ b. ((pos cut *ℤ u b) *ℤ low_b b) +ℤ ((neg_ℤ (pos cut) *ℤ u b) *ℤ high_b b)) count ≡ pos cut *ℤ sum_below (λ b. (u b *ℤ low_b b) -ℤ (u b *ℤ high_b b)) count =
    sum_below-same _ (λ b. pos cut *ℤ ((u b *ℤ low_b b) -ℤ (u b *ℤ high_b b))) count (λ b l. pair (u b) (low_b b) (high_b b)) ∙ sum_below-times (pos cut) (λ b. (u b *ℤ low_b b) -ℤ (u b *ℤ high_b b)) count in
    let most = times-le den _ (a g) (facts.columns g h) in
    omega (
      arith,
      ints,
      most,
      one_time (pos e *ℤ (held_units t c g +ℤ (pos 100 *ℤ row_units t c g))),
      times_add (pos e) (held_units t c g) (pos 100 *ℤ row_units t c g),
      hundred e (row_units t c g),
      held_of u,
      units,
      ap (λ z. pos den *ℤ (z +ℤ pool_sum pool (λ m. pos (100 * p.den) *ℤ more t cut delta p.den pool m g) of)) sets,
      ap (λ z. pos den *ℤ ((pos cut *ℤ sum_below (λ b. (u b *ℤ low_b b) -ℤ (u b *ℤ high_b b)) count) +ℤ z)) (pool_sum-times pool (pos (100 * p.den)) (λ m. more t cut delta p.den pool m g) of),
      join den p.den (pos cut *ℤ sum_below (λ b. (u b *ℤ low_b b) -ℤ (u b *ℤ high_b b)) count) members_sum,
    ) in
    let low_prices : (g : ℕ) → g < t.goods → pos 0 ≤ℤ a g = λ g h. facts.low g (omega (arith, h)) in
    let wants0 = wanted-most 1 e den (λ g. held_units t c g +ℤ (pos 100 *ℤ row_units t c g)) a t.goods low_prices each in
    let wants : (pos e *ℤ demand t c) ≤ℤ (pos den *ℤ sum_below a t.goods) = omega (arith, ints, wants0, one_time (pos e *ℤ demand t c)) in
    let sum_paid : ℤ = sum_below (λ b. (paid b *ℤ low_b b) -ℤ (paid b *ℤ high_b b)) count in
    let paid_same : sum_below (λ b. (paid b *ℤ low_b b) +ℤ (neg_ℤ (paid b) *ℤ high_b b)) count ≡ sum_paid =
    sum_below-same _ (λ b. (paid b *ℤ low_b b) -ℤ (paid b *ℤ high_b b)) count (λ b h. minus_is (paid b) (low_b b) (high_b b)) in
    let s_is : s ≡ (sum_paid +ℤ ((pos p.den *ℤ pool_sum pool (worth t cut delta p.den pool) of) -ℤ (delta *ℤ pool_sum pool (λ m. pos 1) of))) -ℤ (t.cap *ℤ sum_below a t.goods) =
    omega (arith, ints, facts.total, paid_same, split-members pool (pos p.den) delta (worth t cut delta p.den pool) of) in
    let some : pos 0 ≤ℤ t.cap = is.not_negative in
    let paid_over = paid-cut t cut delta p.den is.paid is.cut in
    let are_paid = paid-over t cut paid is.paid paid_over in
    let lower = dual-le e den cut r.den p.den tau.den dx (held_sum t c paid) sum_paid (weighted_sum (worth_above t.trees t.weights t.sets) c.rows)
    (pool_sum pool (worth t cut delta p.den pool) of) (pool_sum pool (λ m. pos 1) of) (demand t c) (sum_below a t.goods) t.cap v delta s last tau.num (total_weight c.rows) he hx some
    (held_of paid) worths totals wants equals s_is left own.equal in
    let low_count = length-map_below (λ b. slice_index_or ks (2 * b) 0) count in
    let high_count = length-map_below (λ b. slice_index_or ks (2 * b + 1) 0) count in
    let proper = rows-proper t.trees t.weights t.sets pool ns members in
    let held_part = held-most t c r cut paid tau is.cut.positive within.positive own.proper (omega (arith, there)) is.paid.payments_count are_paid low_count high_count numbers distance.covers in
    let rest_part = rest-le r.den r.den (total_weight c.rows) (cost_of r (held_units t c)) (weighted_sum (worth_above t.trees t.weights t.sets) c.rows) (cost_of r (row_units t c)) (t.cap *ℤ demand t c) v v
    (rows-le t.trees t.weights t.sets r v other c.rows proper) (asked-le t c r within) (omega (arith, ints)) in
    let upper = held-le r.den r.den cut tau.den den (held_sum t c paid) (cost_of r (held_units t c))
    (rest_of r.den (total_weight c.rows) (weighted_sum (worth_above t.trees t.weights t.sets) c.rows) v (t.cap *ℤ demand t c)) tau.num within.positive rest_part held_part in
    let even : pos den *ℤ (tau.num *ℤ pos (cut * r.den))
    ≡ pos tau.den *ℤ ((pos r.den *ℤ held_sum t c paid) +ℤ (pos cut *ℤ rest_of r.den (total_weight c.rows) (weighted_sum (worth_above t.trees t.weights t.sets) c.rows) v (t.cap *ℤ demand t c))) =
    omega (arith, ints, lower, upper) in
    let held_is = held-over t c cut paid is.cut.positive is.paid.payments_count are_paid count (omega arith) in
    let equal = from-whole r.den cut tau.den den (total_weight c.rows) (held_sum t c paid) (weighted_sum (worth_above t.trees t.weights t.sets) c.rows) v (t.cap *ℤ demand t c) tau.num (held_payments t c) held_is within.positive is.cut.positive even in
    let ones : pos (total_weight c.rows) ≡ weighted_sum (λ row. pos 1) c.rows = sym (weighted_sum-ones c.rows) in
    record {
      proper = weights.positive;
      low_count = low_count;
      high_count = high_count;
      rows = proper;
      numbers = numbers;
      equal = subst (λ z. Equals (times (whole_number (pos den)) tau) (minus (plus (held_payments t c) (minus (whole_number (weighted_sum (worth_above t.trees t.weights t.sets) c.rows)) (times (whole_number z) (over v r.den)))) (whole_number (t.cap *ℤ demand t c)))) ones equal;
    }
  where
    hundred : (e : ℕ) (z : ℤ) → pos e *ℤ (pos 100 *ℤ z) ≡ pos 100 *ℤ (pos e *ℤ z)
    hundred e z = rw (is_diff z) (simp (diffs, diff_pos) (diff_same _ _ _ _ (omega arith)))

    pair : (u l h : ℤ) → ((pos cut *ℤ u) *ℤ l) +ℤ ((neg_ℤ (pos cut) *ℤ u) *ℤ h) ≡ pos cut *ℤ ((u *ℤ l) -ℤ (u *ℤ h))
    pair u l h = ap (λ z. ((pos cut *ℤ u) *ℤ l) +ℤ (z *ℤ h)) (neg_times (pos cut) u) ∙ turned
      where
        turned : ((pos cut *ℤ u) *ℤ l) +ℤ (neg_ℤ (pos cut *ℤ u) *ℤ h) ≡ pos cut *ℤ ((u *ℤ l) -ℤ (u *ℤ h))
        turned = rw (is_diff u, is_diff l, is_diff h) (simp (diffs, diff_pos) (diff_same _ _ _ _ (omega arith)))

    minus_is : (p l h : ℤ) → (p *ℤ l) +ℤ (neg_ℤ p *ℤ h) ≡ (p *ℤ l) -ℤ (p *ℤ h)
    minus_is p l h = rw (is_diff p, is_diff l, is_diff h) (simp (diffs, diff_pos) (diff_same _ _ _ _ (omega arith)))

    join : (d k : ℕ) (u w : ℤ) → pos d *ℤ (u +ℤ (pos (100 * k) *ℤ w)) ≡ (pos d *ℤ u) +ℤ (pos 100 *ℤ (pos d *ℤ (pos k *ℤ w)))
    join d k u w = rw (is_diff u, is_diff w) (simp (diffs, diff_pos) (diff_same _ _ _ _ (omega arith)))
