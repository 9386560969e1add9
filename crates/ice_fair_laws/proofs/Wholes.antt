-- The fairness test over whole numbers.
use Rattle.std.proofs.Common.{ℕ, zero, suc, ◌*◌, ◌<◌, ◌≡◌, ◌⊎◌, inl, inr, [], length, slice_index_or, ℤ, pos, neg_ℤ, ◌+ℤ◌, ◌-ℤ◌, ◌*ℤ◌, ◌≤ℤ◌, refl, arith, ap, sym, subst, ◌∙◌}
use Rattle.std.specs.Int.{int_max}
use Rattle.std.proofs.lemmas.Int.{ints, clamps}
use Rattle.std.proofs.Math.Nat.{mul-pos}
use Rattle.std.proofs.Math.IntN.{*ℤ_comm}
use Rattle.ice_defs.specs.Sum.{sum_below}
use Rattle.ice_defs.specs.Fraction.{Fraction, IsFraction, AtMost, Equals, whole_number, plus, minus, times, negation}
use Rattle.ice_defs.specs.Prices.{Prices, cost_of}
use Rattle.ice_defs.proofs.Sums.{sum_below-le}
use Rattle.ice_defs.proofs.Products.{sum_below-times, times-le, times_add, times_neg}
use Rattle.ice_defs.proofs.Multiples.{times_less}
use Rattle.ice_frac.proofs.Ring.{is_diff, diff_same, diff_pos, diffs}
use Rattle.ice_frac.proofs.Fractions.{Equals-plus, Equals-less, Equals-trans, AtMost-left, AtMost-right, Equals_from_AtMost, AtMost-num}
use Rattle.ice_pricing_laws.proofs.Lists.{all-at}
use Rattle.ice_pricing_laws.proofs.Dens.{IsOver, AreOver}
use Rattle.ice_pricing_laws.proofs.Weighed.{cancel_left}
use Rattle.ice_row_laws.specs.Sizes.{IsSizedWithin}
use Rattle.ice_fair_laws.specs.Fair.{PaidTrade, own_units, gap, Covers, IsDistance, held, held_units, row_units, total_held, demand, held_payments}
use Rattle.ice_fair_laws.specs.Laws.{IsPaidTrade}
use Rattle.ice_fair_laws.specs.Whole.{ArePaidOver, gap_num, IsGreatestGap, GreatestGapIsDistance, held_sum, rows_weight, rows_worth, TestIsWhole, AskedIsLow, HeldIsSized}
use Rattle.ice_fair_laws.proofs.Overs.{over, negated_over}
use Rattle.ice_fair_laws.proofs.Held.{held-over, gap-over, both-sum}

pub paid-over : (t : PaidTrade) (n : ℕ) (a : ℕ → ℤ) → IsPaidTrade t → ArePaidOver t n a → AreOver n a t.payments
paid-over t n a is are j h = record {
  proper = all-at IsFraction t.payments j (whole_number (pos 0)) is.fractions h;
  equal = are.each j (omega (arith, is.payments_count, h));
}

-- ---- the distance

module _ (t : PaidTrade) (p : Prices) (n : ℕ) (a : ℕ → ℤ) (is : IsPaidTrade t) (hp : 0 < p.den) (are : ArePaidOver t n a) where
  pub whole-gap : (b : ℕ) → b < length t.trees → IsOver (n * p.den) (gap_num t p n a b) (gap t p b)
  whole-gap b h =
      subst (λ z. IsOver (n * p.den) z (gap t p b)) (turned (a b *ℤ pos p.den) (cost_of p (own_units t b)) n)
      (gap-over t (record { den = 1; low = []; high = []; rows = [] }) p n a hp is.payments_count (paid-over t n a is are) b h)
    where
      turned : (u c : ℤ) (n : ℕ) → u +ℤ (neg_ℤ c *ℤ pos n) ≡ u -ℤ (pos n *ℤ c)
      turned u c n = omega (arith, ints, *ℤ_comm (neg_ℤ c) (pos n), times_neg (pos n) c)

  pub gap-distance : (g : ℤ) → IsGreatestGap t p n a g → IsDistance t p (over g (n * p.den))
  gap-distance g most =
      let d : ℕ = n * p.den in
      let hd : 0 < d = mul-pos are.positive hp in
      record {
        proper = hd;
        covers = λ b h.
            let one = whole-gap b h in
            let other = negated_over d (gap_num t p n a b) (gap t p b) one in (
              AtMost-left (over (gap_num t p n a b) d) (gap t p b) (over g d) hd (sym one.equal) (AtMost-num (gap_num t p n a b) g d (most.over b h)),
              AtMost-left (over (neg_ℤ (gap_num t p n a b)) d) (negation (gap t p b)) (over g d) hd (sym other.equal) (AtMost-num (neg_ℤ (gap_num t p n a b)) g d (most.under b h)),
            );
        least = λ e he covers.
            let (b, h, which) = most.attained in
            by e covers b h which;
      }
    where
      by : (e : Fraction) → Covers t p e → (b : ℕ) → b < length t.trees → (gap_num t p n a b ≡ g) ⊎ (neg_ℤ (gap_num t p n a b) ≡ g) → AtMost (over g (n * p.den)) e
      by e covers b h (inl same) =
          let one = whole-gap b h in
          subst (λ z. AtMost (over z (n * p.den)) e) same (AtMost-left (gap t p b) (over (gap_num t p n a b) (n * p.den)) e one.proper one.equal (covers b h).0)
      by e covers b h (inr same) =
          let other = negated_over (n * p.den) (gap_num t p n a b) (gap t p b) (whole-gap b h) in
          subst (λ z. AtMost (over z (n * p.den)) e) same (AtMost-left (negation (gap t p b)) (over (neg_ℤ (gap_num t p n a b)) (n * p.den)) e other.proper other.equal (covers b h).1)

-- an equal fraction is the distance too
distance-same : (t : PaidTrade) (p : Prices) (d e : Fraction) → IsFraction e → Equals d e → IsDistance t p d → IsDistance t p e
distance-same t p d e he same is = record {
  proper = he;
  covers = λ b h. (AtMost-right (gap t p b) d e is.proper same (is.covers b h).0, AtMost-right (negation (gap t p b)) d e is.proper same (is.covers b h).1);
  least = λ f hf covers. AtMost-left d e f is.proper same (is.least f hf covers);
}

pub greatest_gap_is_distance : GreatestGapIsDistance
greatest_gap_is_distance t p n a g d is hp are most hd =
    let own = gap-distance t p n a is hp are g most in (
      λ distance. Equals_from_AtMost d (over g (n * p.den)) (distance.least (over g (n * p.den)) own.proper own.covers) (own.least d hd distance.covers),
      λ same. distance-same t p (over g (n * p.den)) d hd (sym same) own,
    )

-- ---- the test

module _ (m n f d : ℕ) (h worth total x most least g : ℤ) (held : Fraction) (is : IsOver n h held) (hm : 0 < m) (hn : 0 < n) (hf : 0 < f) (same : Equals (over least f) (over g (n * m))) where
  abbrev rows : Fraction
  rows = minus (whole_number worth) (times (whole_number total) (over x m))

  abbrev all : Fraction
  all = minus (plus held rows) (whole_number most)

  abbrev now : Fraction
  now = minus (plus (over h n) rows) (whole_number most)

  proper-all : IsFraction all
  proper-all = mul-pos (mul-pos is.proper (mul-pos (omega arith) (mul-pos (omega arith) hm))) (omega arith)

  proper-now : IsFraction now
  proper-now = mul-pos (mul-pos hn (mul-pos (omega arith) (mul-pos (omega arith) hm))) (omega arith)

  alike : Equals all now
  alike = Equals-less (plus held rows) (whole_number most) (plus (over h n) rows) (whole_number most) (Equals-plus held rows (over h n) rows is.equal refl) refl

  left : (pos d *ℤ least) *ℤ pos ((n * (1 * (1 * m))) * 1) ≡ pos d *ℤ (least *ℤ pos (n * m))
  left = rw (is_diff least) (simp (diffs, diff_pos) (diff_same _ _ _ _ (omega arith)))

  turn : pos d *ℤ (g *ℤ pos f) ≡ pos f *ℤ (pos d *ℤ g)
  turn = rw (is_diff g) (simp (diffs, diff_pos) (diff_same _ _ _ _ (omega arith)))

  abbrev sides : ℤ
  sides = ((pos m *ℤ h) +ℤ (pos n *ℤ (pos m *ℤ worth))) -ℤ ((pos n *ℤ (pos m *ℤ most)) +ℤ (pos n *ℤ (x *ℤ total)))

  right : (((h *ℤ pos (1 * (1 * m))) +ℤ (((worth *ℤ pos (1 * m)) +ℤ (neg_ℤ (total *ℤ x) *ℤ pos 1)) *ℤ pos n)) *ℤ pos 1 +ℤ (neg_ℤ most *ℤ pos (n * (1 * (1 * m))))) *ℤ pos (1 * f) ≡ pos f *ℤ sides
  right = rw (is_diff h, is_diff worth, is_diff x, is_diff most, is_diff total) (simp (diffs, diff_pos) (diff_same _ _ _ _ (omega arith)))

  pub to-sides : Equals (times (whole_number (pos d)) (over least f)) all → pos d *ℤ g ≡ sides
  to-sides equal =
      let both : Equals (times (whole_number (pos d)) (over least f)) now = Equals-trans (times (whole_number (pos d)) (over least f)) all now proper-all equal alike in
      cancel_left f (pos d *ℤ g) sides hf (sym turn ∙ ap (λ z. pos d *ℤ z) (sym same) ∙ sym left ∙ both ∙ right)

  pub from-sides : pos d *ℤ g ≡ sides → Equals (times (whole_number (pos d)) (over least f)) all
  from-sides even =
      Equals-trans (times (whole_number (pos d)) (over least f)) now all proper-now
      (left ∙ ap (λ z. pos d *ℤ z) same ∙ turn ∙ ap (λ z. pos f *ℤ z) even ∙ sym right) (sym alike)

pub test_is_whole : TestIsWhole
test_is_whole t c p x n a g d is hp are hd same =
    let over-held = held-over t c n a are.positive is.payments_count (paid-over t n a is are) (length t.trees) (omega arith) in
    let most : ℤ = t.cap *ℤ demand t c in (
      λ passes.
          let e = to-sides p.den n d.den c.den (held_sum t c a) (rows_worth t c) (rows_weight c) x most d.num g (held_payments t c) over-held hp are.positive hd same passes.equal in
          omega (arith, ints, e),
      λ proper low high rows numbers even.
          record {
            proper = proper;
            low_count = low;
            high_count = high;
            rows = rows;
            numbers = numbers;
            equal = from-sides p.den n d.den c.den (held_sum t c a) (rows_worth t c) (rows_weight c) x most d.num g (held_payments t c) over-held hp are.positive hd same (omega (arith, ints, even));
          },
    )

-- ---- sizes

pub asked_is_low : AskedIsLow
asked_is_low t c = lows (λ g. held_units t c g +ℤ (pos 100 *ℤ row_units t c g)) t.goods
  where
    lows : (f : ℕ → ℤ) (k : ℕ) → pos 0 ≤ℤ sum_below (λ g. int_max (f g) (pos 0)) k
    lows f zero = omega (arith, ints)
    lows f (suc k) = omega (arith, ints, clamps, lows f k)

pub held_is_sized : HeldIsSized
held_is_sized t c f m low high sized =
    let both : ℕ → ℤ = λ b. pos (slice_index_or c.low b 0) +ℤ pos (slice_index_or c.high b 0) in
    let total = both-sum t c low high in
    let up = sum_below-le (λ b. held c b *ℤ f b) (λ b. pos m *ℤ both b) (length t.trees)
    (λ b h. (part (slice_index_or c.low b 0) (slice_index_or c.high b 0) (f b) (sized b h)).1) in
    let down = sum_below-le (λ b. neg_ℤ (pos m) *ℤ both b) (λ b. held c b *ℤ f b) (length t.trees)
    (λ b h. (part (slice_index_or c.low b 0) (slice_index_or c.high b 0) (f b) (sized b h)).0) in
    let first = sum_below-times (pos m) both (length t.trees) in
    let second = sum_below-times (neg_ℤ (pos m)) both (length t.trees) in
    let e = ap (λ z. pos m *ℤ z) total in
    let e2 = ap (λ z. neg_ℤ (pos m) *ℤ z) total in
    let turned : neg_ℤ (pos m) *ℤ pos (total_held c) ≡ neg_ℤ (pos m *ℤ pos (total_held c)) = *ℤ_comm (neg_ℤ (pos m)) (pos (total_held c)) ∙ times_neg (pos (total_held c)) (pos m) ∙ ap neg_ℤ (*ℤ_comm (pos (total_held c)) (pos m)) in
    record { low = omega (arith, ints, down, second, e2, turned); high = omega (arith, ints, up, first, e) }
  where
    part : (l h : ℕ) (z : ℤ) → IsSizedWithin m z → ((neg_ℤ (pos m) *ℤ (pos l +ℤ pos h)) ≤ℤ ((pos l -ℤ pos h) *ℤ z)) × (((pos l -ℤ pos h) *ℤ z) ≤ℤ (pos m *ℤ (pos l +ℤ pos h)))
    part l h z is =
        let split : (pos l -ℤ pos h) *ℤ z ≡ (pos l *ℤ z) -ℤ (pos h *ℤ z) = omega (arith, ints, *ℤ_comm (pos l -ℤ pos h) z, times_less z (pos l) (pos h), *ℤ_comm z (pos l), *ℤ_comm z (pos h)) in
        let join : pos m *ℤ (pos l +ℤ pos h) ≡ (pos l *ℤ pos m) +ℤ (pos h *ℤ pos m) = omega (arith, ints, times_add (pos m) (pos l) (pos h), *ℤ_comm (pos m) (pos l), *ℤ_comm (pos m) (pos h)) in
        let turned : neg_ℤ (pos m) *ℤ (pos l +ℤ pos h) ≡ neg_ℤ (pos m *ℤ (pos l +ℤ pos h)) =
        *ℤ_comm (neg_ℤ (pos m)) (pos l +ℤ pos h) ∙ times_neg (pos l +ℤ pos h) (pos m) ∙ ap neg_ℤ (*ℤ_comm (pos l +ℤ pos h) (pos m)) in
        let a = times-le l z (pos m) is.high in
        let b = times-le l (neg_ℤ (pos m)) z is.low in
        let d = times-le h z (pos m) is.high in
        let e = times-le h (neg_ℤ (pos m)) z is.low in (
          omega (arith, ints, split, join, turned, a, b, d, e, times_neg (pos l) (pos m), times_neg (pos h) (pos m)),
          omega (arith, ints, split, join, a, b, d, e, times_neg (pos l) (pos m), times_neg (pos h) (pos m)),
        )
