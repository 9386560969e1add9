-- What the held numbers say of prices: their payments less
-- their units' cost are at most the distance for each.
use Rattle.std.proofs.Common.{ℕ, zero, suc, ◌*◌, ◌<◌, ◌≤◌, ◌≡◌, List, [], ◌∷◌, length, slice_index_or, sum_by, ℤ, pos, neg_ℤ, ◌+ℤ◌, ◌-ℤ◌, ◌*ℤ◌, ◌≤ℤ◌, refl, arith, ap, sym, subst, ◌∙◌}
use Rattle.std.proofs.lemmas.Int.{ints}
use Rattle.std.proofs.lemmas.List.Sums.{sum_by-cons}
use Rattle.std.proofs.Math.Nat.{mul-pos}
use Rattle.std.proofs.Math.IntN.{*ℤ_comm}
use Rattle.ice_defs.specs.Sum.{sum_below}
use Rattle.ice_defs.specs.Fraction.{Fraction, whole_number, times, negation, fraction_at}
use Rattle.ice_defs.specs.Prices.{Prices, price_of, cost_of}
use Rattle.ice_defs.proofs.Sums.{sum_below-same, sum_below-le, sum_below-add, sum_below-less, sum_below-swap, sum_below-front}
use Rattle.ice_defs.proofs.Products.{sum_below-times, times-le, times_neg, times_add}
use Rattle.ice_defs.proofs.Multiples.{times_keep, times_less}
use Rattle.ice_frac.proofs.Ring.{is_diff, diff_same, diff_pos, diffs}
use Rattle.ice_pricing_laws.proofs.Dens.{IsOver, AreOver}
use Rattle.ice_pricing_laws.proofs.Dots.{plus-over, times-over, over-le}
use Rattle.ice_fair_laws.specs.Fair.{PaidTrade, FairCertificate, own_units, set_cost, gap, Covers, held, total_held, held_units, held_below}
use Rattle.ice_fair_laws.proofs.Overs.{own_over, less_over, negated_over}

-- ---- sums

-- a list's numbers one by one
pub numbers-sum : (ns : List ℕ) → sum_below (λ b. pos (slice_index_or ns b 0)) (length ns) ≡ pos (sum_by (λ n. n) ns)
numbers-sum [] = refl
numbers-sum (n ∷ ns) =
    omega (arith, ints, sum_below-front (λ b. pos (slice_index_or (n ∷ ns) b 0)) (length ns), numbers-sum ns, sum_by-cons (λ (k : ℕ). k) n ns)

module _ (t : PaidTrade) (c : FairCertificate) where
  abbrev count : ℕ
  count = length t.trees

  -- both numbers of a bidder
  abbrev both : ℕ → ℤ
  both b = pos (slice_index_or c.low b 0) +ℤ pos (slice_index_or c.high b 0)

  pub both-sum : length c.low ≡ count → length c.high ≡ count → sum_below both count ≡ pos (total_held c)
  both-sum low high =
      let first = subst (λ n. sum_below (λ b. pos (slice_index_or c.low b 0)) n ≡ pos (sum_by (λ n. n) c.low)) low (numbers-sum c.low) in
      let second = subst (λ n. sum_below (λ b. pos (slice_index_or c.high b 0)) n ≡ pos (sum_by (λ n. n) c.high)) high (numbers-sum c.high) in
      omega (arith, ints, sum_below-add (λ b. pos (slice_index_or c.low b 0)) (λ b. pos (slice_index_or c.high b 0)) count, first, second)

  -- ---- payments

  -- the held payments over a denominator of all
  pub held-over : (n : ℕ) (a : ℕ → ℤ) → 0 < n → length t.payments ≡ count → AreOver n a t.payments → (k : ℕ) → k ≤ count → IsOver n (sum_below (λ b. held c b *ℤ a b) k) (held_below t c k)
  held-over n a hn same are zero h = record { proper = omega arith; equal = omega (arith, ints) }
  held-over n a hn same are (suc k) h =
      plus-over n (sum_below (λ b. held c b *ℤ a b) k) (held c k *ℤ a k) (held_below t c k) (times (whole_number (held c k)) (fraction_at t.payments k)) hn
      (held-over n a hn same are k (omega (arith, h)))
      (times-over n (held c k) (a k) (fraction_at t.payments k) (are k (omega (arith, same, h))))

  -- ---- costs

  module _ (q : Prices) where
    -- what all held units cost
    pub held-cost : cost_of q (held_units t c) ≡ sum_below (λ b. held c b *ℤ cost_of q (own_units t b)) count
    held-cost =
        sum_below-same _ (λ g. sum_below (λ b. held c b *ℤ (price_of q g *ℤ own_units t b g)) count) (length q.nums)
        (λ g h. sym (sum_below-times (price_of q g) (λ b. held c b *ℤ own_units t b g) count) ∙ sum_below-same _ _ count (λ b l. swapped (price_of q g) (held c b) (own_units t b g)))
        ∙ sum_below-swap (λ g b. held c b *ℤ (price_of q g *ℤ own_units t b g)) (length q.nums) count
        ∙ sum_below-same _ (λ b. held c b *ℤ cost_of q (own_units t b)) count (λ b h. sum_below-times (held c b) (λ g. price_of q g *ℤ own_units t b g) (length q.nums))
      where
        swapped : (p h u : ℤ) → p *ℤ (h *ℤ u) ≡ h *ℤ (p *ℤ u)
        swapped p h u = rw (is_diff p, is_diff h, is_diff u) (simp diffs (diff_same _ _ _ _ (omega arith)))

    -- ---- distances

    -- a gap's numerator over both denominators
    abbrev gap_num : ℕ → (ℕ → ℤ) → ℕ → ℤ
    gap_num n a b = (a b *ℤ pos q.den) +ℤ (neg_ℤ (cost_of q (own_units t b)) *ℤ pos n)

    pub gap-over : (n : ℕ) (a : ℕ → ℤ) → 0 < q.den → length t.payments ≡ count → AreOver n a t.payments → (b : ℕ) → b < count → IsOver (n * q.den) (gap_num n a b) (gap t q b)
    gap-over n a hq same are b h = less_over n q.den (a b) (cost_of q (own_units t b)) (fraction_at t.payments b) (set_cost t q b) (are b (omega (arith, same, h))) (own_over (set_cost t q b) hq)

    -- times both numbers of a bidder
    gap-le : (n : ℕ) (a : ℕ → ℤ) (e : Fraction) → 0 < n → 0 < q.den → 0 < e.den → length t.payments ≡ count → AreOver n a t.payments → Covers t q e → (b : ℕ) → b < count
        → ((held c b *ℤ (gap_num n a b *ℤ pos e.den)) ≤ℤ (both b *ℤ (e.num *ℤ pos (n * q.den)))) × (pos 0 ≤ℤ (e.num *ℤ pos (n * q.den)))
    gap-le n a e hn hq he same are covers b h =
        let is = gap-over n a hq same are b h in
        let g : ℤ = gap_num n a b in
        let most : ℤ = e.num *ℤ pos (n * q.den) in
        let over : (g *ℤ pos e.den) ≤ℤ most = over-le (n * q.den) e.den g e.num (gap t q b) e (mul-pos hn hq) is (own_over e he) (covers b h).0 in
        let under : (neg_ℤ g *ℤ pos e.den) ≤ℤ most = over-le (n * q.den) e.den (neg_ℤ g) e.num (negation (gap t q b)) e (mul-pos hn hq) (negated_over (n * q.den) g (gap t q b) is) (own_over e he) (covers b h).1 in
        let low : ℕ = slice_index_or c.low b 0 in
        let high : ℕ = slice_index_or c.high b 0 in
        let turned : neg_ℤ g *ℤ pos e.den ≡ neg_ℤ (g *ℤ pos e.den) = turn g e.den in (
          omega (
            arith,
            ints,
            times-le low (g *ℤ pos e.den) most over,
            times-le high (neg_ℤ g *ℤ pos e.den) most under,
            split low high (g *ℤ pos e.den) (neg_ℤ g *ℤ pos e.den) turned,
            join low high most,
          ),
          omega (arith, ints, over, under, turned),
        )
      where
        turn : (g : ℤ) (d : ℕ) → neg_ℤ g *ℤ pos d ≡ neg_ℤ (g *ℤ pos d)
        turn g d = rw (is_diff g) (simp (diffs, diff_pos) (diff_same _ _ _ _ (omega arith)))

        split : (l h : ℕ) (u v : ℤ) → v ≡ neg_ℤ u → (pos l -ℤ pos h) *ℤ u ≡ (pos l *ℤ u) +ℤ (pos h *ℤ v)
        split l h u v e =
            omega (
              arith,
              ints,
              *ℤ_comm (pos l -ℤ pos h) u,
              times_less u (pos l) (pos h),
              *ℤ_comm u (pos l),
              *ℤ_comm u (pos h),
              ap (λ w. pos h *ℤ w) e,
              times_neg (pos h) u,
            )

        join : (l h : ℕ) (m : ℤ) → (pos l +ℤ pos h) *ℤ m ≡ (pos l *ℤ m) +ℤ (pos h *ℤ m)
        join l h m =
            omega (
              arith,
              ints,
              *ℤ_comm (pos l +ℤ pos h) m,
              times_add m (pos l) (pos h),
              *ℤ_comm m (pos l),
              *ℤ_comm m (pos h),
            )

    -- all together: the held payments less what their units cost are
    -- at most the distance for each part of the denominator
    pub held-most : (n : ℕ) (a : ℕ → ℤ) (e : Fraction) → 0 < n → 0 < q.den → 0 < e.den → 0 < count → length t.payments ≡ count → AreOver n a t.payments
        → length c.low ≡ count → length c.high ≡ count → total_held c ≤ c.den → Covers t q e
        → (pos e.den *ℤ ((pos q.den *ℤ sum_below (λ b. held c b *ℤ a b) count) -ℤ (pos n *ℤ cost_of q (held_units t c)))) ≤ℤ (pos c.den *ℤ (e.num *ℤ pos (n * q.den)))
    held-most n a e hn hq he some same are low high few covers =
        let most : ℤ = e.num *ℤ pos (n * q.den) in
        let each = sum_below-le (λ b. held c b *ℤ (gap_num n a b *ℤ pos e.den)) (λ b. both b *ℤ most) count (λ b h. (gap-le n a e hn hq he same are covers b h).0) in
        let low0 : pos 0 ≤ℤ most = (gap-le n a e hn hq he same are covers 0 some).1 in
        let paid : ℕ → ℤ = λ b. held c b *ℤ a b in
        let costs : ℕ → ℤ = λ b. held c b *ℤ cost_of q (own_units t b) in
        let left : sum_below (λ b. held c b *ℤ (gap_num n a b *ℤ pos e.den)) count ≡ pos e.den *ℤ ((pos q.den *ℤ sum_below paid count) -ℤ (pos n *ℤ sum_below costs count)) =
        sum_below-same _ (λ b. pos e.den *ℤ ((pos q.den *ℤ paid b) -ℤ (pos n *ℤ costs b))) count (λ b h. term (held c b) (a b) (cost_of q (own_units t b)) q.den n e.den)
        ∙ sum_below-times (pos e.den) (λ b. (pos q.den *ℤ paid b) -ℤ (pos n *ℤ costs b)) count
        ∙ ap (λ z. pos e.den *ℤ z)
        (sum_below-less (λ b. pos q.den *ℤ paid b) (λ b. pos n *ℤ costs b) count
        ∙ ap (λ z. z -ℤ sum_below (λ b. pos n *ℤ costs b) count) (sum_below-times (pos q.den) paid count)
        ∙ ap (λ z. (pos q.den *ℤ sum_below paid count) -ℤ z) (sum_below-times (pos n) costs count)) in
        let right : sum_below (λ b. both b *ℤ most) count ≡ most *ℤ pos (total_held c) =
        sum_below-same _ (λ b. most *ℤ both b) count (λ b h. *ℤ_comm (both b) most) ∙ sum_below-times most both count ∙ ap (λ z. most *ℤ z) (both-sum low high) in
        let kept : (most *ℤ pos (total_held c)) ≤ℤ (most *ℤ pos c.den) = times_keep most (pos (total_held c)) (pos c.den) low0 (omega (arith, ints, few)) in
        let cost = ap (λ z. pos e.den *ℤ ((pos q.den *ℤ sum_below paid count) -ℤ (pos n *ℤ z))) held-cost in
        omega (arith, ints, each, left, right, kept, cost, *ℤ_comm most (pos c.den))
      where
        term : (h a c : ℤ) (k n d : ℕ) → h *ℤ (((a *ℤ pos k) +ℤ (neg_ℤ c *ℤ pos n)) *ℤ pos d) ≡ pos d *ℤ ((pos k *ℤ (h *ℤ a)) -ℤ (pos n *ℤ (h *ℤ c)))
        term h a c k n d = rw (is_diff h, is_diff a, is_diff c) (simp (diffs, diff_pos) (diff_same _ _ _ _ (omega arith)))
