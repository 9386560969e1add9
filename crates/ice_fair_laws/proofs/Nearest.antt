-- What the fairness test shows.
use Rattle.std.proofs.Common.{ℕ, ◌*◌, ◌<◌, ◌≡◌, length, ℤ, pos, neg_ℤ, ◌+ℤ◌, ◌*ℤ◌, ◌≤ℤ◌, refl, arith, ap, subst, ◌∙◌}
use Rattle.std.specs.Int.{int_max}
use Rattle.std.proofs.lemmas.Int.{ints}
use Rattle.std.proofs.lemmas.Nat.Gcd.{dvd_refl}
use Rattle.std.proofs.Math.Nat.{mul-pos}
use Rattle.ice_defs.specs.Sum.{sum_below}
use Rattle.ice_defs.specs.Fraction.{Fraction, whole_number, IsFraction, Equals, plus, minus, times, fraction_at}
use Rattle.ice_defs.specs.Prices.{Prices, cost_of, ArePrices}
use Rattle.ice_defs.specs.Rows.{weighted_sum, worth_above}
use Rattle.ice_defs.specs.PricingRun.{common_den, num_over}
use Rattle.ice_frac.proofs.Ring.{is_diff, diff_same, diff_pos, diffs}
use Rattle.ice_frac.proofs.Fractions.{Equals-plus, Equals-less, Equals-trans}
use Rattle.ice_row_laws.proofs.Accurate.{tests_give_accurate}
use Rattle.ice_row_laws.proofs.Costs.{cost_of-add, cost_of-times, cost_of-le}
use Rattle.ice_row_laws.proofs.Priced.{rows-le}
use Rattle.ice_row_laws.proofs.Weighted.{total_weight, weighted_sum-ones}
use Rattle.ice_pricing_laws.proofs.Dens.{IsOver, common_den-pos, are_over}
use Rattle.ice_fair_laws.specs.Fair.{PaidTrade, FairCertificate, held, held_units, row_units, demand, held_payments}
use Rattle.ice_fair_laws.specs.Laws.{TestGivesLeast, TestGivesFair}
use Rattle.ice_fair_laws.proofs.Linear.{rest_of, nearest-le}
use Rattle.ice_fair_laws.proofs.Overs.{over}
use Rattle.ice_fair_laws.proofs.Held.{held-over, held-most}

-- the test's equality over whole numbers
pub test-whole : (m n f d total : ℕ) (h worth x most least : ℤ) (held : Fraction) → IsOver n h held → 0 < m → 0 < n
    → Equals (times (whole_number (pos d)) (over least f)) (minus (plus held (minus (whole_number worth) (times (whole_number (pos total)) (over x m)))) (whole_number most))
    → pos d *ℤ (least *ℤ pos (n * m)) ≡ pos f *ℤ ((pos m *ℤ h) +ℤ (pos n *ℤ rest_of m total worth x most))
test-whole m n f d total h worth x most least held is hm hn equal =
    let rows : Fraction = minus (whole_number worth) (times (whole_number (pos total)) (over x m)) in
    let all : Fraction = minus (plus held rows) (whole_number most) in
    let now : Fraction = minus (plus (over h n) rows) (whole_number most) in
    let same : Equals all now = Equals-less (plus held rows) (whole_number most) (plus (over h n) rows) (whole_number most) (Equals-plus held rows (over h n) rows is.equal refl) refl in
    let proper : IsFraction all = mul-pos (mul-pos is.proper (mul-pos (omega arith) (mul-pos (omega arith) hm))) (omega arith) in
    let both : Equals (times (whole_number (pos d)) (over least f)) now = Equals-trans (times (whole_number (pos d)) (over least f)) all now proper equal same in
    left ∙ both ∙ right
  where
    left : pos d *ℤ (least *ℤ pos (n * m)) ≡ (pos d *ℤ least) *ℤ pos ((n * (1 * (1 * m))) * 1)
    left = rw (is_diff least) (simp (diffs, diff_pos) (diff_same _ _ _ _ (omega arith)))

    right : (((h *ℤ pos (1 * (1 * m))) +ℤ (((worth *ℤ pos (1 * m)) +ℤ (neg_ℤ (pos total *ℤ x) *ℤ pos 1)) *ℤ pos n)) *ℤ pos 1 +ℤ (neg_ℤ most *ℤ pos (n * (1 * (1 * m))))) *ℤ pos (1 * f)
        ≡ pos f *ℤ ((pos m *ℤ h) +ℤ (pos n *ℤ rest_of m total worth x most))
    right = rw (is_diff h, is_diff worth, is_diff x, is_diff most) (simp (diffs, diff_pos) (diff_same _ _ _ _ (omega arith)))

module _ (t : PaidTrade) (c : FairCertificate) where
  -- what all units cost at prices within the cap is at most what is asked for at the cap
  pub asked-le : (q : Prices) → ArePrices t.goods t.cap q → (cost_of q (held_units t c) +ℤ (pos 100 *ℤ cost_of q (row_units t c))) ≤ℤ (pos q.den *ℤ (t.cap *ℤ demand t c))
  asked-le q within =
      let all : ℕ → ℤ = λ g. held_units t c g +ℤ (pos 100 *ℤ row_units t c g) in
      let top : ℤ = t.cap *ℤ pos q.den in
      let most = cost_of-le q top all (λ g h. within.low g (omega (arith, within.same_length, h))) (λ g h. within.high g (omega (arith, within.same_length, h))) in
      omega (
        arith,
        ints,
        most,
        ap (λ n. top *ℤ sum_below (λ g. int_max (all g) (pos 0)) n) within.same_length,
        cost_of-add q (held_units t c) (λ g. pos 100 *ℤ row_units t c g),
        cost_of-times q 100 (row_units t c),
        turned t.cap (demand t c) q.den,
      )
    where
      turned : (cap a : ℤ) (k : ℕ) → (cap *ℤ pos k) *ℤ a ≡ pos k *ℤ (cap *ℤ a)
      turned cap a k = rw (is_diff cap, is_diff a) (simp (diffs, diff_pos) (diff_same _ _ _ _ (omega arith)))

pub test_gives_least : TestGivesLeast
test_gives_least t p x d c is within violation proper passes q e accurate he covers =
    let (y, other, smallest) = accurate.least in
    let ((b, s), (there, _), _) = violation.attained in
    let n : ℕ = common_den t.payments in
    let a : ℕ → ℤ = λ j. num_over n (fraction_at t.payments j) in
    let hn : 0 < n = common_den-pos t.payments is.fractions in
    let are = are_over n t.payments is.fractions (dvd_refl n) in
    let paid : ℤ = sum_below (λ b. held c b *ℤ a b) (length t.trees) in
    let total : ℕ = total_weight c.rows in
    let worth : ℤ = weighted_sum (worth_above t.trees t.weights t.sets) c.rows in
    let ones : weighted_sum (λ row. pos 1) c.rows ≡ pos total = weighted_sum-ones c.rows in
    let same : Equals (times (whole_number (pos c.den)) (over d.num d.den)) (minus (plus (held_payments t c) (minus (whole_number worth) (times (whole_number (pos total)) (over x p.den)))) (whole_number (t.cap *ℤ demand t c))) =
    subst (λ z. Equals (times (whole_number (pos c.den)) d) (minus (plus (held_payments t c) (minus (whole_number worth) (times (whole_number z) (over x p.den)))) (whole_number (t.cap *ℤ demand t c)))) ones passes.equal in
    nearest-le p.den q.den n e.den d.den c.den total paid (cost_of q (held_units t c)) worth (cost_of q (row_units t c)) (t.cap *ℤ demand t c) x y d.num e.num
    within.positive accurate.within.positive hn passes.proper
    (held-most t c q n a e hn accurate.within.positive he (omega (arith, there)) is.payments_count are passes.low_count passes.high_count passes.numbers covers)
    (rows-le t.trees t.weights t.sets q y other c.rows passes.rows)
    (asked-le t c q accurate.within)
    (smallest p x within violation)
    (test-whole p.den n d.den c.den total paid worth x (t.cap *ℤ demand t c) d.num (held_payments t c) (held-over t c n a hn is.payments_count are (length t.trees) (omega arith)) within.positive hn same)

pub test_gives_fair : TestGivesFair
test_gives_fair t p x d accuracy c is within violation distance accurate passes = record {
  accurate = tests_give_accurate t.trees t.weights t.sets t.goods t.cap p x accuracy is.satisfied within violation accurate;
  nearest = (d, distance, λ q e same other. test_gives_least t p x d c is within violation distance.proper passes q e same other.proper other.covers);
}
