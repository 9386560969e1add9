-- The last settlement of a session is shown, and may be written.
use Rattle.std.proofs.Common.{◌≡◌, ◌≤◌, ◌<◌, ◌+◌, ◌^◌, ℕ, zero, suc, List, [], ◌∷◌, length, map, get_or, ℤ, pos, neg_ℤ, ◌-ℤ◌, ◌≤ℤ◌, arith, refl, sym, subst, ◌∙◌, ap}
use Rattle.std.specs.Prelude.{IsTrue, unsigned_abs, All, slice_index_or}
use Rattle.std.specs.List.{AllByRecursion, Any}
use Rattle.std.specs.Int.{IsGcd}
use Rattle.std.proofs.lemmas.Int.{ints}
use Rattle.std.proofs.lemmas.List.{length-map}
use Rattle.std.proofs.lemmas.List.Elements.{All-head, All-tail}
use Rattle.ice_defs.specs.Name.{is_name}
use Rattle.ice_defs.specs.Weighing.{lower_weights}
use Rattle.ice_defs.specs.declared.Group.TheVariants.{Without}
use Rattle.ice_defs.specs.Group.{empty_sets}
use Rattle.ice_defs.specs.Fraction.{Fraction, whole_number, IsFraction, Equals, AtMost, minus, sum_of, fraction_at}
use Rattle.ice_defs.specs.Cut.{IsCut, discount_at_cut, cut_sum}
use Rattle.ice_defs.specs.Exchange.{Exchange, trees_of, exact_of, names_of}
use Rattle.ice_defs.specs.Lawful.{IsExchange}
use Rattle.ice_defs.specs.Session.{Proved, Payment, Closed}
use Rattle.ice_headline_laws.specs.Right as right
use Rattle.ice_frac.proofs.Fractions.{Equals-trans, Equals-less, proper_sum, proper_less}
use Rattle.ice_frac.proofs.Gcd.{IsGcd-gcd}
use Rattle.ice_headline_laws.proofs.OwnValues.{own_count, own_at}
use Rattle.ice_threshold.specs.CutOff.{AreCutDown}
use Rattle.ice_threshold.specs.Laws.{PassesCut}
use Rattle.ice_threshold.specs.Limits.{IsShort}
use Rattle.ice_threshold.proofs.CutTest.{least_passes}
use Rattle.ice_threshold.proofs.OneCut.{AreCutDown-length, AreCutDown-at, AreCutDown-sum}
use Rattle.ice_defs.specs.Conditions.{AreBoundsOf, AreWeightsOf}
use Rattle.ice_bound.proofs.Modest.{lower_modest}
use Rattle.ice_trade.proofs.Weighted.{length-trees, length-names}
use Rattle.ice_journal.specs.Ranges.{IsFractionField}
use Rattle.ice_vickrey.specs.Economy.{Economy}
use Rattle.ice_vickrey.specs.Marginals.{proved_without, AreMarginalsFrom}
use Rattle.ice_vickrey.specs.declared.marginal.Marginal.{Marginal}
use Rattle.ice_journal_laws.specs.Tests.{IsThresholdLine}
use Rattle.ice_journal_laws.specs.ShowingSession.{AreShownWithout, vickreys_by, worth_of, AreShownPayments, IsShownClosed}
use Rattle.ice_round.specs.SessionAt.{SessionAt}
use Rattle.ice_round.specs.Searches.{economy_of}
use Rattle.ice_settled.specs.Shown.{discounts_of, payments_of, closed_of}
use Rattle.ice_round.specs.Shown.{IsClosing}
use Rattle.ice_settled.specs.declared.settled.Closing.{Closing}
use Rattle.ice_round.proofs.Settlements.{final_rich}
use Rattle.ice_write_session.specs.Writable.{IsWritable, AreWritableWithout, IsWritablePayment, IsWritableClosing}
use Rattle.ice_session_laws.proofs.Worth.{worth_is_total}
use Rattle.ice_session_laws.proofs.Found.{found_shown, found_worth, found_writable}
use Rattle.ice_session_laws.proofs.Settling.{settlement_shown, settlement_may_be_written}

-- ---- the groups without each bidder

module _ (s : SessionAt) (lawful : IsExchange s.exchange) (are : AreBoundsOf (trees_of s.exchange) s.bounds) (total : ℤ) where
  abbrev economy : Economy
  economy = record { exchange = s.exchange; bounds = s.bounds; total = total }

  lower_are : AreWeightsOf (trees_of s.exchange) (lower_weights s.bounds)
  lower_are = lower_modest (trees_of s.exchange) s.bounds are

  pub withouts_shown : (b : ℕ) (ms : List Marginal) → AreMarginalsFrom (record { exchange = s.exchange; bounds = s.bounds; total = total }) b ms
      → AreShownWithout (trees_of s.exchange) (exact_of s.exchange) (lower_weights s.bounds) b (map proved_without ms)
  withouts_shown b [] marginals = tt
  withouts_shown b (m ∷ ms) (one, later) = (
    found_shown s.exchange lawful (lower_weights s.bounds) lower_are (empty_sets (trees_of s.exchange)) (Without b) (proved_without m) one.found one.written one.left_out,
    withouts_shown (suc b) ms later,
  )

  each_writable : (b : ℕ) (ms : List Marginal) → AreMarginalsFrom (record { exchange = s.exchange; bounds = s.bounds; total = total }) b ms → AllByRecursion (λ m. IsWritable (length (exact_of s.exchange)) (proved_without m)) ms
  each_writable b [] marginals = tt
  each_writable b (m ∷ ms) (one, later) = (
    record {
      value = worth_is_total m.without (found_worth s.exchange lawful (lower_weights s.bounds) lower_are (empty_sets (trees_of s.exchange)) (Without b) (proved_without m) one.found one.written);
      group = found_writable s.exchange lawful (lower_weights s.bounds) lower_are (empty_sets (trees_of s.exchange)) (Without b) (proved_without m) one.found one.written;
    },
    each_writable (suc b) ms later,
  )

  pub withouts_may_be_written : (ms : List Marginal) → length ms ≤ length (trees_of s.exchange) → AreMarginalsFrom (record { exchange = s.exchange; bounds = s.bounds; total = total }) 0 ms
      → AreWritableWithout (length (exact_of s.exchange)) ms
  withouts_may_be_written ms few marginals = record { few = omega (arith, few, length-trees s.exchange, lawful.bidders_count.1); each = each_writable 0 ms marginals }

  -- ---- the Vickrey discounts

  discounts_are : (b : ℕ) (ms : List Marginal) → AreMarginalsFrom (record { exchange = s.exchange; bounds = s.bounds; total = total }) b ms → vickreys_by total (map proved_without ms) ≡ map (λ m. m.discount) ms
  discounts_are b [] marginals = refl
  discounts_are b (m ∷ ms) (one, later) =
      ap (λ (d : ℤ). d ∷ vickreys_by total (map proved_without ms)) (sym one.difference) ∙ ap (λ (ds : List ℤ). m.discount ∷ ds) (discounts_are (suc b) ms later)

  discounts_low : (b : ℕ) (ms : List Marginal) → AreMarginalsFrom (record { exchange = s.exchange; bounds = s.bounds; total = total }) b ms → AllByRecursion (λ v. pos 0 ≤ℤ v) (map (λ m. m.discount) ms)
  discounts_low b [] marginals = tt
  discounts_low b (m ∷ ms) (one, later) = (one.low, discounts_low (suc b) ms later)

-- ---- the threshold

at_place : (P : ℤ → Type 0) (vs : List ℤ) (i : ℕ) → i < length vs → P (slice_index_or vs i (pos 0)) → Any P vs
at_place P [] i l h = absurd (omega (arith, l))
at_place P (v ∷ vs) zero l h = (0, v, omega arith, refl, h)
at_place P (v ∷ vs) (suc i) l h = let (k, x, there, e, is) = at_place P vs i (omega (arith, l)) h in (suc k, x, omega (arith, there), e, is)

threshold_line : (vs : List ℤ) (total : ℤ) (cut surplus : Fraction) (ds : List Fraction) → 0 < length vs → AllByRecursion (λ v. pos 0 ≤ℤ v) vs → pos 0 ≤ℤ total → IsCut vs total cut → AreCutDown cut ds vs
    → Equals surplus (minus (whole_number total) (sum_of ds)) → IsThresholdLine vs total (record { cut = cut; surplus = surplus })
threshold_line vs total cut surplus ds some low rich is down rest =
    let passes : PassesCut vs total cut = least_passes vs total cut some low rich is in
    let proper : IsFraction (sum_of ds) = proper_sum ds (λ i l. (AreCutDown-at cut ds vs down i (omega (arith, l, AreCutDown-length cut ds vs down))).proper) in
    record {
      low = passes.payable.low;
      high = at_place (λ v. AtMost cut (whole_number v)) vs passes.place passes.within passes.high;
      paid = passes.payable.paid;
      spent = passes.spent;
      rest = Equals-trans surplus (minus (whole_number total) (sum_of ds)) (minus (whole_number total) (cut_sum cut vs)) (proper_less total (sum_of ds) proper) rest
          (Equals-less (whole_number total) (sum_of ds) (whole_number total) (cut_sum cut vs) refl (AreCutDown-sum cut ds vs down));
    }

-- ---- the payments

payments_shown : (names : List (List ℕ)) (vs : List ℤ) (worth : ℕ → ℤ) (cut : Fraction) (b : ℕ) (qs : List Payment)
    → ((i : ℕ) → i < length qs → get_or (map (λ (q : Payment). q.name) qs) i [] ≡ get_or names (b + i) [])
    → ((i : ℕ) → i < length qs → get_or (map (λ (q : Payment). q.vickrey) qs) i (pos 0) ≡ get_or vs (b + i) (pos 0))
    → ((i : ℕ) → i < length qs → Equals (fraction_at (map (λ (q : Payment). q.discount) qs) i) (discount_at_cut cut (get_or vs (b + i) (pos 0))))
    → ((i : ℕ) → i < length qs → Equals (fraction_at (map (λ (q : Payment). q.payment) qs) i) (minus (whole_number (worth (b + i))) (fraction_at (map (λ (q : Payment). q.discount) qs) i)))
    → AreShownPayments names vs worth cut b qs
payments_shown names vs worth cut b [] name vickrey discount payment = tt
payments_shown names vs worth cut b (q ∷ qs) name vickrey discount payment =
    let here : b + 0 ≡ b = omega arith in
    let next : (i : ℕ) → b + suc i ≡ suc b + i = λ i. omega arith in (
      subst (λ (k : ℕ). q.name ≡ get_or names k []) here (name 0 (omega arith)),
      record {
        vickrey_is = subst (λ (k : ℕ). q.vickrey ≡ get_or vs k (pos 0)) here (vickrey 0 (omega arith));
        discount = subst (λ (k : ℕ). Equals q.discount (discount_at_cut cut (get_or vs k (pos 0)))) here (discount 0 (omega arith));
        payment = subst (λ (k : ℕ). Equals q.payment (minus (whole_number (worth k)) q.discount)) here (payment 0 (omega arith));
      },
      payments_shown names vs worth cut (suc b) qs
          (λ i l. subst (λ (k : ℕ). get_or (map (λ (x : Payment). x.name) qs) i [] ≡ get_or names k []) (next i) (name (suc i) (omega (arith, l))))
          (λ i l. subst (λ (k : ℕ). get_or (map (λ (x : Payment). x.vickrey) qs) i (pos 0) ≡ get_or vs k (pos 0)) (next i) (vickrey (suc i) (omega (arith, l))))
          (λ i l. subst (λ (k : ℕ). Equals (fraction_at (map (λ (x : Payment). x.discount) qs) i) (discount_at_cut cut (get_or vs k (pos 0)))) (next i) (discount (suc i) (omega (arith, l))))
          (λ i l. subst (λ (k : ℕ). Equals (fraction_at (map (λ (x : Payment). x.payment) qs) i) (minus (whole_number (worth k)) (fraction_at (map (λ (x : Payment). x.discount) qs) i))) (next i) (payment (suc i) (omega (arith, l)))),
    )

-- where there is a payment for each name, their discounts are those that were given
discounts_in : (names : List (List ℕ)) (vs : List ℤ) (ds ps : List Fraction) → length (payments_of names vs ds ps) ≡ length names → length ds ≡ length names → map (λ (q : Payment). q.discount) (payments_of names vs ds ps) ≡ ds
discounts_in [] vs [] ps count same = refl
discounts_in [] vs (d ∷ ds) ps count same = absurd (omega (arith, same))
discounts_in (name ∷ names) [] ds ps count same = absurd (omega (arith, count))
discounts_in (name ∷ names) (v ∷ vs) [] ps count same = absurd (omega (arith, same))
discounts_in (name ∷ names) (v ∷ vs) (d ∷ ds) [] count same = absurd (omega (arith, count))
discounts_in (name ∷ names) (v ∷ vs) (d ∷ ds) (p ∷ ps) count same = ap (λ (xs : List Fraction). d ∷ xs) (discounts_in names vs ds ps (omega (arith, count)) (omega (arith, same)))

-- ---- ranges

short_field : (f : Fraction) → IsShort f → IsFractionField f
short_field f is = record {
  num = between f.num (10 ^ 18) is.num_small;
  den = (is.lowest.positive, omega (arith, is.den_small));
  lowest = subst (IsGcd (unsigned_abs f.num) f.den) is.lowest.coprime (IsGcd-gcd (unsigned_abs f.num) f.den);
}
  where
    between : (z : ℤ) (k : ℕ) → unsigned_abs z ≤ k → (neg_ℤ (pos k) ≤ℤ z) × (z ≤ℤ pos k)
    between z k small = (grind (arith, ints), grind (arith, ints))

payments_may_be_written : (e : Economy) (b : ℕ) (names : List (List ℕ)) (ms : List Marginal) (ds ps : List Fraction) → AllByRecursion (λ name. IsTrue (is_name name)) names → AreMarginalsFrom e b ms → All IsShort ds → All IsShort ps
    → AllByRecursion IsWritablePayment (payments_of names (discounts_of ms) ds ps)
payments_may_be_written e b [] ms ds ps named are short paid = tt
payments_may_be_written e b (name ∷ names) [] ds ps named are short paid = tt
payments_may_be_written e b (name ∷ names) (m ∷ ms) [] ps named are short paid = tt
payments_may_be_written e b (name ∷ names) (m ∷ ms) (d ∷ ds) [] named are short paid = tt
payments_may_be_written e b (name ∷ names) (m ∷ ms) (d ∷ ds) (p ∷ ps) (is, named) (one, are) short paid =
    let high = one.high in (
      (is, (one.low, omega (arith, ints, high)), short_field d (All-head IsShort d ds short), short_field p (All-head IsShort p ps paid)),
      payments_may_be_written e (suc b) names ms ds ps named are (All-tail IsShort d ds short) (All-tail IsShort p ps paid),
    )

-- ---- the last settlement

module _ (s : SessionAt) (lawful : IsExchange s.exchange) (are : AreBoundsOf (trees_of s.exchange) s.bounds) (c : Closing) (is : IsClosing s c) where
  abbrev Said : Closed
  Said = closed_of s.exchange c

  vickreys_are : vickreys_by c.best.value (map proved_without c.marginals.items) ≡ map (λ m. m.discount) c.marginals.items
  vickreys_are = discounts_are s lawful are c.best.value 0 c.marginals.items is.marginals.each

  -- the discounts of the payments are those by the values without each bidder
  payments_by : right.vickreys_of (closed_of s.exchange c) ≡ map (λ m. m.discount) c.marginals.items
  payments_by = is.closed.vickreys ∙ fused (map proved_without c.marginals.items) ∙ vickreys_are
    where
      fused : (ps : List Proved) → map (λ (p : Proved). c.best.value -ℤ p.value) ps ≡ vickreys_by c.best.value ps
      fused [] = refl
      fused (p ∷ ps) = ap (λ (vs : List ℤ). (c.best.value -ℤ p.value) ∷ vs) (fused ps)

  payments_count : length (closed_of s.exchange c).payments ≡ length s.exchange.bidders
  payments_count = sym (length-map (closed_of s.exchange c).payments (λ (q : Payment). q.name)) ∙ ap length is.closed.names ∙ length-names s.exchange

  count_is : length (map (λ (m : Marginal). m.discount) c.marginals.items) ≡ length s.exchange.bidders
  count_is = length-map c.marginals.items (λ (m : Marginal). m.discount) ∙ is.marginals.count ∙ length-trees s.exchange

  given_discounts : right.discounts_of (closed_of s.exchange c) ≡ c.payments.discounts.items
  given_discounts =
      discounts_in (names_of s.exchange) (discounts_of c.marginals.items) c.payments.discounts.items c.payments.payments.items (payments_count ∙ sym (length-names s.exchange))
      (AreCutDown-length c.payments.cut c.payments.discounts.items (map (λ m. m.discount) c.marginals.items) is.cut_down ∙ count_is ∙ sym (length-names s.exchange))

  cut_is : IsCut (map (λ m. m.discount) c.marginals.items) c.best.value c.payments.cut
  cut_is = subst (λ (vs : List ℤ). IsCut vs c.best.value c.payments.cut) payments_by is.closed.cut

  some : 0 < length (map (λ (m : Marginal). m.discount) c.marginals.items)
  some = omega (arith, count_is, lawful.bidders_count.0)

  threshold_is : IsThresholdLine (vickreys_by c.best.value (map proved_without c.marginals.items)) c.best.value (record { cut = c.payments.cut; surplus = c.payments.surplus })
  threshold_is =
      subst (λ (vs : List ℤ). IsThresholdLine vs c.best.value (record { cut = c.payments.cut; surplus = c.payments.surplus })) (sym vickreys_are)
      (threshold_line (map (λ m. m.discount) c.marginals.items) c.best.value c.payments.cut c.payments.surplus c.payments.discounts.items some
      (discounts_low s lawful are c.best.value 0 c.marginals.items is.marginals.each) (final_rich s c.best is.settlement.final) cut_is is.cut_down
      (subst (λ (ds : List Fraction). Equals c.payments.surplus (minus (whole_number c.best.value) (sum_of ds))) given_discounts is.closed.surplus.1))

  bidders_same : length s.bounds ≡ length s.exchange.bidders
  bidders_same = are.same_length ∙ length-trees s.exchange

  payments_are : AreShownPayments (names_of s.exchange) (vickreys_by c.best.value (map proved_without c.marginals.items)) (worth_of s.bounds c.best.best) c.payments.cut 0 (closed_of s.exchange c).payments
  payments_are =
      subst (λ (vs : List ℤ). AreShownPayments (names_of s.exchange) vs (worth_of s.bounds c.best.best) c.payments.cut 0 (closed_of s.exchange c).payments) (sym vickreys_are)
      (payments_shown (names_of s.exchange) (map (λ m. m.discount) c.marginals.items) (worth_of s.bounds c.best.best) c.payments.cut 0 (closed_of s.exchange c).payments
      (λ i l. ap (λ (ns : List (List ℕ)). get_or ns i []) is.closed.names ∙ ap (λ (k : ℕ). get_or (names_of s.exchange) k []) (at i))
      (λ i l. ap (λ (vs : List ℤ). get_or vs i (pos 0)) payments_by ∙ ap (λ (k : ℕ). get_or (map (λ (m : Marginal). m.discount) c.marginals.items) k (pos 0)) (at i))
      (λ i l. subst (λ (k : ℕ). Equals (fraction_at (right.discounts_of (closed_of s.exchange c)) i) (discount_at_cut c.payments.cut (get_or (map (λ (m : Marginal). m.discount) c.marginals.items) k (pos 0)))) (at i)
      (subst (λ (ds : List Fraction). Equals (fraction_at ds i) (discount_at_cut c.payments.cut (get_or (map (λ (m : Marginal). m.discount) c.marginals.items) i (pos 0)))) (sym given_discounts)
      (AreCutDown-at c.payments.cut c.payments.discounts.items (map (λ m. m.discount) c.marginals.items) is.cut_down i (omega (arith, l, payments_count, count_is))).equal))
      (λ i l. let there : i < length s.bounds = omega (arith, l, payments_count, bidders_same) in
      subst (λ (k : ℕ). Equals (fraction_at (right.payments_of (closed_of s.exchange c)) i) (minus (whole_number (worth_of s.bounds c.best.best k)) (fraction_at (right.discounts_of (closed_of s.exchange c)) i))) (at i)
      (subst (λ (z : ℤ). Equals (fraction_at (right.payments_of (closed_of s.exchange c)) i) (minus (whole_number z) (fraction_at (right.discounts_of (closed_of s.exchange c)) i))) (own_at s.bounds c.best.best i there)
      (is.closed.payments.each i (omega (arith, there, own_count s.bounds c.best.best))))))
    where
      at : (i : ℕ) → i ≡ 0 + i
      at i = omega arith

  pub closing_shown : IsShownClosed s.exchange s.bounds (closed_of s.exchange c)
  closing_shown = record {
    settlement = settlement_shown s lawful are c.best c.regret is.settlement;
    withouts_count = length-map c.marginals.items proved_without ∙ is.marginals.count;
    withouts = withouts_shown s lawful are c.best.value 0 c.marginals.items is.marginals.each;
    threshold = threshold_is;
    payments_count = payments_count ∙ sym (length-trees s.exchange);
    payments = payments_are;
  }

  may_be_written : s.number ≤ 20 → IsWritableClosing (record c { exchange = s.exchange })
  may_be_written few = record {
    number = omega (arith, few, is.number);
    settlement = settlement_may_be_written s lawful are c.best c.regret is.settlement;
    withouts = withouts_may_be_written s lawful are c.best.value c.marginals.items (omega (arith, is.marginals.count)) is.marginals.each;
    cut = short_field c.payments.cut is.short.cut_small;
    surplus = short_field c.payments.surplus is.short.surplus_small;
    payments_count = payments_count;
    payments = payments_may_be_written (economy_of s c.best) 0 (names_of s.exchange) c.marginals.items c.payments.discounts.items c.payments.payments.items lawful.bidders_named is.marginals.each is.short.discounts_small is.short.payments_small;
  }

  pub closing_may_be_written : s.number ≤ 20 → IsWritableClosing c
  closing_may_be_written few = subst (λ (x : Exchange). IsWritableClosing (record c { exchange = x })) (sym is.exchange) (may_be_written few)
