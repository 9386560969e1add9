-- From the parts of a close to the last settlement of a session.
use Rattle.std.proofs.Common.{ℕ, suc, true, ◌+◌, ◌≡◌, ◌<◌, List, [], ◌∷◌, length, map, zip, get_or, ℤ, ◌-ℤ◌, refl, arith, ap, sym, subst, ◌∙◌}
use Rattle.std.specs.List.{AllByRecursion}
use Rattle.std.proofs.lemmas.List.{length-map}
use Rattle.ice_defs.specs.Sum.{numbers_below}
use Rattle.ice_defs.specs.Weighing.{lower_weights}
use Rattle.ice_defs.specs.Vickrey.{IsBestWithout}
use Rattle.ice_defs.specs.Fraction.{Fraction}
use Rattle.ice_defs.specs.Cut.{IsCut}
use Rattle.ice_defs.specs.Threshold.{IsThreshold, ArePayments, IsSurplus}
use Rattle.ice_defs.specs.Exchange.{trees_of, exact_of, names_of}
use Rattle.ice_defs.specs.Session.{Payment, closes}
use Rattle.ice_headline_laws.specs.Right.{own_values, IsClosed}
use Rattle.ice_defs.proofs.Below.{length-numbers_below, get_or-numbers_below}
use Rattle.ice_headline_laws.proofs.OwnValues.{own_count}
use Rattle.ice_trade.proofs.Weighted.{length-trees, length-names}
use Rattle.ice_vickrey.specs.Economy.{Economy}
use Rattle.ice_vickrey.specs.Marginals.{proved_without, AreMarginalsFrom, AreMarginals, branches_of}
use Rattle.ice_vickrey.specs.declared.marginal.Marginal.{Marginal}
use Rattle.ice_round.specs.SessionAt.{SessionAt, IsSessionAt}
use Rattle.ice_round.specs.Searches.{economy_of, settlement_branches, IsSettlementOf}
use Rattle.ice_round.specs.Paying.{ArePaymentsOf}
use Rattle.ice_round.specs.Shown.{IsClosing}
use Rattle.ice_settled.specs.Shown.{discounts_of, payments_of, closed_of}
use Rattle.ice_settled.specs.declared.settled.Closing.{Closing}

-- ---- the values without each bidder

-- the best without each, at the bidders' numbers
numbered : (e : Economy) (b : ℕ) (ms : List Marginal) (ns : List ℕ) → AreMarginalsFrom e b ms → length ns ≡ length ms → ((i : ℕ) → i < length ns → get_or ns i 0 ≡ b + i)
    → AllByRecursion (λ p. IsBestWithout (trees_of e.exchange) (exact_of e.exchange) (lower_weights e.bounds) p.0 (p.1).value) (zip ns (map proved_without ms))
numbered e b ms [] are same each = tt
numbered e b [] (n ∷ ns) are same each = absurd (omega (arith, same))
numbered e b (m ∷ ms) (n ∷ ns) are same each = (
  subst (λ k. IsBestWithout (trees_of e.exchange) (exact_of e.exchange) (lower_weights e.bounds) k m.without) (omega (arith, each 0 (omega arith))) are.0.without,
  numbered e (suc b) ms ns are.1 (omega (arith, same)) (λ i l. omega (arith, each (suc i) (omega (arith, l)))),
)

-- each Vickrey discount is the difference
differences : (e : Economy) (b : ℕ) (ms : List Marginal) → AreMarginalsFrom e b ms → map (λ m. m.discount) ms ≡ map (λ p. e.total -ℤ p.value) (map proved_without ms)
differences e b [] are = refl
differences e b (m ∷ ms) are = ap (λ d. d ∷ map (λ (x : Marginal). x.discount) ms) are.0.difference ∙ ap (λ ds. (e.total -ℤ m.without) ∷ ds) (differences e (suc b) ms are.1)

-- ---- the payments, item by item

abbrev AreShown : List (List ℕ) → List ℤ → List Fraction → List Fraction → List Payment → Type 0
AreShown names vs ds ps shown =
    (map (λ p. p.name) shown ≡ names) × (map (λ p. p.vickrey) shown ≡ vs) × (map (λ p. p.discount) shown ≡ ds) × (map (λ p. p.payment) shown ≡ ps)

shown : (names : List (List ℕ)) (vs : List ℤ) (ds ps : List Fraction) → length vs ≡ length names → length ds ≡ length names → length ps ≡ length names
    → AreShown names vs ds ps (payments_of names vs ds ps)
shown [] [] [] [] a b c = (refl, refl, refl, refl)
shown [] [] [] (p ∷ ps) a b c = absurd (omega (arith, c))
shown [] [] (d ∷ ds) ps a b c = absurd (omega (arith, b))
shown [] (v ∷ vs) ds ps a b c = absurd (omega (arith, a))
shown (n ∷ names) [] ds ps a b c = absurd (omega (arith, a))
shown (n ∷ names) (v ∷ vs) [] ps a b c = absurd (omega (arith, b))
shown (n ∷ names) (v ∷ vs) (d ∷ ds) [] a b c = absurd (omega (arith, c))
shown (n ∷ names) (v ∷ vs) (d ∷ ds) (p ∷ ps) a b c =
    let rest = shown names vs ds ps (omega (arith, a)) (omega (arith, b)) (omega (arith, c)) in
    (ap (λ xs. n ∷ xs) rest.0, ap (λ xs. v ∷ xs) rest.1, ap (λ xs. d ∷ xs) rest.2, ap (λ xs. p ∷ xs) rest.3)

-- ---- the last settlement

pub closed_is : (s : SessionAt) (c : Closing) → IsSessionAt s → IsSettlementOf s c.best c.regret → AreMarginals (economy_of s c.best) c.marginals.items
    → ArePaymentsOf s.bounds c.best (discounts_of c.marginals.items) c.payments → IsClosed s.exchange s.bounds (closed_of s.exchange c)
closed_is s c at settlement marginals paid =
    let ms = c.marginals.items in
    let vs = discounts_of ms in
    let ds = c.payments.discounts.items in
    let ps = c.payments.payments.items in
    let names = names_of s.exchange in
    let trees = length-trees s.exchange in
    let same = length-names s.exchange in
    let counted : length vs ≡ length names = omega (arith, length-map ms (λ (m : Marginal). m.discount), marginals.count, trees, same) in
    let listed : length ds ≡ length names = omega (arith, paid.discounts.within.same_length, counted) in
    let charged : length ps ≡ length names = omega (arith, paid.payments.same_length, own_count s.bounds c.best.best, at.bounds.same_length, trees, same) in
    let parts = shown names vs ds ps counted listed charged in
    let numbers = length-numbers_below (length (map proved_without ms)) in
    record {
      settled = settlement.settled;
      withouts_count = length-map ms proved_without ∙ marginals.count;
      withouts = numbered (economy_of s c.best) 0 ms (numbers_below (length (map proved_without ms))) marginals.each (numbers ∙ length-map ms proved_without)
          (λ i l. omega (arith, get_or-numbers_below (length (map proved_without ms)) i 0 (subst (λ n. i < n) numbers l)));
      names = parts.0;
      vickreys = parts.1 ∙ differences (economy_of s c.best) 0 ms marginals.each;
      cut = subst (λ xs. IsCut xs c.best.value c.payments.cut) (sym parts.1) paid.cut;
      discounts = subst (λ xs. IsThreshold xs c.best.value (map (λ (p : Payment). p.discount) (payments_of names vs ds ps))) (sym parts.1)
          (subst (IsThreshold vs c.best.value) (sym parts.2) paid.discounts);
      payments = subst (λ qs. ArePayments (own_values s.bounds c.best.best) qs (map (λ (p : Payment). p.payment) (payments_of names vs ds ps))) (sym parts.2)
          (subst (ArePayments (own_values s.bounds c.best.best) ds) (sym parts.3) paid.payments);
      surplus = subst (λ qs. IsSurplus c.best.value qs c.payments.surplus) (sym parts.2) paid.surplus;
    }

pub closing_is : (s : SessionAt) (c : Closing) (left : ℕ) → IsSessionAt s → c.exchange ≡ s.exchange → c.bounds.items ≡ s.bounds → c.number ≡ s.number → closes s.exchange.settings s.number c.regret.amount ≡ true
    → IsSettlementOf s c.best c.regret → AreMarginals (economy_of s c.best) c.marginals.items → ArePaymentsOf s.bounds c.best (discounts_of c.marginals.items) c.payments
    → left + (settlement_branches c.best c.regret + branches_of c.marginals.items) ≡ s.branches → IsClosing s c
closing_is s c left at exchange bounds number closing settlement marginals paid count = record {
  exchange = exchange;
  bounds = bounds;
  number = number;
  closes = closing;
  settlement = settlement;
  marginals = marginals;
  closed = closed_is s c at settlement marginals paid;
  cut_down = paid.cut_down;
  short = paid.short;
  branches = omega (arith, count);
}
