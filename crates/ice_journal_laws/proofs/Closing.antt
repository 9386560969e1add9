-- The last settlement, from its threshold line and its payments.
use Rattle.std.proofs.Common.{◌≡◌, ◌<◌, ◌≤◌, ℕ, zero, suc, true, false, List, [], ◌∷◌, ◌++◌, length, map, get_or, ℤ, pos, refl, sym, ◌∙◌, ap, subst, arith, ◌⊎◌, inl, inr, length-append}
use Rattle.std.specs.Prelude.{◌-ℤ◌, ◌≤ℤ◌, ◌<ℤ◌, ◌*ℤ◌, slice_index_or, zip}
use Rattle.std.specs.List.{AllByRecursion, Any}
use Rattle.ice_defs.proofs.Below.{length-numbers_below, get_or-numbers_below}
use Rattle.std.proofs.lemmas.Bool.{cases_lt}
use Rattle.std.proofs.lemmas.Int.{ints, by_lt_z}
use Rattle.std.proofs.lemmas.List.{length-map, same_lists, get_or_default, get_or_append_left, get_or_at}
use Rattle.ice_defs.specs.Sum.{numbers_below}
use Rattle.ice_defs.specs.Set.{value}
use Rattle.ice_defs.specs.Trade.{set_of, weights_of}
use Rattle.ice_defs.specs.Bounds.{Bounds}
use Rattle.ice_defs.specs.Weighing.{lower_weights}
use Rattle.ice_defs.specs.Vickrey.{IsBestWithout}
use Rattle.ice_defs.specs.Fraction.{Fraction, whole_number, IsFraction, Equals, AtMost, minus, fraction_at}
use Rattle.ice_defs.specs.Threshold.{vickrey_of, ArePayments}
use Rattle.ice_defs.specs.Cut.{discount_at_cut, cut_sum, IsCut}
use Rattle.ice_defs.specs.Exchange.{Bidder, Exchange, trees_of, exact_of, names_of}
use Rattle.ice_defs.specs.Session.{Proved, Settlement, Payment}
use Rattle.ice_headline_laws.specs.Right.{own_values, IsSettled, IsClosed}
use Rattle.ice_defs.proofs.Products.{times_one}
use Rattle.ice_frac.proofs.Fractions.{AtMost-trans, AtMost-plus}
use Rattle.ice_threshold.specs.CutOff.{IsCutDown, AreCutDown}
use Rattle.ice_threshold.specs.Laws.{PassesCut}
use Rattle.ice_threshold.proofs.CutSum.{at_least_0-low, proper-cut_sum}
use Rattle.ice_threshold.proofs.CutTest.{passing_is_least}
use Rattle.ice_threshold.proofs.OneCut.{cut_down_is_threshold}
use Rattle.ice_threshold.proofs.Paid.{surplus_of}
use Rattle.ice_journal_laws.specs.Fields.{Closing}
use Rattle.ice_journal_laws.specs.Tests.{IsThresholdLine, IsPaymentLine}
use Rattle.ice_journal_laws.proofs.Faultless.{covered}

-- ---- what isn't failed holds

-- some Vickrey discount is at least the cut
abbrev IsReached : Fraction → List ℤ → Type 0
IsReached cut vickrey = Any (λ v. AtMost cut (whole_number v)) vickrey

reached_there : (cut : Fraction) (v : ℤ) (vickrey : List ℤ) → IsReached cut vickrey → IsReached cut (v ∷ vickrey)
reached_there cut v vickrey (k, x, l, e, h) = (suc k, x, omega (arith, l), e, h)

reached_or_not : (cut : Fraction) (vickrey : List ℤ) → IsReached cut vickrey ⊎ (¬ IsReached cut vickrey)
reached_or_not cut [] = inr none
  where
    none : ¬ IsReached cut []
    none (k, x, l, e, h) = omega (arith, l)
reached_or_not cut (v ∷ vickrey) = by (reached_or_not cut vickrey)
  where
    neither : ¬ IsReached cut vickrey → (v *ℤ pos cut.den) <ℤ (cut.num *ℤ pos 1) → ¬ IsReached cut (v ∷ vickrey)
    neither none lower (zero, x, l, e, h) = let mine : AtMost cut (whole_number v) = subst (λ (y : ℤ). AtMost cut (whole_number y)) (sym e) h in omega (arith, ints, mine, lower)
    neither none lower (suc k, x, l, e, h) = none (k, x, omega (arith, l), e, h)

    by : IsReached cut vickrey ⊎ (¬ IsReached cut vickrey) → IsReached cut (v ∷ vickrey) ⊎ (¬ IsReached cut (v ∷ vickrey))
    by (inl h) = inl (reached_there cut v vickrey h)
    by (inr none) = by_lt_z (v *ℤ pos cut.den) (cut.num *ℤ pos 1) (λ l. inr (neither none l)) (λ l. inl (0, v, omega arith, refl, l))

reached : (cut : Fraction) (vickrey : List ℤ) → ¬ (¬ IsReached cut vickrey) → IsReached cut vickrey
reached cut vickrey h = by (reached_or_not cut vickrey)
  where
    by : IsReached cut vickrey ⊎ (¬ IsReached cut vickrey) → IsReached cut vickrey
    by (inl is) = is
    by (inr none) = absurd (h none)

pub threshold_line : (vickrey : List ℤ) (total : ℤ) (c : Closing) → ¬ (¬ IsThresholdLine vickrey total c) → IsThresholdLine vickrey total c
threshold_line vickrey total c h = record {
  low = covered false _ _ (λ no. h (λ line. no line.low));
  high = reached c.cut vickrey (λ no. h (λ line. no line.high));
  paid = covered false _ _ (λ no. h (λ line. no line.paid));
  spent = λ below. covered true _ _ (λ no. h (λ line. no (line.spent below)));
  rest = covered true _ _ (λ no. h (λ line. no line.rest));
}

pub payment_line : (vickrey worth : ℤ) (cut : Fraction) (p : Payment) → ¬ (¬ IsPaymentLine vickrey worth cut p) → IsPaymentLine vickrey worth cut p
payment_line vickrey worth cut p h = record {
  vickrey_is = covered true _ _ (λ no. h (λ line. no line.vickrey_is));
  discount = covered true _ _ (λ no. h (λ line. no line.discount));
  payment = covered true _ _ (λ no. h (λ line. no line.payment));
}

-- ---- the payments so far

abbrev pub no_payment : Payment
no_payment = record { name = []; vickrey = pos 0; discount = whole_number (pos 0); payment = whole_number (pos 0) }

abbrev pub payment_at : List Payment → ℕ → Payment
payment_at payments i = slice_index_or payments i no_payment

-- a payment of this name, that passes, and whose numbers are proper
pub record IsPaid (name : List ℕ) (vickrey worth : ℤ) (cut : Fraction) (p : Payment) : Type 0 where
  pub name_is : p.name ≡ name
  pub line : IsPaymentLine vickrey worth cut p
  pub low : pos 0 ≤ℤ p.vickrey
  pub discount_proper : IsFraction p.discount
  pub payment_proper : IsFraction p.payment

-- the payments of the first bidders
pub record ArePaid (names : List (List ℕ)) (vickreys : List ℤ) (worth : ℕ → ℤ) (cut : Fraction) (payments : List Payment) : Type 0 where
  pub each : (i : ℕ) → i < length payments → IsPaid (slice_index_or names i []) (slice_index_or vickreys i (pos 0)) (worth i) cut (payment_at payments i)

pub none_paid : (names : List (List ℕ)) (vickreys : List ℤ) (worth : ℕ → ℤ) (cut : Fraction) → ArePaid names vickreys worth cut []
none_paid names vickreys worth cut = record { each = λ i l. absurd (omega arith) }

pub paid_more : (names : List (List ℕ)) (vickreys : List ℤ) (worth : ℕ → ℤ) (cut : Fraction) (payments : List Payment) (p : Payment) → ArePaid names vickreys worth cut payments
    → IsPaid (slice_index_or names (length payments) []) (slice_index_or vickreys (length payments) (pos 0)) (worth (length payments)) cut p → ArePaid names vickreys worth cut (payments ++ p ∷ [])
paid_more names vickreys worth cut payments p are is = record { each = λ i l. by i l (cases_lt i (length payments)) }
  where
    Is : ℕ → Payment → Type 0
    Is i q = IsPaid (slice_index_or names i []) (slice_index_or vickreys i (pos 0)) (worth i) cut q

    by : (i : ℕ) → i < length (payments ++ p ∷ []) → (i < length payments) ⊎ (length payments ≤ i) → Is i (payment_at (payments ++ p ∷ []) i)
    by i l (inl h) = subst (Is i) (sym (get_or_append_left payments (p ∷ []) no_payment i h)) (are.each i h)
    by i l (inr h) =
        let here : length payments ≡ i = omega (arith, length-append payments (p ∷ []), l, h) in
        subst (Is i) (sym (get_or_at payments p [] no_payment i here)) (subst (λ (n : ℕ). Is n p) here is)

-- ---- lists of what is paid

at_map : {X Y : Type 0} (f : X → Y) (xs : List X) (i : ℕ) (d : X) → get_or (map f xs) i (f d) ≡ f (get_or xs i d)
at_map f [] i d = refl
at_map f (x ∷ xs) zero d = refl
at_map f (x ∷ xs) (suc i) d = at_map f xs i d

-- a list of what is paid is this one
mapped_is : {Y : Type 0} (f : Payment → Y) (payments : List Payment) (ys : List Y) (e : Y) → length payments ≡ length ys → ((i : ℕ) → i < length payments → f (payment_at payments i) ≡ get_or ys i e) → map f payments ≡ ys
mapped_is f payments ys e count each =
    same_lists (map f payments) ys (length-map payments f ∙ count)
    (λ k d l.
    let there : k < length payments = omega (arith, l, length-map payments f) in
    get_or_default (map f payments) k d (f no_payment) l ∙ at_map f payments k no_payment ∙ each k there ∙ get_or_default ys k e d (omega (arith, there, count)))

all_low : (payments : List Payment) → ((i : ℕ) → i < length payments → pos 0 ≤ℤ (payment_at payments i).vickrey) → AllByRecursion (λ v. pos 0 ≤ℤ v) (map (λ p. p.vickrey) payments)
all_low [] each = tt
all_low (p ∷ payments) each = (each 0 (omega arith), all_low payments (λ i l. each (suc i) (omega (arith, l))))

all_cut : (cut : Fraction) (payments : List Payment) → ((i : ℕ) → i < length payments → IsCutDown cut (payment_at payments i).discount (payment_at payments i).vickrey)
    → AreCutDown cut (map (λ p. p.discount) payments) (map (λ p. p.vickrey) payments)
all_cut cut [] each = tt
all_cut cut (p ∷ payments) each = (each 0 (omega arith), all_cut cut payments (λ i l. each (suc i) (omega (arith, l))))

-- ---- the total

nothing_below : (cut : Fraction) (vickrey : List ℤ) → AtMost (whole_number (pos 0)) (cut_sum cut vickrey)
nothing_below cut [] = omega (arith, ints)
nothing_below cut (v ∷ vickrey) = AtMost-plus (whole_number (pos 0)) (whole_number (pos 0)) (discount_at_cut cut v) (cut_sum cut vickrey) (at_least_0-low (minus (whole_number v) cut)) (nothing_below cut vickrey)

total_low : (cut : Fraction) (vickrey : List ℤ) (total : ℤ) → IsFraction cut → AtMost (cut_sum cut vickrey) (whole_number total) → pos 0 ≤ℤ total
total_low cut vickrey total proper paid =
    let low : AtMost (whole_number (pos 0)) (whole_number total) = AtMost-trans (whole_number (pos 0)) (cut_sum cut vickrey) (whole_number total) (proper-cut_sum cut vickrey proper) (nothing_below cut vickrey) paid in
    omega (arith, ints, low, times_one total)

-- ---- the last settlement

module _ (ex : Exchange) (bounds : List Bounds) (x : Settlement) (ps : List Proved) (payments : List Payment) (cut surplus : Fraction) where
  abbrev vickreys : List ℤ
  vickreys = map (λ without. x.final.value -ℤ without) (map (λ (p : Proved). p.value) ps)

  abbrev worth : ℕ → ℤ
  worth i = value (set_of x.final.sets i) (weights_of (lower_weights bounds) i)

  -- what the records of a last settlement say
  pub record HasClosed : Type 0 where
    pub settled : IsSettled ex bounds x
    pub bounds_count : length bounds ≡ length (trees_of ex)
    pub withouts_count : length ps ≡ length (trees_of ex)
    pub withouts : AllByRecursion (λ p. IsBestWithout (trees_of ex) (exact_of ex) (lower_weights bounds) p.0 (p.1).value) (zip (numbers_below (length ps)) ps)
    pub payments_count : length payments ≡ length (trees_of ex)
    pub paid : ArePaid (names_of ex) vickreys worth cut payments
    pub line : IsThresholdLine vickreys x.final.value (record { cut = cut; surplus = surplus })
    pub cut_proper : IsFraction cut
    pub surplus_proper : IsFraction surplus

  names_count : length (trees_of ex) ≡ length (names_of ex)
  names_count = length-map ex.bidders (λ (b : Bidder). b.tree) ∙ sym (length-map ex.bidders (λ (b : Bidder). b.name))

  vickreys_count : length vickreys ≡ length ps
  vickreys_count = length-map (map (λ (p : Proved). p.value) ps) (λ without. x.final.value -ℤ without) ∙ length-map ps (λ (p : Proved). p.value)

  paid_vickreys : HasClosed → map (λ (p : Payment). p.vickrey) payments ≡ vickreys
  paid_vickreys h = mapped_is (λ (p : Payment). p.vickrey) payments vickreys (pos 0) (omega (arith, h.payments_count, h.withouts_count, vickreys_count)) (λ i l. (h.paid.each i l).line.vickrey_is)

  least_cut : HasClosed → IsCut (map (λ (p : Payment). p.vickrey) payments) x.final.value cut
  least_cut h = subst (λ (vs : List ℤ). IsCut vs x.final.value cut) (sym (paid_vickreys h)) (passing_is_least vickreys x.final.value cut (passes h.line.high))
    where
      passes : IsReached cut vickreys → PassesCut vickreys x.final.value cut
      passes (k, v, l, e, high) = record {
        payable = record { proper = h.cut_proper; low = h.line.low; paid = h.line.paid };
        place = k;
        within = l;
        high = subst (λ (y : ℤ). AtMost cut (whole_number y)) (sym (get_or_default vickreys k (pos 0) v l ∙ e)) high;
        spent = h.line.spent;
      }

  cut_down_each : HasClosed → AreCutDown cut (map (λ (p : Payment). p.discount) payments) (map (λ (p : Payment). p.vickrey) payments)
  cut_down_each h = all_cut cut payments (λ i l.
      let is = h.paid.each i l in
      record {
        proper = is.discount_proper;
        equal = subst (λ (v : ℤ). Equals (payment_at payments i).discount (discount_at_cut cut v)) (sym is.line.vickrey_is) is.line.discount;
      })

  paid_each : HasClosed → ArePayments (own_values bounds x.final.sets) (map (λ (p : Payment). p.discount) payments) (map (λ (p : Payment). p.payment) payments)
  paid_each h = record {
    same_length = length-map payments (λ (p : Payment). p.payment) ∙ h.payments_count ∙ sym h.bounds_count ∙ sym values_count;
    proper = λ i l. subst IsFraction (sym (at_map (λ (p : Payment). p.payment) payments i no_payment)) (h.paid.each i (there i l)).payment_proper;
    each = λ i l.
        subst (λ (f : Fraction). Equals f (minus (vickrey_of (own_values bounds x.final.sets) i) (fraction_at (map (λ (p : Payment). p.discount) payments) i))) (sym (at_map (λ (p : Payment). p.payment) payments i no_payment))
        (subst (λ (f : Fraction). Equals (payment_at payments i).payment (minus (vickrey_of (own_values bounds x.final.sets) i) f)) (sym (at_map (λ (p : Payment). p.discount) payments i no_payment))
        (subst (λ (v : ℤ). Equals (payment_at payments i).payment (minus (whole_number v) (payment_at payments i).discount)) (sym (own_is i l)) (h.paid.each i (there i l)).line.payment));
  }
    where
      values_count : length (own_values bounds x.final.sets) ≡ length bounds
      values_count = length-map (numbers_below (length bounds)) worth ∙ length-numbers_below (length bounds)

      there : (i : ℕ) → i < length (own_values bounds x.final.sets) → i < length payments
      there i l = omega (arith, l, values_count, h.bounds_count, h.payments_count)

      own_is : (i : ℕ) → i < length (own_values bounds x.final.sets) → slice_index_or (own_values bounds x.final.sets) i (pos 0) ≡ worth i
      own_is i l =
          get_or_default (own_values bounds x.final.sets) i (pos 0) (worth 0) l ∙ at_map worth (numbers_below (length bounds)) i 0
          ∙ ap worth (get_or-numbers_below (length bounds) i 0 (omega (arith, l, values_count)))

  map_twice : (qs : List Proved) → map (λ without. x.final.value -ℤ without) (map (λ (p : Proved). p.value) qs) ≡ map (λ (p : Proved). x.final.value -ℤ p.value) qs
  map_twice [] = refl
  map_twice (q ∷ qs) = ap (λ (vs : List ℤ). (x.final.value -ℤ q.value) ∷ vs) (map_twice qs)

  pub closed_right : HasClosed → IsClosed ex bounds (record { settlement = x; withouts = ps; cut = cut; surplus = surplus; payments = payments })
  closed_right h = record {
    settled = h.settled;
    withouts_count = h.withouts_count;
    withouts = h.withouts;
    names = mapped_is (λ (p : Payment). p.name) payments (names_of ex) [] (h.payments_count ∙ names_count) (λ i l. (h.paid.each i l).name_is);
    vickreys = paid_vickreys h ∙ map_twice ps;
    cut = least_cut h;
    discounts =
        cut_down_is_threshold (map (λ (p : Payment). p.vickrey) payments) x.final.value cut (map (λ (p : Payment). p.discount) payments) (all_low payments (λ i l. (h.paid.each i l).low))
        (total_low cut vickreys x.final.value h.cut_proper h.line.paid) (least_cut h) (cut_down_each h);
    payments = paid_each h;
    surplus =
        surplus_of cut surplus (map (λ (p : Payment). p.discount) payments) (map (λ (p : Payment). p.vickrey) payments) x.final.value h.cut_proper (cut_down_each h) h.surplus_proper
        (subst (λ (vs : List ℤ). Equals surplus (minus (whole_number x.final.value) (cut_sum cut vs))) (sym (paid_vickreys h)) h.line.rest);
  }
