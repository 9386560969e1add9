-- The offers of the children of one node: listed, put in order, and taken from the last one on.
use Rattle.std.proofs.Common.{ℕ, suc, ◌+◌, ◌<◌, ◌≤◌, ◌≡◌, ◌≢◌, Bool, true, false, cond, ◌&&◌, not, eqb, ltb, List, [], ◌∷◌, length, get_or, take, set, ℤ, pos, ◌≤ℤ◌, ◌<ℤ◌, refl, arith, ap, sym, ◌∙◌, ◌⊎◌, inl, inr, subst}
use Rattle.std.specs.List.{All}
use Rattle.std.specs.List.Sorted.{IsPermutation, IsSortedByKey}
use Rattle.std.specs.declared.cmp.Ordering.{Ordering}
use Rattle.std.specs.Ordering.{MatchOrdering, is_lt, int_cmp}
use Rattle.std.specs.declared.cmp.Ordering.TheVariants.{Less, Equal, Greater}
use Rattle.std.proofs.lemmas.Int.{ints}
use Rattle.std.proofs.lemmas.Bool.{cases_eq, both_ways, and_parts, and_from, and_left, and_right, not-true, not_from_false, eqb-true, eq-eqb, ne_eqb, lt-ltb, le-ltb}
use Rattle.std.proofs.lemmas.Bool.Decides.{nat_tests}
use Rattle.std.proofs.lemmas.List.{get_or_default, get_or-take, length-take-le, take_all, take_more_set}
use Rattle.std.proofs.lemmas.List.Elements.{All-append, All-cons, All-nil}
use Rattle.std.proofs.lemmas.List.Sorted.{All-permutation, sum_by-IsPermutation, sorted_far, ranks_by, length_permutation}
use Rattle.std.proofs.lemmas.Cmp.{int_cmp_total, int_ranked}
use Rattle.std.proofs.lemmas.List.Sums.{sum_by-cons, sum_by-append, sum_by_more}
use Rattle.ice_best.specs.declared.choice.Offer.{Offer}
use Rattle.ice_best.specs.Choice.{IsIncreasing, IsBestLeft, NoneLeft}
use Rattle.ice_best.proofs.Partial.{NoGain}
use Rattle.ice_best.specs.Offers.{times_offered, IsOffer, AreOffers, IsRising}
use Rattle.ice_best.proofs.Flags.{apart}

abbrev number : Bool → ℕ
number b = cond b 1 0

number-true : (b : Bool) → 1 ≤ number b → b ≡ true
number-true true h = refl
number-true false h = absurd (omega arith)

-- ---- how often a child is offered

module _ (c : ℕ) where
  test : Offer → ℕ
  test o = cond (eqb o.child c) 1 0

  times_more : (offers : List Offer) (k : ℕ) (d : Offer) → k < length offers
      → times_offered c (take (k + 1) offers) ≡ times_offered c (take k offers) + number (eqb (get_or offers k d).child c)
  times_more offers k d h = sum_by_more (λ (o : Offer). cond (eqb o.child c) 1 0) offers k d h

  times_put : (offers : List Offer) (k : ℕ) (o : Offer) → k < length offers
      → times_offered c (take (k + 1) (set offers k o)) ≡ times_offered c (take k offers) + number (eqb o.child c)
  times_put offers k o h =
      ap (times_offered c) (take_more_set offers k o h)
      ∙ sum_by-append (λ (o : Offer). cond (eqb o.child c) 1 0) (take k offers) (o ∷ [])
      ∙ omega (arith, sum_by-cons (λ (o : Offer). cond (eqb o.child c) 1 0) o [])

  -- a child that is offered has an offer
  some_offer : (offers : List Offer) (d : Offer) → 1 ≤ times_offered c offers → (i : ℕ) × (i < length offers) × ((get_or offers i d).child ≡ c)
  some_offer [] d h = absurd (omega (arith, h))
  some_offer (o ∷ offers) d h = by (eqb o.child c) refl (sum_by-cons (λ (o : Offer). cond (eqb o.child c) 1 0) o offers) (λ h. some_offer offers d h)
    where
      by : (b : Bool) → eqb o.child c ≡ b → times_offered c (o ∷ offers) ≡ cond (eqb o.child c) 1 0 + times_offered c offers
          → (1 ≤ times_offered c offers → (i : ℕ) × (i < length offers) × ((get_or offers i d).child ≡ c))
          → (i : ℕ) × (i < length (o ∷ offers)) × ((get_or (o ∷ offers) i d).child ≡ c)
      by true e count rest = (0, omega arith, eqb-true _ _ e)
      by false e count rest =
          let (i, l, is) = rest (omega (arith, h, count, ap number e)) in
          (suc i, omega (arith, l), is)

-- ---- the last offer

module _ (gain : ℕ → ℤ) (possible taken : ℕ → Bool) (children : List ℕ) (increasing : IsIncreasing children)
    (offers : List Offer) (rising : IsRising offers) (k : ℕ) (there : k < length offers) (d : Offer)
    (are : AreOffers gain possible taken children (take (k + 1) offers)) where
  last : Offer
  last = get_or offers k d

  size : length (take (k + 1) offers) ≡ k + 1
  size = length-take-le (k + 1) offers (omega arith)

  is_offer : (i : ℕ) → i < k + 1 → IsOffer gain children (get_or offers i d)
  is_offer i h = subst (IsOffer gain children) (get_or-take (k + 1) offers i d h) (are.each i d (omega (arith, size)))

  -- the place of its child
  pub last_place : (j : ℕ) × (j < length children) × (get_or children j 0 ≡ (get_or offers k d).child)
  unfolding last
  last_place =
      let (j, l, e) = (is_offer k (omega arith)).0 in
      (j, l, get_or_default children j 0 _ l ∙ e)

  pub last_adds : (j : ℕ) → get_or children j 0 ≡ (get_or offers k d).child → (get_or offers k d).gain ≡ gain (get_or children j 0)
  last_adds j e = (is_offer k (omega arith)).1 ∙ ap gain (sym e)

  is_left : (j : ℕ) → j < length children → get_or children j 0 ≡ (get_or offers k d).child
      → (possible (get_or children j 0) && not (taken (get_or children j 0))) ≡ true
  is_left j l e =
      let count = times_more (get_or children j 0) offers k d there in
      let here = ap number (eq-eqb _ _ (sym e)) in
      number-true _ (omega (arith, are.once j l, count, here))

  -- its child is best among those that are left
  pub last_best : (j : ℕ) → j < length children → get_or children j 0 ≡ (get_or offers k d).child → IsBestLeft gain possible taken children (length children) j
  last_best j l e =
      let both = and_parts _ _ (is_left j l e) in
      record {
        there = l;
        left = not-true _ both.1;
        can = both.0;
        best = λ i h free can.
            let offered = ap number (and_from _ _ can (not_from_false _ free)) in
            let (m, m_there, is) = some_offer (get_or children i 0) (take (k + 1) offers) d (omega (arith, are.once i h, offered)) in
            let before : m < k + 1 = omega (arith, m_there, size) in
            let same = get_or-take (k + 1) offers m d before in
            let child_is : (get_or offers m d).child ≡ get_or children i 0 = ap (λ (o : Offer). o.child) (sym same) ∙ is in
            let mine = (is_offer m before).1 ∙ ap gain child_is in
            let its = last_adds j e in
            omega (arith, ints, rising m k d (omega arith) there, mine, its);
      }

  -- what is left adds no more than it
  pub last_gain : (get_or offers k d).gain ≤ℤ pos 0 → NoGain gain possible taken children
  last_gain h i l free can =
      let (j, j_there, e) = last_place in
      let best = (last_best j j_there e).best i l free can in
      omega (arith, ints, best, h, last_adds j e)

  -- once its child is taken, the other offers are left
  pub AreOffers-rest : (taken' : ℕ → Bool) (j : ℕ) → j < length children → get_or children j 0 ≡ (get_or offers k d).child → taken' (get_or children j 0) ≡ true
      → ((i : ℕ) → i < length children → i ≢ j → taken' (get_or children i 0) ≡ taken (get_or children i 0))
      → AreOffers gain possible taken' children (take k offers)
  AreOffers-rest taken' j l e now same = record {
    each = λ i d' h.
        let short = length-take-le k offers (omega arith) in
        let at = get_or-take k offers i d' (omega (arith, h, short)) ∙ sym (get_or-take (k + 1) offers i d' (omega (arith, h, short))) in
        subst (IsOffer gain children) (sym at) (are.each i d' (omega (arith, h, short, size)));
    once = λ i h. by i h (cases_eq i j);
  }
    where
      by : (i : ℕ) → i < length children → (i ≡ j) ⊎ (i ≡ j → ⊥)
          → times_offered (get_or children i 0) (take k offers) ≡ number (possible (get_or children i 0) && not (taken' (get_or children i 0)))
      by i h (inl is) =
          let count = times_more (get_or children i 0) offers k d there in
          let here = ap number (eq-eqb _ _ (sym e ∙ sym (ap (λ m. get_or children m 0) is))) in
          let left = ap number (subst (λ m. (possible (get_or children m 0) && not (taken (get_or children m 0))) ≡ true) (sym is) (is_left j l e)) in
          let gone = ap number (and_right (possible (get_or children i 0)) _ (ap not (subst (λ m. taken' (get_or children m 0) ≡ true) (sym is) now))) in
          omega (arith, are.once i h, count, here, left, gone)
      by i h (inr other) =
          let count = times_more (get_or children i 0) offers k d there in
          let elsewhere = ap number (ne_eqb _ _ (λ f. apart children j i increasing l h (λ g. other (sym g)) (e ∙ f))) in
          let kept = ap (λ b. number (possible (get_or children i 0) && not b)) (same i h other) in
          omega (arith, are.once i h, count, elsewhere, kept)

-- with no offer nothing is left
pub none_left : (gain : ℕ → ℤ) (possible taken : ℕ → Bool) (children : List ℕ) (offers : List Offer) → AreOffers gain possible taken children (take 0 offers)
    → NoneLeft possible taken children (length children)
none_left gain possible taken children offers are j h can = by (taken (get_or children j 0)) refl
  where
    by : (b : Bool) → taken (get_or children j 0) ≡ b → b ≡ true
    by true e = refl
    by false e =
        let left = ap number (and_from _ _ can (ap not e)) in
        absurd (omega (arith, are.once j h, left))

-- ---- in another order

pub AreOffers-permutation : (gain : ℕ → ℤ) (possible taken : ℕ → Bool) (children : List ℕ) (xs ys : List Offer) → IsPermutation xs ys
    → AreOffers gain possible taken children xs → AreOffers gain possible taken children ys
AreOffers-permutation gain possible taken children xs ys moved are = record {
  each = All-permutation (IsOffer gain children) xs ys moved are.each;
  once = λ k h. sum_by-IsPermutation (λ (o : Offer). cond (eqb o.child (get_or children k 0)) 1 0) xs ys moved ∙ are.once k h;
}

pub IsRising-sorted : (offers : List Offer) → IsSortedByKey (λ (o : Offer). o.gain) int_cmp offers → IsRising offers
IsRising-sorted offers up i j d h l =
    by (get_or offers i d).gain (get_or offers j d).gain
    (sorted_far (λ (x y : Offer). is_lt (int_cmp x.gain y.gain)) (ranks_by int_cmp_total (λ (o : Offer). o.gain)) offers up i j d h l)
  where
    by : (x y : ℤ) → is_lt (int_cmp y x) ≡ false → x ≤ℤ y
    by x y e = in_order (int_cmp y x) e (int_ranked y x _ refl)
      where
        in_order : (o : Ordering) → is_lt o ≡ false → MatchOrdering o (y <ℤ x) (y ≡ x) (x <ℤ y) → x ≤ℤ y
        in_order Less e r = absurd (both_ways _ e refl)
        in_order Equal e r = omega (arith, ints, r)
        in_order Greater e r = omega (arith, ints, r)

-- ---- listing them

-- the offers of the first n children
pub record AreListed (gain : ℕ → ℤ) (possible taken : ℕ → Bool) (children : List ℕ) (n count : ℕ) (offers : List Offer) : Type 0 where
  pub few : count ≤ n
  pub each : All (IsOffer gain children) (take count offers)
  pub once : (k : ℕ) → k < length children
      → times_offered (get_or children k 0) (take count offers) ≡ number (ltb k n && (possible (get_or children k 0) && not (taken (get_or children k 0))))

one_further : (k n : ℕ) (b : Bool) → number (ltb k (n + 1) && b) ≡ number (ltb k n && b) + number (eqb n k && b)
one_further k n b = grind (arith, nat_tests)

module _ (gain : ℕ → ℤ) (possible taken : ℕ → Bool) (children : List ℕ) (increasing : IsIncreasing children) where
  abbrev may : ℕ → Bool
  may c = possible c && not (taken c)

  pub AreListed-none : (offers : List Offer) → AreListed gain possible taken children 0 0 offers
  AreListed-none offers = record {
    few = omega arith;
    each = All-nil (IsOffer gain children);
    once = λ k h. sym (ap number (and_left _ _ (le-ltb k 0 (omega arith))));
  }

  -- the next child isn't offered
  pub AreListed-skip : (n count : ℕ) (offers : List Offer) → n < length children → may (get_or children n 0) ≡ false
      → AreListed gain possible taken children n count offers → AreListed gain possible taken children (n + 1) count offers
  AreListed-skip n count offers l out are = record {
    few = omega (arith, are.few);
    each = are.each;
    once = λ k h. omega (arith, are.once k h, one_further k n (may (get_or children k 0)), nothing k (cases_eq n k));
  }
    where
      nothing : (k : ℕ) → (n ≡ k) ⊎ (n ≡ k → ⊥) → number (eqb n k && may (get_or children k 0)) ≡ 0
      nothing k (inl e) = ap number (and_right (eqb n k) _ (subst (λ m. may (get_or children m 0) ≡ false) e out))
      nothing k (inr ne) = ap number (and_left _ (may (get_or children k 0)) (ne_eqb n k ne))

  -- the next child is offered
  pub AreListed-offer : (n count : ℕ) (offers : List Offer) (o : Offer) → n < length children → count < length offers → may (get_or children n 0) ≡ true
      → o.child ≡ get_or children n 0 → o.gain ≡ gain o.child
      → AreListed gain possible taken children n count offers → AreListed gain possible taken children (n + 1) (count + 1) (set offers count o)
  AreListed-offer n count offers o l room may_be child_is gain_is are = record {
    few = omega (arith, are.few);
    each = subst (All (IsOffer gain children)) (sym (take_more_set offers count o room))
        (All-append (IsOffer gain children) (take count offers) (o ∷ []) are.each
        (All-cons (IsOffer gain children) o [] ((n, l, get_or_default children n _ 0 l ∙ sym child_is), gain_is) (All-nil (IsOffer gain children))));
    once = λ k h.
        omega (arith, are.once k h, times_put (get_or children k 0) offers count o room, one_further k n (may (get_or children k 0)), same k h (cases_eq n k));
  }
    where
      same : (k : ℕ) → k < length children → (n ≡ k) ⊎ (n ≡ k → ⊥) → number (eqb o.child (get_or children k 0)) ≡ number (eqb n k && may (get_or children k 0))
      same k h (inl e) =
          ap number (eq-eqb _ _ (child_is ∙ ap (λ m. get_or children m 0) e))
          ∙ sym (ap number (and_from _ _ (eq-eqb n k e) (subst (λ m. may (get_or children m 0) ≡ true) e may_be)))
      same k h (inr ne) =
          ap number (ne_eqb _ _ (λ f. apart children n k increasing l h ne (sym child_is ∙ f)))
          ∙ sym (ap number (and_left _ (may (get_or children k 0)) (ne_eqb n k ne)))

  pub AreOffers-listed : (count : ℕ) (offers : List Offer) → AreListed gain possible taken children (length children) count offers
      → AreOffers gain possible taken children (take count offers)
  AreOffers-listed count offers are = record {
    each = are.each;
    once = λ k h. are.once k h ∙ ap (λ b. number (b && may (get_or children k 0))) (lt-ltb k (length children) h);
  }

-- ---- taking them

-- all of them are left when they are in order
pub AreOffers-start : (gain : ℕ → ℤ) (possible taken : ℕ → Bool) (children : List ℕ) (n : ℕ) (xs ys : List Offer) → IsPermutation xs ys → length xs ≡ n
    → AreOffers gain possible taken children xs → AreOffers gain possible taken children (take n ys)
AreOffers-start gain possible taken children n xs ys moved size are =
    let whole = take_all n ys (omega (arith, length_permutation xs ys moved, size)) in
    subst (AreOffers gain possible taken children) (sym whole) (AreOffers-permutation gain possible taken children xs ys moved are)
