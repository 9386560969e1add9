-- What the tests of true values mean.
use Rattle.std.proofs.Common.{ℕ, zero, suc, ◌+◌, ◌<◌, ◌≤◌, ◌≡◌, Bool, true, false, cond, ltb, ◌||◌, List, [], ◌∷◌, ◌++◌, length, map, take, drop, get_or, ℤ, ◌≤ℤ◌, ◌<ℤ◌, Some, None, refl, sym, ap, subst, arith, drop-cons, ◌∙◌}
use Rattle.std.specs.Prelude.{int_lt, slice_get, find}
use Rattle.std.specs.List.{position, position_or_len}
use Rattle.std.proofs.lemmas.List.{length-map}
use Rattle.std.proofs.lemmas.List.Folds.{find_at}
use Rattle.std.proofs.lemmas.List.Recursion.{is_position_or_len}
use Rattle.std.proofs.lemmas.Option.{slice_get_past, slice_get-get_or, none-some}
use borrow.Author.Tests.{ltb-true, ltb-false}
use Rattle.std.specs.List.{list_any}
use Rattle.std.specs.Str.{bytes_eq}
use Rattle.std.proofs.lemmas.Int.{ints}
use Rattle.std.proofs.lemmas.List.{take_more, drop_all}
use Rattle.std.proofs.lemmas.Cmp.{nat_list_eq_equiv}
use Rattle.ice_defs.specs.Set.{weight_of}
use Rattle.ice_defs.specs.Bounds.{no_bounds}
use Rattle.ice_defs.specs.Round.{Submission}
use Rattle.ice_defs.specs.Exchange.{Bidder, Exchange}
use Rattle.ice_simulation.specs.TruthFile.{are_inside, same_values, bidder_named, is_truth_of, not_truth_from, lo_of, truth_in, truth_lists}

-- a test that can't come out true comes out false
pub comes_false : (b : Bool) → (b ≡ true → ⊥) → false ≡ b
comes_false true h = absurd (h refl)
comes_false false h = refl

not_less : (a b : ℤ) → a ≤ℤ b → int_lt b a ≡ false
not_less a b h = grind (arith, ints)

is_less : (a b : ℤ) → a <ℤ b → int_lt a b ≡ true
is_less a b h = grind (arith, ints)

less_from : (a b : ℤ) → int_lt a b ≡ false → b ≤ℤ a
less_from a b h = grind (arith, ints)

-- two tests that fail, and one that passes
three_tests : (a b c : Bool) → cond a false (cond b false c) ≡ true → (a ≡ false) × (b ≡ false) × (c ≡ true)
three_tests true b c e = absurd (cc)
three_tests false true c e = absurd (cc)
three_tests false false c e = (refl, refl, e)

-- ---- the same values

pub same_values-refl : (xs : List ℤ) → same_values xs xs ≡ true
same_values-refl [] = refl
same_values-refl (x ∷ xs) = let e : int_lt x x ≡ false = not_less x x (omega (arith, ints)) in rw e (same_values-refl xs)

pub same_values-from : (xs ys : List ℤ) → xs ≡ ys → same_values xs ys ≡ true
same_values-from xs ys e = subst (λ (zs : List ℤ). same_values xs zs ≡ true) e (same_values-refl xs)

pub same_values-is : (xs ys : List ℤ) → same_values xs ys ≡ true → xs ≡ ys
same_values-is [] [] e = refl
same_values-is [] (y ∷ ys) e = absurd (cc)
same_values-is (x ∷ xs) [] e = absurd (cc)
same_values-is (x ∷ xs) (y ∷ ys) e =
    let (p, q, rest) = three_tests (int_lt x y) (int_lt y x) (same_values xs ys) e in
    let first : x ≡ y = omega (arith, ints, less_from x y p, less_from y x q) in
    let others : xs ≡ ys = same_values-is xs ys rest in
    cc

-- ---- inside

pub record AreWithin (los t his : List ℤ) : Type 0 where
  pub count : length t ≡ length los
  pub hi_count : length his ≡ length los
  pub low : (n : ℕ) → n < length t → weight_of los n ≤ℤ weight_of t n
  pub high : (n : ℕ) → n < length t → weight_of t n ≤ℤ weight_of his n

pub are_inside-from : (los t his : List ℤ) → AreWithin los t his → are_inside los t his ≡ true
are_inside-from [] [] [] are = refl
are_inside-from [] [] (hi ∷ his) are = absurd (omega (arith, are.hi_count))
are_inside-from [] (x ∷ t) his are = absurd (omega (arith, are.count))
are_inside-from (lo ∷ los) [] his are = absurd (omega (arith, are.count))
are_inside-from (lo ∷ los) (x ∷ t) [] are = absurd (omega (arith, are.hi_count))
are_inside-from (lo ∷ los) (x ∷ t) (hi ∷ his) are =
    let a : int_lt x lo ≡ false = not_less lo x (are.low 0 (omega arith)) in
    let b : int_lt hi x ≡ false = not_less x hi (are.high 0 (omega arith)) in
    let rest : AreWithin los t his = record {
      count = omega (arith, are.count);
      hi_count = omega (arith, are.hi_count);
      low = λ n h. are.low (suc n) (omega (arith, h));
      high = λ n h. are.high (suc n) (omega (arith, h));
    } in
    rw (a, b) (are_inside-from los t his rest)

pub are_inside-is : (los t his : List ℤ) → are_inside los t his ≡ true → AreWithin los t his
are_inside-is [] [] [] e = record { count = refl; hi_count = refl; low = λ n h. absurd (omega (arith, h)); high = λ n h. absurd (omega (arith, h)) }
are_inside-is [] [] (hi ∷ his) e = absurd (cc)
are_inside-is [] (x ∷ t) his e = absurd (cc)
are_inside-is (lo ∷ los) [] his e = absurd (cc)
are_inside-is (lo ∷ los) (x ∷ t) [] e = absurd (cc)
are_inside-is (lo ∷ los) (x ∷ t) (hi ∷ his) e =
    let (p, q, more) = three_tests (int_lt x lo) (int_lt hi x) (are_inside los t his) e in
    let rest : AreWithin los t his = are_inside-is los t his more in
    let low : lo ≤ℤ x = less_from x lo p in
    let high : x ≤ℤ hi = less_from hi x q in
    record { count = omega (arith, rest.count); hi_count = omega (arith, rest.hi_count); low = λ n h. lows rest low n h; high = λ n h. highs rest high n h }
  where
    lows : AreWithin los t his → lo ≤ℤ x → (n : ℕ) → n < length (x ∷ t) → weight_of (lo ∷ los) n ≤ℤ weight_of (x ∷ t) n
    lows rest first zero h = first
    lows rest first (suc n) h = rest.low n (omega (arith, h))

    highs : AreWithin los t his → x ≤ℤ hi → (n : ℕ) → n < length (x ∷ t) → weight_of (x ∷ t) n ≤ℤ weight_of (hi ∷ his) n
    highs rest first zero h = first
    highs rest first (suc n) h = rest.high n (omega (arith, h))

-- ---- the bidder of a name

turned : (name : List ℕ) (b : Bidder) → bytes_eq b.name name ≡ bytes_eq name b.name
turned name b = nat_list_eq_equiv.symm b.name name

place_step : (name : List ℕ) (b : Bidder) (bidders : List Bidder)
    → position_or_len (bytes_eq name) (map (λ (x : Bidder). x.name) (b ∷ bidders)) ≡ cond (bytes_eq b.name name) 0 (1 + position_or_len (bytes_eq name) (map (λ (x : Bidder). x.name) bidders))
place_step name b bidders = by (bytes_eq name b.name) refl
  where
    by : (t : Bool) → bytes_eq name b.name ≡ t
        → position_or_len (bytes_eq name) (map (λ (x : Bidder). x.name) (b ∷ bidders)) ≡ cond (bytes_eq b.name name) 0 (1 + position_or_len (bytes_eq name) (map (λ (x : Bidder). x.name) bidders))
    by true e = let t : bytes_eq b.name name ≡ true = turned name b ∙ e in rw (e, t) refl
    by false e = let t : bytes_eq b.name name ≡ false = turned name b ∙ e in rw (e, t) (omega arith)

place_same : (name : List ℕ) (bidders : List Bidder) → position_or_len (bytes_eq name) (map (λ (x : Bidder). x.name) bidders) ≡ position_or_len (λ (x : Bidder). bytes_eq x.name name) bidders
place_same name bidders =
    is_position_or_len (λ (bs : List Bidder). position_or_len (bytes_eq name) (map (λ (x : Bidder). x.name) bs)) (λ (x : Bidder). bytes_eq x.name name) refl (place_step name) bidders

some_same : (a b : ℕ) → Some a ≡ Some b → a ≡ b
some_same a b e = cc

place_parts : (p : List ℕ → Bool) (names : List (List ℕ)) (i : ℕ) → position p names ≡ Some i → (position_or_len p names ≡ i) × (i < length names)
place_parts p names i e = by (ltb (position_or_len p names) (length names)) refl e
  where
    by : (t : Bool) → ltb (position_or_len p names) (length names) ≡ t → cond t (Some (position_or_len p names)) None ≡ Some i → (position_or_len p names ≡ i) × (i < length names)
    by true h f = let same : position_or_len p names ≡ i = some_same (position_or_len p names) i f in (same, omega (arith, same, ltb-true (position_or_len p names) (length names) h))
    by false h f = absurd (none-some i f)

place_past : (p : List ℕ → Bool) (names : List (List ℕ)) → position p names ≡ None → length names ≤ position_or_len p names
place_past p names e = by (ltb (position_or_len p names) (length names)) refl e
  where
    by : (t : Bool) → ltb (position_or_len p names) (length names) ≡ t → cond t (Some (position_or_len p names)) None ≡ None → length names ≤ position_or_len p names
    by true h f = absurd (none-some (position_or_len p names) (sym f))
    by false h f = ltb-false (position_or_len p names) (length names) h

pub named_none : (name : List ℕ) (bidders : List Bidder) → position (bytes_eq name) (map (λ (b : Bidder). b.name) bidders) ≡ None → bidder_named name bidders ≡ None
named_none name bidders e =
    let past = place_past (bytes_eq name) (map (λ (b : Bidder). b.name) bidders) e in
    find_at (λ (x : Bidder). bytes_eq x.name name) bidders
    ∙ slice_get_past bidders (position_or_len (λ (x : Bidder). bytes_eq x.name name) bidders) (omega (arith, past, place_same name bidders, length-map bidders (λ (b : Bidder). b.name)))

pub named_some : (name : List ℕ) (bidders : List Bidder) (i : ℕ) (d : Bidder) → position (bytes_eq name) (map (λ (b : Bidder). b.name) bidders) ≡ Some i → (i < length bidders) × (bidder_named name bidders ≡ Some (get_or bidders i d))
named_some name bidders i d e =
    let (same, there) = place_parts (bytes_eq name) (map (λ (b : Bidder). b.name) bidders) i e in
    let within : i < length bidders = omega (arith, there, length-map bidders (λ (b : Bidder). b.name)) in
    let place : position_or_len (λ (x : Bidder). bytes_eq x.name name) bidders ≡ i = sym (place_same name bidders) ∙ same in (
      within,
      find_at (λ (x : Bidder). bytes_eq x.name name) bidders ∙ ap (slice_get bidders) place ∙ slice_get-get_or bidders i d within,
    )

-- ---- a bidder without a bid

or_right : (x y : Bool) → y ≡ true → (x || y) ≡ true
or_right true y e = refl
or_right false y e = e

abbrev has_bid : List Submission → List ℕ → Bool
has_bid bids name = list_any (λ (s : Submission). bytes_eq s.name name) bids

pub lacks_from : (bids : List Submission) (bidders : List Bidder) (k : ℕ) → k < length bidders → list_any (λ (s : Submission). bytes_eq s.name (get_or (map (λ (b : Bidder). b.name) bidders) k [])) bids ≡ false
    → list_any (λ (b : Bidder). cond (list_any (λ (s : Submission). bytes_eq s.name b.name) bids) false true) bidders ≡ true
lacks_from bids [] k h e = absurd (omega (arith, h))
lacks_from bids (b ∷ bidders) zero h e = let f : has_bid bids b.name ≡ false = e in rw f refl
lacks_from bids (b ∷ bidders) (suc k) h e =
    or_right (cond (has_bid bids b.name) false true) (list_any (λ (x : Bidder). cond (list_any (λ (s : Submission). bytes_eq s.name x.name) bids) false true) bidders)
    (lacks_from bids bidders k (omega (arith, h)) e)

pub lacks_none : (bids : List Submission) (bidders : List Bidder) → ((k : ℕ) → k < length bidders → list_any (λ (s : Submission). bytes_eq s.name (get_or (map (λ (b : Bidder). b.name) bidders) k [])) bids ≡ true)
    → list_any (λ (b : Bidder). cond (list_any (λ (s : Submission). bytes_eq s.name b.name) bids) false true) bidders ≡ false
lacks_none bids [] each = refl
lacks_none bids (b ∷ bidders) each =
    let first : has_bid bids b.name ≡ true = each 0 (omega arith) in
    rw first (lacks_none bids bidders (λ k h. each (suc k) (omega (arith, h))))

-- ---- the first bid that is no truth

module _ (ex : Exchange) (bids : List Submission) (n : ℕ) (s : Submission) (there : n < length bids) (is : s ≡ get_or bids n s) where
  rest_is : drop n bids ≡ s ∷ drop (suc n) bids
  rest_is = drop-cons bids n s there ∙ ap (λ (x : Submission). x ∷ drop (suc n) bids) (sym is)

  front_is : take (n + 1) bids ≡ take n bids ++ s ∷ []
  front_is = take_more bids n s there ∙ ap (λ (x : Submission). take n bids ++ x ∷ []) (sym is)

  pub stops_repeated : list_any (λ (o : Submission). bytes_eq o.name s.name) (take n bids) ≡ true → not_truth_from ex n (take n bids) (drop n bids) ≡ Some n
  stops_repeated e = ap (not_truth_from ex n (take n bids)) rest_is ∙ rw e refl

  pub stops_false : list_any (λ (o : Submission). bytes_eq o.name s.name) (take n bids) ≡ false → is_truth_of s (bidder_named s.name ex.bidders) ≡ false → not_truth_from ex n (take n bids) (drop n bids) ≡ Some n
  stops_false e f = ap (not_truth_from ex n (take n bids)) rest_is ∙ by
    where
      by : cond (list_any (λ (o : Submission). bytes_eq o.name s.name) (take n bids)) (Some n)
          (cond (is_truth_of s (bidder_named s.name ex.bidders)) (not_truth_from ex (suc n) (take n bids ++ s ∷ []) (drop (suc n) bids)) (Some n)) ≡ Some n
      by = ap (λ t. cond t (Some n) (cond (is_truth_of s (bidder_named s.name ex.bidders)) (not_truth_from ex (suc n) (take n bids ++ s ∷ []) (drop (suc n) bids)) (Some n))) e
          ∙ ap (λ t. cond t (not_truth_from ex (suc n) (take n bids ++ s ∷ []) (drop (suc n) bids)) (Some n)) f

  pub goes_on : list_any (λ (o : Submission). bytes_eq o.name s.name) (take n bids) ≡ false → is_truth_of s (bidder_named s.name ex.bidders) ≡ true
      → not_truth_from ex n (take n bids) (drop n bids) ≡ not_truth_from ex (n + 1) (take (n + 1) bids) (drop (n + 1) bids)
  goes_on e f =
      let more : suc n ≡ n + 1 = omega arith in
      ap (not_truth_from ex n (take n bids)) rest_is
      ∙ ap (λ t. cond t (Some n) (cond (is_truth_of s (bidder_named s.name ex.bidders)) (not_truth_from ex (suc n) (take n bids ++ s ∷ []) (drop (suc n) bids)) (Some n))) e
      ∙ ap (λ t. cond t (not_truth_from ex (suc n) (take n bids ++ s ∷ []) (drop (suc n) bids)) (Some n)) f
      ∙ ap (λ (front : List Submission). not_truth_from ex (suc n) front (drop (suc n) bids)) (sym front_is)
      ∙ ap (λ (k : ℕ). not_truth_from ex k (take (n + 1) bids) (drop k bids)) more

pub none_left : (ex : Exchange) (bids : List Submission) (n : ℕ) → length bids ≤ n → not_truth_from ex n (take n bids) (drop n bids) ≡ None
none_left ex bids n h = ap (not_truth_from ex n (take n bids)) (drop_all n bids h)

-- ---- the bidder at a place

pub nobody : Bidder
nobody = record { name = []; own = []; tree = []; bounds = no_bounds }

pub bounds_at : (bidders : List Bidder) (k : ℕ) (d : Bidder) → get_or (map (λ (b : Bidder). b.bounds) bidders) k d.bounds ≡ (get_or bidders k d).bounds
bounds_at [] k d = refl
bounds_at (b ∷ bidders) zero d = refl
bounds_at (b ∷ bidders) (suc k) d = bounds_at bidders k d

-- ---- the bid of a name

module _ (bids : List Submission) (name : List ℕ) (n : ℕ) (s : Submission) (there : n < length bids) (is : s ≡ get_or bids n s) where
  left_is : drop n bids ≡ s ∷ drop (suc n) bids
  left_is = drop-cons bids n s there ∙ ap (λ (x : Submission). x ∷ drop (suc n) bids) (sym is)

  pub truth_found : bytes_eq s.name name ≡ true → truth_in (drop n bids) name ≡ s.lo
  truth_found e = ap (λ (rest : List Submission). truth_in rest name) left_is ∙ ap (λ t. lo_of (cond t (Some s) (find (λ (x : Submission). bytes_eq x.name name) (drop (suc n) bids)))) e

  pub truth_passed : bytes_eq s.name name ≡ false → truth_in (drop n bids) name ≡ truth_in (drop (n + 1) bids) name
  truth_passed e =
      let more : suc n ≡ n + 1 = omega arith in
      ap (λ (rest : List Submission). truth_in rest name) left_is
      ∙ ap (λ t. lo_of (cond t (Some s) (find (λ (x : Submission). bytes_eq x.name name) (drop (suc n) bids)))) e
      ∙ ap (λ (k : ℕ). truth_in (drop k bids) name) more

pub truth_none : (bids : List Submission) (name : List ℕ) (n : ℕ) → length bids ≤ n → truth_in (drop n bids) name ≡ []
truth_none bids name n h = ap (λ (rest : List Submission). truth_in rest name) (drop_all n bids h)

-- ---- the truth of a place

pub truth_at : (bids : List Submission) (bidders : List Bidder) (k : ℕ) → k < length bidders → get_or (truth_lists bidders bids) k [] ≡ truth_in bids (get_or (map (λ (b : Bidder). b.name) bidders) k [])
truth_at bids [] k h = absurd (omega (arith, h))
truth_at bids (b ∷ bidders) zero h = refl
truth_at bids (b ∷ bidders) (suc k) h = truth_at bids bidders k (omega (arith, h))
