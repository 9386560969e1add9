-- The children of all nodes, one node's after another.
use Rattle.std.proofs.Common.{ℕ, zero, suc, ◌+◌, ◌-◌, ◌<◌, ◌≤◌, ◌≡◌, Bool, true, false, cond, ◌&&◌, eqb, ltb, List, [], ◌∷◌, ◌++◌, length, get_or, take, drop, refl, arith, ap, sym, ◌∙◌, ◌⊎◌, inl, inr, subst, length-append, below_more}
use Rattle.std.proofs.Math.Numerals.{add-one}
use Rattle.std.proofs.lemmas.Bool.{cases_lt}
use Rattle.std.proofs.lemmas.Bool.Decides.{nat_tests}
use Rattle.std.proofs.lemmas.List.{append-nil, append_assoc, drop_at, take_at, get_or_append_left, get_or_at}
use Rattle.std.proofs.lemmas.List.Elements.{filter-append}
use Rattle.std.specs.List.{filter}
use Rattle.ice_defs.specs.Sum.{numbers_below, count_below}
use Rattle.ice_defs.specs.Tree.{Tree, parent_of, is_child, children_of}
use Rattle.ice_defs.proofs.Sums.{count_below-le}
use Rattle.ice_tree.specs.Stored.{children_before}
use Rattle.ice_tree.proofs.Counting.{length-filter_more}

abbrev number : Bool → ℕ
number b = cond b 1 0

count_below-add : (r p q : ℕ → Bool) (n : ℕ) → ((k : ℕ) → k < n → cond (r k) 1 0 ≡ cond (p k) 1 0 + cond (q k) 1 0) → count_below r n ≡ count_below p n + count_below q n
count_below-add r p q zero each = refl
count_below-add r p q (suc n) each = omega (arith, each n (omega arith), count_below-add r p q n (λ k h. each k (omega arith)))

length-filter : (p : ℕ → Bool) (n : ℕ) → length (filter p (numbers_below n)) ≡ count_below p n
length-filter p zero = refl
length-filter p (suc n) = subst (λ m. length (filter p (numbers_below m)) ≡ count_below p n + cond (p n) 1 0) (add-one n) (omega (arith, length-filter_more p n, length-filter p n))

one_more : (c p n : ℕ) → cond (ltb 0 c && ltb p (n + 1)) 1 0 ≡ cond (ltb 0 c && ltb p n) 1 0 + cond (ltb 0 c && eqb p n) 1 0
one_more c p n = grind (arith, nat_tests)

-- each node is counted once
counted : (t : Tree) (n : ℕ) → length (children_before t n) ≡ count_below (λ c. ltb 0 c && ltb (parent_of t c) n) (length t)
counted t zero = sym (none (length t))
  where
    none : (m : ℕ) → count_below (λ c. ltb 0 c && ltb (parent_of t c) 0) m ≡ 0
    none zero = refl
    none (suc m) = omega (arith, none m, no_one m (parent_of t m))
      where
        no_one : (c p : ℕ) → number (ltb 0 c && ltb p 0) ≡ 0
        no_one c p = grind (arith, nat_tests)
counted t (suc n) =
    length-append (children_before t n) (children_of t n)
    ∙ omega (
      arith,
      counted t n,
      length-filter (is_child t n) (length t),
      subst (λ m. count_below (λ c. ltb 0 c && ltb (parent_of t c) m) (length t) ≡ count_below (λ c. ltb 0 c && ltb (parent_of t c) n) (length t) + count_below (is_child t n) (length t)) (add-one n)
          (count_below-add (λ c. ltb 0 c && ltb (parent_of t c) (n + 1)) (λ c. ltb 0 c && ltb (parent_of t c) n) (is_child t n) (length t) (λ c h. one_more c (parent_of t c) n)),
    )

pub children_before-few : (t : Tree) (n : ℕ) → length (children_before t n) ≤ length t
children_before-few t n = omega (arith, counted t n, count_below-le (λ c. ltb 0 c && ltb (parent_of t c) n) (length t))

filter-prefix : (p : ℕ → Bool) (n m : ℕ) → n ≤ m → length (filter p (numbers_below n)) ≤ length (filter p (numbers_below m))
filter-prefix p n zero h = let e : n ≡ 0 = omega arith in omega (arith, ap (λ k. length (filter p (numbers_below k))) e)
filter-prefix p n (suc m) h = by (cases_lt n (suc m)) (λ k. filter-prefix p n m k)
  where
    by : (n < suc m) ⊎ (suc m ≤ n) → (n ≤ m → length (filter p (numbers_below n)) ≤ length (filter p (numbers_below m))) → length (filter p (numbers_below n)) ≤ length (filter p (numbers_below m ++ m ∷ []))
    by (inl k) before = omega (arith, before (omega arith), ap length (filter-append p (numbers_below m) (m ∷ [])), length-append (filter p (numbers_below m)) (filter p (m ∷ [])))
    by (inr k) before = let e : n ≡ suc m = omega arith in omega (arith, ap (λ j. length (filter p (numbers_below j))) e)

-- there is room for one more child
pub has_room : (t : Tree) (n c : ℕ) → c < length t → is_child t n c ≡ true
    → length (children_before t n ++ filter (is_child t n) (numbers_below c)) < length t
has_room t n c l child =
    let more = length-filter_more (is_child t n) c in
    let one : number (is_child t n c) ≡ 1 = ap number child in
    let part = filter-prefix (is_child t n) (c + 1) (length t) (omega arith) in
    let all = children_before-few t (suc n) in
    omega (arith, more, one, part, all, length-append (children_before t n) (filter (is_child t n) (numbers_below c)), length-append (children_before t n) (children_of t n))

prefix : (t : Tree) (n m : ℕ) → n ≤ m → (rest : List ℕ) × (children_before t m ≡ children_before t n ++ rest)
prefix t n zero h = let e : 0 ≡ n = omega arith in subst (λ k. (rest : List ℕ) × (children_before t 0 ≡ children_before t k ++ rest)) e ([], refl)
prefix t n (suc m) h = by (cases_lt n (suc m)) (λ k. prefix t n m k)
  where
    by : (n < suc m) ⊎ (suc m ≤ n) → (n ≤ m → (rest : List ℕ) × (children_before t m ≡ children_before t n ++ rest)) → (rest : List ℕ) × (children_before t (suc m) ≡ children_before t n ++ rest)
    by (inl k) before =
        let (rest, e) = before (omega arith) in
        (rest ++ children_of t m, ap (λ l. l ++ children_of t m) e ∙ append_assoc (children_before t n) rest (children_of t m))
    by (inr k) before =
        let e : suc m ≡ n = omega arith in
        subst (λ j. (rest : List ℕ) × (children_before t (suc m) ≡ children_before t j ++ rest)) e ([], sym (append-nil _))

pub before-le : (t : Tree) (n m : ℕ) → n ≤ m → length (children_before t n) ≤ length (children_before t m)
before-le t n m h = let (rest, e) = prefix t n m h in omega (arith, ap length e, length-append (children_before t n) rest)

-- the children of n stand in their place
pub slice_of : (t : Tree) (n m : ℕ) → n < m
    → take (length (children_before t (n + 1)) - length (children_before t n)) (drop (length (children_before t n)) (children_before t m)) ≡ children_of t n
slice_of t n m l =
    let (rest, e) = prefix t (suc n) m l in
    let same : children_before t (n + 1) ≡ children_before t (suc n) = ap (children_before t) (add-one n) in
    let size : length (children_before t (n + 1)) - length (children_before t n) ≡ length (children_of t n) =
    omega (arith, ap length same, length-append (children_before t n) (children_of t n)) in
    ap (λ k. take k (drop (length (children_before t n)) (children_before t m))) size
    ∙ ap (λ xs. take (length (children_of t n)) (drop (length (children_before t n)) xs)) (e ∙ append_assoc (children_before t n) (children_of t n) rest)
    ∙ ap (take (length (children_of t n))) (drop_at (children_before t n) (children_of t n ++ rest) (length (children_before t n)) refl)
    ∙ take_at (children_of t n) rest (length (children_of t n)) refl

-- a loop's step
pub children_before_more : (t : Tree) (n : ℕ) → children_before t (n + 1) ≡ children_before t n ++ children_of t n
children_before_more t n = ap (children_before t) (add-one n)

pub filter_more_yes : (p : ℕ → Bool) (n : ℕ) → p n ≡ true → filter p (numbers_below (n + 1)) ≡ filter p (numbers_below n) ++ n ∷ []
filter_more_yes p n e = ap (λ m. filter p (numbers_below m)) (add-one n) ∙ filter-append p (numbers_below n) (n ∷ []) ∙ ap (λ b. filter p (numbers_below n) ++ cond b (n ∷ []) []) e

pub filter_more_no : (p : ℕ → Bool) (n : ℕ) → p n ≡ false → filter p (numbers_below (n + 1)) ≡ filter p (numbers_below n)
filter_more_no p n e =
    ap (λ m. filter p (numbers_below m)) (add-one n) ∙ filter-append p (numbers_below n) (n ∷ []) ∙ ap (λ b. filter p (numbers_below n) ++ cond b (n ∷ []) []) e ∙ append-nil _

-- a list that gives f at each index, and one more
pub pushed : (xs ys : List ℕ) (x p : ℕ) (f : ℕ → ℕ) → ys ≡ xs ++ x ∷ [] → length xs ≡ p → ((k : ℕ) → k < p → get_or xs k 0 ≡ f k) → x ≡ f p
    → (k : ℕ) → k < p + 1 → get_or ys k 0 ≡ f k
pushed xs ys x p f e size before here =
    below_more _ _
    (λ k h. ap (λ l. get_or l k 0) e ∙ get_or_append_left xs (x ∷ []) 0 k (omega arith) ∙ before k h)
    (ap (λ l. get_or l p 0) e ∙ get_or_at xs x [] 0 p size ∙ here)
