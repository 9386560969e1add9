-- Numbers, strictly ascending, each with what stands at it.
use Rattle.std.proofs.Common.{◌≡◌, ℕ, suc, ◌<◌, ◌≤◌, List, [], ◌∷◌, ◌++◌, length, decimal, refl, sym, ap, subst, ◌∙◌, arith, length-append}
use Rattle.std.specs.List.{AllByRecursion, flat_map}
use Rattle.std.specs.Fmt.{signed_decimal}
use Rattle.std.proofs.lemmas.List.Concat.{flat_map-cons}
use Rattle.ice_line.proofs.Digits.{decimal_same}
use Rattle.ice_journal.specs.Records.{Numbered}
use Rattle.ice_journal.specs.Ranges.{Climbs, IsToll, AreNumbers}
use Rattle.ice_journal.specs.Spelling.{numbered_fields, numbers_fields}
use Rattle.ice_journal.specs.Listed.{most_of, IsOf}
use Rattle.ice_journal.specs.declared.numbered.Listed.{Listed}
use Rattle.ice_journal.specs.declared.numbered.Listed.TheVariants as listed
use Rattle.ice_journal.proofs.Clear.{amount_toll}
use Rattle.ice_journal.proofs.OneSpelling.{toll_same}

pub listed_toll : (l : Listed) (n : Numbered) → IsOf l n → IsToll n
listed_toll listed.Tolls n h = h
listed_toll listed.Amounts n h = amount_toll n h

pub most_fits : (l : Listed) → most_of l ≤ 300
most_fits listed.Tolls = omega arith
most_fits listed.Amounts = omega arith

-- the least number that may come after these
abbrev pub next_number : ℕ → List Numbered → ℕ
next_number least [] = least
next_number least (n ∷ ns) = next_number (suc n.number) ns

abbrev pub AreFrom : (Numbered → Type 0) → ℕ → List Numbered → Type 0
AreFrom P least ns = Climbs least ns × AllByRecursion P ns

pub climbs_push : (least : ℕ) (ns : List Numbered) (n : Numbered) → Climbs least ns → next_number least ns ≤ n.number → Climbs least (ns ++ n ∷ [])
climbs_push least [] n h le = (le, tt)
climbs_push least (m ∷ ms) n h le = (h.0, climbs_push (suc m.number) ms n h.1 le)

pub all_push : (P : Numbered → Type 0) (ns : List Numbered) (n : Numbered) → AllByRecursion P ns → P n → AllByRecursion P (ns ++ n ∷ [])
all_push P [] n h p = (p, tt)
all_push P (m ∷ ms) n h p = (h.0, all_push P ms n h.1 p)

pub next_push : (least : ℕ) (ns : List Numbered) (n : Numbered) → next_number least (ns ++ n ∷ []) ≡ suc n.number
next_push least [] n = refl
next_push least (m ∷ ms) n = next_push (suc m.number) ms n

cons_fields : (n : Numbered) (ns : List Numbered) → flat_map numbered_fields (n ∷ ns) ≡ decimal n.number ∷ signed_decimal n.amount ∷ flat_map numbered_fields ns
cons_fields n ns = flat_map-cons numbered_fields n ns

pub fields_push : (ns : List Numbered) (n : Numbered) (after : List (List ℕ)) → flat_map numbered_fields ns ++ (numbered_fields n ++ after) ≡ flat_map numbered_fields (ns ++ n ∷ []) ++ after
fields_push [] n after = ap (λ (fs : List (List ℕ)). fs ++ after) (sym (cons_fields n []))
fields_push (m ∷ ms) n after =
    ap (λ (fs : List (List ℕ)). fs ++ (numbered_fields n ++ after)) (cons_fields m ms)
    ∙ ap (λ (fs : List (List ℕ)). decimal m.number ∷ signed_decimal m.amount ∷ fs) (fields_push ms n after)
    ∙ ap (λ (fs : List (List ℕ)). fs ++ after) (sym (cons_fields m (ms ++ n ∷ [])))

pub record Later (l : Listed) (least : ℕ) (xs ys : List Numbered) (fields : List (List ℕ)) : Type 0 where
  pub tail : List Numbered
  pub whole : ys ≡ xs ++ tail
  pub from : AreFrom (IsOf l) (next_number least xs) tail
  pub spelled : fields ≡ flat_map numbered_fields tail

numbers_front : (l : Listed) (least : ℕ) (xs ys : List Numbered) (fields : List (List ℕ)) → AreFrom (IsOf l) least xs → AreFrom (IsOf l) least ys → length xs ≤ length ys → flat_map numbered_fields xs ++ fields ≡ flat_map numbered_fields ys → Later l least xs ys fields
numbers_front l least [] ys fields p q le e = record { tail = ys; whole = refl; from = q; spelled = e }
numbers_front l least (x ∷ xs) [] fields p q le e = absurd (omega arith)
numbers_front l least (x ∷ xs) (y ∷ ys) fields p q le e =
    let all : decimal x.number ∷ signed_decimal x.amount ∷ (flat_map numbered_fields xs ++ fields) ≡ decimal y.number ∷ signed_decimal y.amount ∷ flat_map numbered_fields ys = sym (ap (λ (fs : List (List ℕ)). fs ++ fields) (cons_fields x xs)) ∙ e ∙ cons_fields y ys in
    let numbers : decimal x.number ≡ decimal y.number = cc in
    let amounts : signed_decimal x.amount ≡ signed_decimal y.amount = cc in
    let more : flat_map numbered_fields xs ++ fields ≡ flat_map numbered_fields ys = cc in
    let px = listed_toll l x p.1.0 in
    let py = listed_toll l y q.1.0 in
    let number : y.number ≡ x.number = decimal_same y.number x.number (omega (arith, py.0)) (omega (arith, px.0)) (sym numbers) in
    let amount : y.amount ≡ x.amount = toll_same y.amount x.amount py.1 px.1 (sym amounts) in
    let above : Climbs (suc x.number) ys = let P : ℕ → Type 0 = λ g. Climbs (suc g) ys in subst P number q.0.1 in
    let later = numbers_front l (suc x.number) xs ys fields (p.0.1, p.1.1) (above, q.1.1) (omega arith) more in
    record { tail = later.tail; whole = λ i. record { number = number i; amount = amount i } ∷ later.whole i; from = later.from; spelled = later.spelled }

-- the count is read, and so many of the numbers
pub record PartRead (l : Listed) (few many : ℕ) (entry : List (List ℕ)) (count : ℕ) (items : List Numbered) (fields : List (List ℕ)) : Type 0 where
  pub left : List (List ℕ)
  pub only : (n : ℕ) (rest : List (List ℕ)) → (few ≤ n) × (n ≤ many) → entry ≡ decimal n ∷ rest → (n ≡ count) × (rest ≡ left)
  pub left_is : left ≡ flat_map numbered_fields items ++ fields
  pub numbers : AreFrom (IsOf l) 0 items
  pub fits : length items ≤ count

rest_of : (l : Listed) (few many : ℕ) (entry : List (List ℕ)) (count : ℕ) (items : List Numbered) (fields : List (List ℕ)) → PartRead l few many entry count items fields
    → (ys : List Numbered) → AreNumbers few many (IsOf l) ys → entry ≡ numbers_fields ys → (length ys ≡ count) × Later l 0 items ys fields
rest_of l few many entry count items fields read ys lawful e =
    let only = read.only (length ys) (flat_map numbered_fields ys) lawful.0 e in
    (only.0, numbers_front l 0 items ys fields read.numbers (lawful.1, lawful.2) (omega (arith, only.0, read.fits)) (sym read.left_is ∙ sym only.1))

no_number : (l : Listed) (least : ℕ) (tail : List Numbered) (fields : List (List ℕ)) → AreFrom (IsOf l) least tail → 0 < length tail → fields ≡ flat_map numbered_fields tail
    → ((n : Numbered) (rest : List (List ℕ)) → (least ≤ n.number) × IsOf l n → fields ≡ numbered_fields n ++ rest → ⊥) → ⊥
no_number l least [] fields p some e none = absurd (omega arith)
no_number l least (n ∷ ns) fields p some e none = none n (flat_map numbered_fields ns) (p.0.0, p.1.0) (e ∙ cons_fields n ns)

-- fields among them that spell no number
pub bad_number : (l : Listed) (few many : ℕ) (entry : List (List ℕ)) (count least : ℕ) (items : List Numbered) (fields : List (List ℕ)) → PartRead l few many entry count items fields → length items < count → least ≡ next_number 0 items
    → ((n : Numbered) (rest : List (List ℕ)) → (least ≤ n.number) × IsOf l n → fields ≡ numbered_fields n ++ rest → ⊥)
    → (ys : List Numbered) → AreNumbers few many (IsOf l) ys → entry ≡ numbers_fields ys → ⊥
bad_number l few many entry count least items fields read short is none ys lawful e =
    let found = rest_of l few many entry count items fields read ys lawful e in
    let from : AreFrom (IsOf l) least found.1.tail = let P : ℕ → Type 0 = λ g. AreFrom (IsOf l) g found.1.tail in subst P (sym is) found.1.from in
    no_number l least found.1.tail fields from (omega (arith, found.0, ap length found.1.whole, length-append items found.1.tail)) found.1.spelled none

nil_fields : (tail : List Numbered) (fields : List (List ℕ)) → length tail ≡ 0 → fields ≡ flat_map numbered_fields tail → fields ≡ []
nil_fields [] fields none e = e
nil_fields (n ∷ ns) fields none e = absurd (omega arith)

-- no field comes after the last number
pub fields_done : (l : Listed) (few many : ℕ) (entry : List (List ℕ)) (count : ℕ) (items : List Numbered) (fields : List (List ℕ)) → PartRead l few many entry count items fields → count ≤ length items
    → (ys : List Numbered) → AreNumbers few many (IsOf l) ys → entry ≡ numbers_fields ys → fields ≡ []
fields_done l few many entry count items fields read done ys lawful e =
    let found = rest_of l few many entry count items fields read ys lawful e in
    nil_fields found.1.tail fields (omega (arith, found.0, read.fits, ap length found.1.whole, length-append items found.1.tail)) found.1.spelled
