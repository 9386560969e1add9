-- Changes of multipliers, their goods strictly ascending.
use Rattle.std.proofs.Common.{◌≡◌, ℕ, suc, ◌<◌, ◌≤◌, List, [], ◌∷◌, ◌++◌, length, decimal, refl, sym, ap, subst, ◌∙◌, arith, length-append}
use Rattle.std.specs.List.{AllByRecursion, flat_map}
use Rattle.std.specs.Fmt.{signed_decimal}
use Rattle.std.proofs.lemmas.List.Concat.{flat_map-cons}
use Rattle.ice_line.proofs.Digits.{decimal_same}
use Rattle.ice_journal.specs.Records.{Change}
use Rattle.ice_journal.specs.Ranges.{Ascends, IsChange}
use Rattle.ice_journal.specs.Spelling.{change_fields}
use Rattle.ice_journal.proofs.OneSpelling.{multiplier_same}

-- the least good that may come after these
abbrev pub next_good : ℕ → List Change → ℕ
next_good least [] = least
next_good least (c ∷ cs) = next_good (suc c.good) cs

abbrev pub AreFrom : ℕ → List Change → Type 0
AreFrom least cs = Ascends least cs × AllByRecursion IsChange cs

pub ascends_push : (least : ℕ) (cs : List Change) (c : Change) → Ascends least cs → next_good least cs ≤ c.good → Ascends least (cs ++ c ∷ [])
ascends_push least [] c h le = (le, tt)
ascends_push least (d ∷ ds) c h le = (h.0, ascends_push (suc d.good) ds c h.1 le)

pub all_push : (cs : List Change) (c : Change) → AllByRecursion IsChange cs → IsChange c → AllByRecursion IsChange (cs ++ c ∷ [])
all_push [] c h p = (p, tt)
all_push (d ∷ ds) c h p = (h.0, all_push ds c h.1 p)

pub next_push : (least : ℕ) (cs : List Change) (c : Change) → next_good least (cs ++ c ∷ []) ≡ suc c.good
next_push least [] c = refl
next_push least (d ∷ ds) c = next_push (suc d.good) ds c

cons_fields : (c : Change) (cs : List Change) → flat_map change_fields (c ∷ cs) ≡ decimal c.good ∷ signed_decimal c.multiplier ∷ flat_map change_fields cs
cons_fields c cs = flat_map-cons change_fields c cs

pub fields_push : (cs : List Change) (c : Change) (after : List (List ℕ)) → flat_map change_fields cs ++ (change_fields c ++ after) ≡ flat_map change_fields (cs ++ c ∷ []) ++ after
fields_push [] c after = ap (λ (fs : List (List ℕ)). fs ++ after) (sym (cons_fields c []))
fields_push (d ∷ ds) c after =
    ap (λ (fs : List (List ℕ)). fs ++ (change_fields c ++ after)) (cons_fields d ds)
    ∙ ap (λ (fs : List (List ℕ)). decimal d.good ∷ signed_decimal d.multiplier ∷ fs) (fields_push ds c after)
    ∙ ap (λ (fs : List (List ℕ)). fs ++ after) (sym (cons_fields d (ds ++ c ∷ [])))

pub record Later (least : ℕ) (xs ys : List Change) (fields : List (List ℕ)) : Type 0 where
  pub tail : List Change
  pub whole : ys ≡ xs ++ tail
  pub from : AreFrom (next_good least xs) tail
  pub spelled : fields ≡ flat_map change_fields tail

changes_front : (least : ℕ) (xs ys : List Change) (fields : List (List ℕ)) → AreFrom least xs → AreFrom least ys → length xs ≤ length ys → flat_map change_fields xs ++ fields ≡ flat_map change_fields ys → Later least xs ys fields
changes_front least [] ys fields p q le e = record { tail = ys; whole = refl; from = q; spelled = e }
changes_front least (x ∷ xs) [] fields p q le e = absurd (omega arith)
changes_front least (x ∷ xs) (y ∷ ys) fields p q le e =
    let all : decimal x.good ∷ signed_decimal x.multiplier ∷ (flat_map change_fields xs ++ fields) ≡ decimal y.good ∷ signed_decimal y.multiplier ∷ flat_map change_fields ys = sym (ap (λ (fs : List (List ℕ)). fs ++ fields) (cons_fields x xs)) ∙ e ∙ cons_fields y ys in
    let goods : decimal x.good ≡ decimal y.good = cc in
    let numbers : signed_decimal x.multiplier ≡ signed_decimal y.multiplier = cc in
    let more : flat_map change_fields xs ++ fields ≡ flat_map change_fields ys = cc in
    let good : y.good ≡ x.good = decimal_same y.good x.good (omega (arith, q.1.0.0)) (omega (arith, p.1.0.0)) (sym goods) in
    let multiplier : y.multiplier ≡ x.multiplier = multiplier_same y.multiplier x.multiplier q.1.0.1 p.1.0.1 (sym numbers) in
    let above : Ascends (suc x.good) ys = let P : ℕ → Type 0 = λ g. Ascends (suc g) ys in subst P good q.0.1 in
    let later = changes_front (suc x.good) xs ys fields (p.0.1, p.1.1) (above, q.1.1) (omega arith) more in
    record { tail = later.tail; whole = λ i. record { good = good i; multiplier = multiplier i } ∷ later.whole i; from = later.from; spelled = later.spelled }

-- the count is read, and so many of the changes
pub record PartRead (entry : List (List ℕ)) (count : ℕ) (items : List Change) (fields : List (List ℕ)) : Type 0 where
  pub first : List ℕ
  pub left : List (List ℕ)
  pub entry_is : entry ≡ first ∷ left
  pub only : (n : ℕ) → n ≤ 32 → first ≡ decimal n → n ≡ count
  pub left_is : left ≡ flat_map change_fields items ++ fields
  pub changes : AreFrom 0 items
  pub fits : length items ≤ count

abbrev pub AreChanges : List Change → Type 0
AreChanges changes = (length changes ≤ 32) × Ascends 0 changes × AllByRecursion IsChange changes

rest_of : (entry : List (List ℕ)) (count : ℕ) (items : List Change) (fields : List (List ℕ)) → PartRead entry count items fields
    → (ys : List Change) → AreChanges ys → entry ≡ decimal (length ys) ∷ flat_map change_fields ys → (length ys ≡ count) × Later 0 items ys fields
rest_of entry count items fields read ys lawful e =
    let shape : read.first ∷ read.left ≡ decimal (length ys) ∷ flat_map change_fields ys = sym read.entry_is ∙ e in
    let counts : read.first ≡ decimal (length ys) = cc in
    let more : read.left ≡ flat_map change_fields ys = cc in
    let count_is : length ys ≡ count = read.only (length ys) lawful.0 counts in
    (count_is, changes_front 0 items ys fields read.changes (lawful.1, lawful.2) (omega (arith, read.fits)) (sym read.left_is ∙ more))

no_change : (least : ℕ) (tail : List Change) (fields : List (List ℕ)) → AreFrom least tail → 0 < length tail → fields ≡ flat_map change_fields tail
    → ((c : Change) (rest : List (List ℕ)) → (least ≤ c.good) × IsChange c → fields ≡ change_fields c ++ rest → ⊥) → ⊥
no_change least [] fields p some e none = absurd (omega arith)
no_change least (c ∷ cs) fields p some e none = none c (flat_map change_fields cs) (p.0.0, p.1.0) (e ∙ cons_fields c cs)

-- fields among them that spell no change
pub bad_change : (entry : List (List ℕ)) (count least : ℕ) (items : List Change) (fields : List (List ℕ)) → PartRead entry count items fields → length items < count → least ≡ next_good 0 items
    → ((c : Change) (rest : List (List ℕ)) → (least ≤ c.good) × IsChange c → fields ≡ change_fields c ++ rest → ⊥)
    → (ys : List Change) → AreChanges ys → entry ≡ decimal (length ys) ∷ flat_map change_fields ys → ⊥
bad_change entry count least items fields read short is none ys lawful e =
    let found = rest_of entry count items fields read ys lawful e in
    let from : AreFrom least found.1.tail = let P : ℕ → Type 0 = λ g. AreFrom g found.1.tail in subst P (sym is) found.1.from in
    no_change least found.1.tail fields from (omega (arith, found.0, ap length found.1.whole, length-append items found.1.tail)) found.1.spelled none

nil_fields : (tail : List Change) (fields : List (List ℕ)) → length tail ≡ 0 → fields ≡ flat_map change_fields tail → fields ≡ []
nil_fields [] fields none e = e
nil_fields (c ∷ cs) fields none e = absurd (omega arith)

-- no field comes after the last change
pub fields_done : (entry : List (List ℕ)) (count : ℕ) (items : List Change) (fields : List (List ℕ)) → PartRead entry count items fields → count ≤ length items
    → (ys : List Change) → AreChanges ys → entry ≡ decimal (length ys) ∷ flat_map change_fields ys → fields ≡ []
fields_done entry count items fields read done ys lawful e =
    let found = rest_of entry count items fields read ys lawful e in
    nil_fields found.1.tail fields (omega (arith, found.0, read.fits, ap length found.1.whole, length-append items found.1.tail)) found.1.spelled
