-- Lists behind their count.
use Rattle.std.proofs.Common.{◌≡◌, ℕ, ◌<◌, ◌≤◌, List, [], ◌∷◌, ◌++◌, length, map, decimal, ℤ, sym, ap, ◌∙◌, arith, append-nil, length-append}
use Rattle.std.specs.List.{AllByRecursion}
use Rattle.std.specs.Fmt.{signed_decimal}
use Rattle.std.proofs.lemmas.List.{nil_from_length}
use Rattle.ice_journal.specs.Ranges.{IsValue}
use Rattle.ice_journal.specs.Spelling.{counted_list}
use Rattle.ice_journal.proofs.Listed.{Tail, front}
use Rattle.ice_journal.proofs.OneSpelling.{value_same}

abbrev pub AreValues : List ℤ → Type 0
AreValues values = (length values ≤ 200) × AllByRecursion IsValue values

-- the count is read, and so many of the values
pub record PartRead (entry : List (List ℕ)) (count : ℕ) (items : List ℤ) (fields : List (List ℕ)) : Type 0 where
  pub first : List ℕ
  pub left : List (List ℕ)
  pub entry_is : entry ≡ first ∷ left
  pub only : (n : ℕ) → n ≤ 200 → first ≡ decimal n → n ≡ count
  pub left_is : left ≡ map signed_decimal items ++ fields
  pub values : AllByRecursion IsValue items
  pub fits : length items ≤ count

rest_of : (entry : List (List ℕ)) (count : ℕ) (items : List ℤ) (fields : List (List ℕ)) → PartRead entry count items fields
    → (ys : List ℤ) (rest : List (List ℕ)) → AreValues ys → entry ≡ counted_list ys ++ rest → (length ys ≡ count) × Tail IsValue signed_decimal items ys fields rest
rest_of entry count items fields read ys rest lawful e =
    let shape : read.first ∷ read.left ≡ decimal (length ys) ∷ (map signed_decimal ys ++ rest) = sym read.entry_is ∙ e in
    let counts : read.first ≡ decimal (length ys) = cc in
    let more : read.left ≡ map signed_decimal ys ++ rest = cc in
    let count_is : length ys ≡ count = read.only (length ys) lawful.0 counts in
    (count_is, front IsValue signed_decimal value_same items ys fields rest read.values lawful.1 (omega (arith, read.fits)) (sym read.left_is ∙ more))

no_value : (tail : List ℤ) (field : List ℕ) (after fields rest : List (List ℕ)) → AllByRecursion IsValue tail → 0 < length tail → fields ≡ field ∷ after → fields ≡ map signed_decimal tail ++ rest
    → ((z : ℤ) → IsValue z → field ≡ signed_decimal z → ⊥) → ⊥
no_value [] field after fields rest p some cut e none = absurd (omega arith)
no_value (z ∷ zs) field after fields rest p some cut e none = none z p.0 (let h : field ∷ after ≡ signed_decimal z ∷ (map signed_decimal zs ++ rest) = sym cut ∙ e in cc)

-- a field among them that spells no value
pub bad_value : (entry : List (List ℕ)) (count : ℕ) (items : List ℤ) (fields after : List (List ℕ)) (field : List ℕ) → PartRead entry count items fields → length items < count → fields ≡ field ∷ after
    → ((z : ℤ) → IsValue z → field ≡ signed_decimal z → ⊥) → (ys : List ℤ) (rest : List (List ℕ)) → AreValues ys → entry ≡ counted_list ys ++ rest → ⊥
bad_value entry count items fields after field read short cut none ys rest lawful e =
    let found = rest_of entry count items fields read ys rest lawful e in
    no_value found.1.tail field after fields rest found.1.lawful (omega (arith, found.0, ap length found.1.whole, length-append items found.1.tail)) cut found.1.spelled none

-- all of them are read
pub all_values : (entry : List (List ℕ)) (count : ℕ) (items : List ℤ) (fields : List (List ℕ)) → PartRead entry count items fields → count ≤ length items
    → (ys : List ℤ) (rest : List (List ℕ)) → AreValues ys → entry ≡ counted_list ys ++ rest → (ys ≡ items) × (rest ≡ fields)
all_values entry count items fields read done ys rest lawful e =
    let found = rest_of entry count items fields read ys rest lawful e in
    let none : found.1.tail ≡ [] = nil_from_length found.1.tail (omega (arith, found.0, read.fits, ap length found.1.whole, length-append items found.1.tail)) in (
      found.1.whole ∙ ap (λ (t : List ℤ). items ++ t) none ∙ append-nil items,
      sym (found.1.spelled ∙ ap (λ (t : List ℤ). map signed_decimal t ++ rest) none),
    )
