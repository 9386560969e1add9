-- A line that is written field by field.
use Rattle.std.specs.Prelude.{ℕ, Bool, true, false, List, [], ◌∷◌, ◌++◌, ℤ}
use Rattle.std.specs.Fmt.{signed_decimal}

-- a field more, after a space where it is not the first
abbrev pub with_field : List ℕ → List ℕ → List ℕ
with_field [] field = field
with_field (b ∷ bs) field = (b ∷ bs) ++ 32 ∷ field

abbrev pub with_fields : List ℕ → List (List ℕ) → List ℕ
with_fields text [] = text
with_fields text (field ∷ fields) = with_fields (with_field text field) fields

abbrev pub bit_byte : Bool → ℕ
bit_byte true = 49
bit_byte false = 48

-- numerator, slash, denominator
abbrev pub fraction_text : ℤ → ℤ → List ℕ
fraction_text num den = signed_decimal num ++ 47 ∷ signed_decimal den
