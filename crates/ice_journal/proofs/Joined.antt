-- Fields that are written one after another stand with a space between each two.
use Rattle.std.proofs.Common.{◌≡◌, ℕ, ◌+◌, ◌<◌, ◌≤◌, ◌^◌, decimal, pos, neg_ℤ, List, [], ◌∷◌, ◌++◌, length, ℤ, refl, sym, ap, ◌∙◌, append_assoc, arith, length-append}
use lib.Signed.{mag}
use Rattle.std.specs.List.{join_with_byte}
use Rattle.std.specs.Fmt.{signed_decimal}
use Rattle.std.proofs.lemmas.Fmt.{length_signed_le, length-decimal-le}
use Rattle.std.proofs.lemmas.Int.{ints}
use Rattle.ice_line.specs.Writing.{with_field, with_fields}
use Rattle.ice_line.proofs.Signed.{mag_abs, mag_between}
use Rattle.ice_journal.specs.Records.{Record}
use Rattle.ice_defs.specs.Exchange.{IsBetween}
use Rattle.ice_journal.specs.Ranges.{IsValue}
use Rattle.ice_journal.specs.Spelling.{fields_of, text_of}
use Rattle.ice_journal.proofs.Clear.{abs_between}

joined_then : (a b : List ℕ) (fields : List (List ℕ)) → join_with_byte 32 ((a ++ 32 ∷ b) ∷ fields) ≡ a ++ 32 ∷ join_with_byte 32 (b ∷ fields)
joined_then a b [] = refl
joined_then a b (f ∷ fs) = append_assoc a (32 ∷ b) (32 ∷ join_with_byte 32 (f ∷ fs))

pub with_fields-joined : (b : ℕ) (bs : List ℕ) (fields : List (List ℕ)) → with_fields (b ∷ bs) fields ≡ join_with_byte 32 ((b ∷ bs) ∷ fields)
with_fields-joined b bs [] = refl
with_fields-joined b bs (f ∷ fs) = with_fields-joined b (bs ++ 32 ∷ f) fs ∙ joined_then (b ∷ bs) f fs

-- a first word and then the other fields of a record are its text
pub text_is : (r : Record) (b : ℕ) (bs : List ℕ) (more : List (List ℕ)) (out : List ℕ) → fields_of r ≡ (b ∷ bs) ∷ more → out ≡ with_fields (b ∷ bs) more → out ≡ text_of r
text_is r b bs more out fields written = written ∙ with_fields-joined b bs more ∙ ap (join_with_byte 32) (sym fields)

-- two lists of fields, one after the other
pub with_fields-append : (text : List ℕ) (a b : List (List ℕ)) → with_fields text (a ++ b) ≡ with_fields (with_fields text a) b
with_fields-append text [] b = refl
with_fields-append text (f ∷ fs) b = with_fields-append (with_field text f) fs b

with_field_length : (text field : List ℕ) → length (with_field text field) ≤ length text + length field + 1
with_field_length [] field = omega arith
with_field_length (b ∷ bs) field = omega (arith, length-append bs (32 ∷ field))

pub value_length : (text out : List ℕ) (z : ℤ) → IsValue z → out ≡ with_field text (signed_decimal z) → length out ≤ length text + 12
value_length text out z h e =
    let abs = abs_between 1000000000 1000000000 z h in
    let short : length (signed_decimal z) ≤ 11 = length_signed_le 10 z (omega (arith, abs, mag_abs z)) (omega (arith, abs, mag_abs z)) in
    omega (arith, ap length e, with_field_length text (signed_decimal z), short)

pub toll_length : (z : ℤ) → IsBetween (neg_ℤ (pos (2 ^ 62))) (pos (2 ^ 62)) z → length (signed_decimal z) ≤ 20
toll_length z h =
    let size : mag z < 2 ^ 63 = mag_between (neg_ℤ (pos (2 ^ 62))) (pos (2 ^ 62)) z (omega (arith, ints)) (omega (arith, ints)) h.0 h.1 in
    length_signed_le 19 z (omega arith) (omega arith)

pub number_length : (text out : List ℕ) (n : ℕ) (z : ℤ) → (n ≤ 2031) × IsBetween (neg_ℤ (pos (2 ^ 62))) (pos (2 ^ 62)) z → out ≡ with_field (with_field text (decimal n)) (signed_decimal z)
    → length out ≤ length text + 26
number_length text out n z h e =
    let number : length (decimal n) ≤ 4 = length-decimal-le 4 n (omega arith) (omega (arith, h.0)) (omega (arith, h.0)) in
    let amount : length (signed_decimal z) ≤ 20 = toll_length z h.1 in
    omega (arith, ap length e, with_field_length text (decimal n), with_field_length (with_field text (decimal n)) (signed_decimal z), number, amount)
