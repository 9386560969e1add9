-- Whole numbers of a value.
use Rattle.std.proofs.Common.{◌≡◌, ℕ, ◌≤◌, ◌^◌, Bool, true, false, Some, None, ℤ, pos, FitsSigned, w64, refl, sym, arith}
use Rattle.std.specs.Prelude.{◌&&◌, int_le, nat_lt, is_some, option_and_then, if◌then◌else◌}
use Rattle.std.proofs.lemmas.Int.{ints}
use Rattle.std.proofs.lemmas.Bool.Decides.{nat_tests}
use Rattle.std.proofs.lemmas.Bool.{and_right}
use Rattle.serde_json.specs.Data.{Data, unsigned, negative, float, null, boolean, number, string, array, object}
use Rattle.serde_json.specs.Find.{as_number, as_i64, as_u64, as_integer}
use Rattle.ice_defs.specs.FileFault.{Path, refuse}
use Rattle.ice_read.specs.Values.{whole_of, in_range}

pub no_number : (d : Data) (low high : ℤ) (path : Path) → false ≡ is_some (as_number d) → whole_of path low high d ≡ refuse 2 path
no_number null low high path e = refl
no_number (boolean b) low high path e = refl
no_number (number n) low high path e = cc
no_number (string s) low high path e = refl
no_number (array ds) low high path e = refl
no_number (object ms) low high path e = refl

pub whole_signed : (d : Data) → is_some (option_and_then as_i64 (as_number d)) ≡ true → true ≡ is_some (option_and_then as_integer (as_number d))
whole_signed null e = sym e
whole_signed (boolean b) e = sym e
whole_signed (number (unsigned n)) e = refl
whole_signed (number (negative z)) e = refl
whole_signed (number (float x)) e = sym e
whole_signed (string s) e = sym e
whole_signed (array ds) e = sym e
whole_signed (object ms) e = sym e

pub whole_unsigned : (d : Data) → is_some (option_and_then as_i64 (as_number d)) ≡ false → is_some (option_and_then as_u64 (as_number d)) ≡ is_some (option_and_then as_integer (as_number d))
whole_unsigned null e = refl
whole_unsigned (boolean b) e = refl
whole_unsigned (number (unsigned n)) e = refl
whole_unsigned (number (negative z)) e = sym e
whole_unsigned (number (float x)) e = refl
whole_unsigned (string s) e = refl
whole_unsigned (array ds) e = refl
whole_unsigned (object ms) e = refl

pub ruleset wholes = (whole_signed, whole_unsigned)

pub not_whole : (d : Data) (low high : ℤ) (path : Path) → true ≡ is_some (as_number d) → false ≡ is_some (option_and_then as_integer (as_number d)) → whole_of path low high d ≡ refuse 3 path
not_whole null low high path e whole = cc
not_whole (boolean b) low high path e whole = cc
not_whole (number (unsigned n)) low high path e whole = cc
not_whole (number (negative z)) low high path e whole = cc
not_whole (number (float x)) low high path e whole = refl
not_whole (string s) low high path e whole = cc
not_whole (array ds) low high path e whole = cc
not_whole (object ms) low high path e whole = cc

outside : (path : Path) (low high z : ℤ) → (int_le low z && int_le z high) ≡ false → in_range path low high z ≡ refuse 4 path
outside path low high z e = rw e

-- a number that fits 64 bits, but not the limits
pub out_of_range : (d : Data) (low high z : ℤ) (path : Path) → Some z ≡ option_and_then as_i64 (as_number d) → (int_le low z && int_le z high) ≡ false → whole_of path low high d ≡ refuse 4 path
out_of_range null low high z path e out = cc
out_of_range (boolean b) low high z path e out = cc
out_of_range (number (unsigned n)) low high z path e out = by_size (nat_lt n (2 ^ 63)) e
  where
    by_size : (small : Bool) → Some z ≡ (if small then Some (pos n) else None) → in_range path low high (pos n) ≡ refuse 4 path
    by_size true is = let same : z ≡ pos n = cc in rw (← same) (outside path low high z out)
    by_size false is = cc
out_of_range (number (negative y)) low high z path e out = let same : z ≡ y = cc in rw (← same) (outside path low high z out)
out_of_range (number (float x)) low high z path e out = cc
out_of_range (string s) low high z path e out = cc
out_of_range (array ds) low high z path e out = cc
out_of_range (object ms) low high z path e out = cc

large : (n : ℕ) (high : ℤ) → 2 ^ 63 ≤ n → FitsSigned w64 high → int_le (pos n) high ≡ false
large n high big fits = grind (arith, ints)

-- a whole number that does not fit 64 bits with a sign
pub too_large : (d : Data) (low high : ℤ) (path : Path) → None ≡ option_and_then as_i64 (as_number d) → true ≡ is_some (option_and_then as_integer (as_number d)) → FitsSigned w64 high
    → whole_of path low high d ≡ refuse 4 path
too_large null low high path signed whole fits = cc
too_large (boolean b) low high path signed whole fits = cc
too_large (number (unsigned n)) low high path signed whole fits = by_size (nat_lt n (2 ^ 63)) refl signed
  where
    by_size : (small : Bool) → nat_lt n (2 ^ 63) ≡ small → None ≡ (if small then Some (pos n) else None) → in_range path low high (pos n) ≡ refuse 4 path
    by_size true size is = cc
    by_size false size is =
        let above : int_le (pos n) high ≡ false = large n high (grind (arith, nat_tests)) fits in
        outside path low high (pos n) (rw above (and_right (int_le low (pos n)) false refl))
too_large (number (negative y)) low high path signed whole fits = cc
too_large (number (float x)) low high path signed whole fits = cc
too_large (string s) low high path signed whole fits = cc
too_large (array ds) low high path signed whole fits = cc
too_large (object ms) low high path signed whole fits = cc
