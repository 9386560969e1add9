-- Names are ASCII, and so text.
use Rattle.std.proofs.Common.{◌≡◌, ℕ, zero, suc, ◌<◌, true, ◌&&◌, leb, List, [], ◌∷◌, length, get_or, arith}
use Rattle.std.specs.List.{list_all}
use Rattle.std.specs.Str.{IsUtf8}
use Rattle.std.proofs.lemmas.Bool.{and_parts}
use Rattle.std.proofs.lemmas.Bool.Decides.{nat_tests}
use Rattle.std.proofs.lemmas.Str.{IsUtf8-from_ascii}
use Rattle.ice_defs.specs.Name.{is_name_byte}
use Rattle.ice_terms.specs.Terms.{IsName}

name_byte : (b : ℕ) → is_name_byte b ≡ true → b < 128
name_byte b h = grind (arith, nat_tests)

ascii_at : (bs : List ℕ) → list_all is_name_byte bs ≡ true → (i : ℕ) → get_or bs i 0 < 128
ascii_at [] h i = omega arith
ascii_at (b ∷ bs) h zero = name_byte b (and_parts (is_name_byte b) (list_all is_name_byte bs) h).0
ascii_at (b ∷ bs) h (suc i) = ascii_at bs (and_parts (is_name_byte b) (list_all is_name_byte bs) h).1 i

-- a name is text
pub name_text : (name : List ℕ) → IsName name → IsUtf8 name
name_text name h =
    let tests : (leb 1 (length name) && leb (length name) 32 && list_all is_name_byte name) ≡ true = h in
    IsUtf8-from_ascii name (ascii_at name (and_parts (leb 1 (length name) && leb (length name) 32) (list_all is_name_byte name) tests).1)
