-- Sets that are spelled with one character per node.
use Rattle.std.proofs.Common.{◌≡◌, ℕ, zero, suc, ◌<◌, Bool, List, [], ◌∷◌, length, get_or, map, take, set, refl, sym, ap, ◌∙◌, arith}
use Rattle.ice_journal.specs.Spelling.{bit_byte}

bit_at : (bits : List Bool) (i : ℕ) → i < length bits → (b : Bool) × (get_or (map bit_byte bits) i 0 ≡ bit_byte b)
bit_at [] i lt = absurd (omega arith)
bit_at (b ∷ bits) zero lt = (b, refl)
bit_at (b ∷ bits) (suc i) lt = bit_at bits i (omega arith)

length_bits : (bits : List Bool) → length (map bit_byte bits) ≡ length bits
length_bits [] = refl
length_bits (b ∷ bits) = ap suc (length_bits bits)

-- a character that is no bit
pub not_bits : (bits : List Bool) (field : List ℕ) (i : ℕ) → field ≡ map bit_byte bits → i < length field → ((b : Bool) → get_or field i 0 ≡ bit_byte b → ⊥) → ⊥
not_bits bits field i e lt none =
    let at = bit_at bits i (omega (arith, ap length e, length_bits bits)) in
    none at.0 (ap (λ (f : List ℕ). get_or f i 0) e ∙ at.1)

-- a bit more
pub read_more : (field : List ℕ) (s : List Bool) (i : ℕ) (on : Bool) → length s ≡ length field → i < length field → map bit_byte (take i s) ≡ take i field → get_or field i 0 ≡ bit_byte on
    → map bit_byte (take (suc i) (set s i on)) ≡ take (suc i) field
read_more [] s i on same lt read here = absurd (omega arith)
read_more (f ∷ fs) [] i on same lt read here = absurd (omega arith)
read_more (f ∷ fs) (b ∷ bs) zero on same lt read here = ap (λ x. x ∷ []) (sym here)
read_more (f ∷ fs) (b ∷ bs) (suc i) on same lt read here =
    let heads : bit_byte b ≡ f = cc in
    let more : map bit_byte (take i bs) ≡ take i fs = cc in
    let later = read_more fs bs i on (omega arith) (omega arith) more here in
    λ j. heads j ∷ later j
