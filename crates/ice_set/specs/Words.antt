-- Words of 64 bits as a list of truth values, and back.
use Rattle.std.specs.Prelude.{ℕ, zero, suc, ◌+◌, ◌*◌, ◌^◌, ◌/◌, ◌%◌, ◌<◌, ◌≤◌, ◌≡◌, List, [], ◌∷◌, Bool, true, false, length, map, nat_eq}
use Rattle.std.specs.Prelude.{slice_index, slice_index_or}
use Rattle.std.specs.List.{range_with_len}
use Rattle.std.specs.Int.{bit_at}

-- whether bit i is set, counted from the lowest bit of the first word
abbrev pub bit_of : List ℕ → ℕ → Bool
bit_of words i = nat_eq (bit_at (slice_index words (i / 64)) (i % 64)) 1

-- the first n bits
unfoldable pub bits_of : List ℕ → ℕ → List Bool
bits_of words n = map (bit_of words) (range_with_len 0 n)

abbrev pub digit : Bool → ℕ
digit false = 0
digit true = 1

-- the number of n bits that has bit i exactly where i passes
unfoldable pub number_of : (ℕ → Bool) → ℕ → ℕ
number_of p zero = 0
number_of p (suc n) = digit (p n) * 2 ^ n + number_of p n

-- the word whose lowest bit is this one of the list
abbrev pub word_from : List Bool → ℕ → ℕ
word_from bits first = number_of (λ i. slice_index_or bits (first + i) false) 64

-- the four words of at most 256 bits
unfoldable pub words_of : List Bool → List ℕ
words_of bits = word_from bits 0 ∷ word_from bits 64 ∷ word_from bits 128 ∷ word_from bits 192 ∷ []

-- four words of which n bits count, at most 200; the others are not set
pub record ArePacked (words : List ℕ) (n : ℕ) : Type 0 where
  pub few : n ≤ 200
  pub four : length words ≡ 4
  pub small : (k : ℕ) → k < 4 → slice_index words k < 2 ^ 64
  pub unset : (i : ℕ) → n ≤ i → i < 256 → bit_of words i ≡ false
