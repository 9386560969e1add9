-- Reading and writing one bit of the list that words are.
use Rattle.std.proofs.Common.{◌^◌, ◌≡◌, ◌≢◌, ℕ, zero, suc, [], ◌∷◌, ◌/◌, ◌%◌, ◌<◌, List, Bool, true, false, length, get_or, set, refl, sym}
use Rattle.std.proofs.Common.{ap, ◌∙◌, arith}
use Rattle.std.specs.Prelude.{nat_eq, replicate}
use Rattle.std.specs.Int.{bit_at}
use Rattle.std.proofs.lemmas.List.FromFn.{get_or-map-range_with_len, length-map-range_with_len, fill_by_all}
use Rattle.std.proofs.lemmas.List.{get_or-set_same, get_or-set_other, length-set, get_or-replicate, length-replicate}
use Rattle.std.proofs.lemmas.Nat.Bits.{bit_at-zero}
use Rattle.std.proofs.lemmas.Bool.{eqb-false, eqb-true}
use Rattle.ice_set.specs.Words.{bit_of, bits_of, ArePacked}

pub length-bits_of : (words : List ℕ) (n : ℕ) → length (bits_of words n) ≡ n
unfolding bits_of
length-bits_of words n = length-map-range_with_len (bit_of words) 0 n

pub get_or-bits_of : (words : List ℕ) (n i : ℕ) → i < n → get_or (bits_of words n) i false ≡ bit_of words i
unfolding bits_of
get_or-bits_of words n i h = get_or-map-range_with_len (bit_of words) 0 n i i false h (omega arith)

-- the same bits one by one
pub bits_of-same : (a b : List ℕ) (n : ℕ) → ((k : ℕ) → k < n → bit_of a k ≡ bit_of b k) → bits_of a n ≡ bits_of b n
unfolding bits_of
bits_of-same a b n each = fill_by_all (bit_of b) (bits_of a n) n false (length-bits_of a n) (λ k h. get_or-bits_of a n k h ∙ each k h)

-- a write at i is the list of the new words, where they differ at bit i alone
pub bits_of-set : (old new : List ℕ) (n i : ℕ) (on : Bool) → i < n → bit_of new i ≡ on
    → ((k : ℕ) → k < n → k ≢ i → bit_of new k ≡ bit_of old k) → bits_of new n ≡ set (bits_of old n) i on
unfolding bits_of
bits_of-set old new n i on h same other =
    sym (fill_by_all (bit_of new) (set (bits_of old n) i on) n false (length-set (bits_of old n) i on ∙ length-bits_of old n)
    (λ k hk. by_case k hk (nat_eq k i) refl))
  where
    by_case : (k : ℕ) → k < n → (b : Bool) → nat_eq k i ≡ b → get_or (set (bits_of old n) i on) k false ≡ bit_of new k
    by_case k hk true e =
        let ki : k ≡ i = eqb-true k i e in
        let lt : i < length (bits_of old n) = rw (length-bits_of old n) h in
        rw ki (get_or-set_same (bits_of old n) i on false lt ∙ sym same)
    by_case k hk false e =
        let ne : k ≢ i = eqb-false k i e in
        get_or-set_other (bits_of old n) i k on false ne ∙ get_or-bits_of old n k hk ∙ sym (other k hk ne)

-- one word w takes the place of the word with bit i, and differs from it at that bit alone
module _ (words : List ℕ) (i w : ℕ) (inside : i / 64 < length words)
    (other : (k : ℕ) → k < 64 → k ≢ i % 64 → bit_at w k ≡ bit_at (get_or words (i / 64) 0) k) where
  pub bit_of-put : (k : ℕ) → k ≢ i → bit_of (set words (i / 64) w) k ≡ bit_of words k
  bit_of-put k ne = by_word (nat_eq (k / 64) (i / 64)) refl
    where
      by_word : (b : Bool) → nat_eq (k / 64) (i / 64) ≡ b → bit_of (set words (i / 64) w) k ≡ bit_of words k
      by_word true e =
          let e' : k / 64 ≡ i / 64 = eqb-true (k / 64) (i / 64) e in
          let r : k % 64 ≢ i % 64 = λ x. ne (omega (arith, x)) in
          let low : k % 64 < 64 = omega arith in
          rw (e', get_or-set_same words (i / 64) w 0 inside) (ap (λ m. nat_eq m 1) (other (k % 64) low r))
      by_word false e =
          let ne' : k / 64 ≢ i / 64 = eqb-false (k / 64) (i / 64) e in
          rw (get_or-set_other words (i / 64) (k / 64) w 0 ne') refl

  pub bits_of-put : (n : ℕ) (on : Bool) → i < n → nat_eq (bit_at w (i % 64)) 1 ≡ on
      → bits_of (set words (i / 64) w) n ≡ set (bits_of words n) i on
  bits_of-put n on h same =
      bits_of-set words (set words (i / 64) w) n i on h (rw (get_or-set_same words (i / 64) w 0 inside) same) (λ k hk ne. bit_of-put k ne)

  pub ArePacked-put : (n : ℕ) → i < n → w < 2 ^ 64 → ArePacked words n → ArePacked (set words (i / 64) w) n
  ArePacked-put n h low packed = record {
    few = packed.few;
    four = length-set words (i / 64) w ∙ packed.four;
    small = λ k l. by k l (nat_eq k (i / 64)) refl;
    unset = λ k l m. bit_of-put k (λ e. omega (arith, e)) ∙ packed.unset k l m;
  }
    where
      by : (k : ℕ) → k < 4 → (b : Bool) → nat_eq k (i / 64) ≡ b → get_or (set words (i / 64) w) k 0 < 2 ^ 64
      by k l true e =
          let e' : k ≡ i / 64 = eqb-true k (i / 64) e in
          rw (e', get_or-set_same words (i / 64) w 0 inside) low
      by k l false e =
          let ne : k ≢ i / 64 = eqb-false k (i / 64) e in
          rw (get_or-set_other words (i / 64) k w 0 ne) (packed.small k l)

abbrev pub zeros : List ℕ
zeros = 0 ∷ 0 ∷ 0 ∷ 0 ∷ []

pub zeros_read : (j : ℕ) → let z : ℕ = 0 in get_or zeros j z ≡ z
zeros_read zero = refl
zeros_read (suc zero) = refl
zeros_read (suc (suc zero)) = refl
zeros_read (suc (suc (suc zero))) = refl
zeros_read (suc (suc (suc (suc j)))) = refl

pub zeros_unset : (k : ℕ) → bit_of (0 ∷ 0 ∷ 0 ∷ 0 ∷ []) k ≡ false
zeros_unset k = ap (λ w. nat_eq (bit_at w (k % 64)) 1) (zeros_read (k / 64)) ∙ ap (λ b. nat_eq b 1) (bit_at-zero (k % 64))

-- no bit of zero is set
pub bits_of-zeros : (n : ℕ) → bits_of (0 ∷ 0 ∷ 0 ∷ 0 ∷ []) n ≡ replicate n false
unfolding bits_of
bits_of-zeros n =
    sym (fill_by_all (bit_of zeros) (replicate n false) n false (length-replicate n false)
    (λ k h. get_or-replicate n k false false h ∙ sym (zeros_unset k)))
