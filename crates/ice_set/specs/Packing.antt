-- Four words are found again from their bits.
use Rattle.std.proofs.Common.{◌≡◌, ◌≢◌, ℕ, zero, suc, ◌+◌, ◌-◌, ◌*◌, ◌^◌, ◌/◌, ◌%◌, ◌<◌, ◌≤◌, List, [], ◌∷◌, Bool, true, false, length}
use Rattle.std.proofs.Common.{get_or, refl, sym, ap, ◌∙◌, ◌⊎◌, inl, inr, subst, arith}
use Rattle.std.specs.Prelude.{nat_eq}
use Rattle.std.specs.Bool.{Decides, beq}
use Rattle.std.specs.Int.{bit_at}
use Rattle.std.specs.Cmp.Lexicographic.{pointwise}
use Rattle.std.proofs.lemmas.Slice.Eq.{slice_eq-Decides, bytes_eq-Decides}
use Rattle.std.proofs.lemmas.Bool.{cases_lt, false_from_ne_true}
use Rattle.std.proofs.lemmas.Nat.Bits.{bit_at-lt, bit_at_cat_low, bit_at_cat_high, same_from_bits_below}
use Rattle.std.proofs.lemmas.List.{get_or_past}
use Rattle.ice_set.specs.Words.{bit_of, bits_of, digit, number_of, word_from, words_of, ArePacked}
use Rattle.ice_set.specs.Bits.{length-bits_of, get_or-bits_of, bits_of-same, zeros_read, zeros_unset}

number_of-lt : (p : ℕ → Bool) (n : ℕ) → number_of p n < 2 ^ n
unfolding number_of
number_of-lt p zero = omega arith
number_of-lt p (suc n) = by (p n) (number_of-lt p n)
  where
    by : (b : Bool) → number_of p n < 2 ^ n → digit b * 2 ^ n + number_of p n < 2 ^ suc n
    by true h = omega arith
    by false h = omega arith

digit_bit : (b : Bool) (i : ℕ) → i ≡ 0 → nat_eq (bit_at (digit b) i) 1 ≡ b
digit_bit true i e = ap (λ k. nat_eq (bit_at 1 k) 1) e
digit_bit false i e = ap (λ k. nat_eq (bit_at 0 k) 1) e

bit_at-number_of : (p : ℕ → Bool) (n i : ℕ) → i < n → nat_eq (bit_at (number_of p n) i) 1 ≡ p i
unfolding number_of
bit_at-number_of p zero i h = absurd (omega arith)
bit_at-number_of p (suc n) i h = by (cases_lt i n) (λ l. bit_at-number_of p n i l)
  where
    by : (i < n) ⊎ (n ≤ i) → (i < n → nat_eq (bit_at (number_of p n) i) 1 ≡ p i)
        → nat_eq (bit_at (digit (p n) * 2 ^ n + number_of p n) i) 1 ≡ p i
    by (inl l) before = ap (λ b. nat_eq b 1) (bit_at_cat_low (digit (p n)) n (number_of p n) i l) ∙ before l
    by (inr l) before =
        let same : n ≡ i = omega arith in
        ap (λ b. nat_eq b 1) (bit_at_cat_high (digit (p n)) n (number_of p n) i (number_of-lt p n) l)
        ∙ digit_bit (p n) (i - n) (omega arith) ∙ ap p same

-- two bits with the same test are equal
same_bit : (a b : ℕ) → a < 2 → b < 2 → nat_eq a 1 ≡ nat_eq b 1 → a ≡ b
same_bit zero zero l m e = refl
same_bit zero (suc zero) l m e = absurd (cc)
same_bit (suc zero) zero l m e = absurd (cc)
same_bit (suc zero) (suc zero) l m e = refl
same_bit (suc (suc a)) b l m e = absurd (omega arith)
same_bit zero (suc (suc b)) l m e = absurd (omega arith)
same_bit (suc zero) (suc (suc b)) l m e = absurd (omega arith)

-- the bits of the list, and no bit past its end
bits_read : (words : List ℕ) (n : ℕ) → ArePacked words n → (i : ℕ) → i < 256 → get_or (bits_of words n) i false ≡ bit_of words i
bits_read words n packed i h = by (cases_lt i n)
  where
    by : (i < n) ⊎ (n ≤ i) → get_or (bits_of words n) i false ≡ bit_of words i
    by (inl l) = get_or-bits_of words n i l
    by (inr l) = get_or_past (bits_of words n) i false (omega (arith, length-bits_of words n)) ∙ sym (packed.unset i l h)

word_back : (words : List ℕ) (n k : ℕ) → ArePacked words n → k < 4 → word_from (bits_of words n) (k * 64) ≡ get_or words k 0
word_back words n k packed h =
    same_from_bits_below 64 (word_from (bits_of words n) (k * 64)) (get_or words k 0) (number_of-lt _ 64) (packed.small k h)
    (λ i l. same_bit _ _ (bit_at-lt _ i) (bit_at-lt _ i)
    (bit_at-number_of (λ j. get_or (bits_of words n) (k * 64 + j) false) 64 i l ∙ bits_read words n packed (k * 64 + i) (omega arith)
    ∙ place i l))
  where
    place : (i : ℕ) → i < 64 → bit_of words (k * 64 + i) ≡ nat_eq (bit_at (get_or words k 0) i) 1
    place i l =
        let word : (k * 64 + i) / 64 ≡ k = omega arith in
        let bit : (k * 64 + i) % 64 ≡ i = omega arith in
        rw (word, bit) refl

four_words : (words : List ℕ) → length words ≡ 4 → words ≡ get_or words 0 0 ∷ get_or words 1 0 ∷ get_or words 2 0 ∷ get_or words 3 0 ∷ []
four_words [] e = absurd (omega arith)
four_words (a ∷ []) e = absurd (omega arith)
four_words (a ∷ b ∷ []) e = absurd (omega arith)
four_words (a ∷ b ∷ c ∷ []) e = absurd (omega arith)
four_words (a ∷ b ∷ c ∷ d ∷ []) e = refl
four_words (a ∷ b ∷ c ∷ d ∷ f ∷ rest) e = absurd (omega arith)

pub words_of-bits_of : (words : List ℕ) (n : ℕ) → ArePacked words n → words_of (bits_of words n) ≡ words
unfolding words_of
words_of-bits_of words n packed =
    ap (λ a. a ∷ word_from bits 64 ∷ word_from bits 128 ∷ word_from bits 192 ∷ []) (word_back words n 0 packed (omega arith))
    ∙ ap (λ b. get_or words 0 0 ∷ b ∷ word_from bits 128 ∷ word_from bits 192 ∷ []) (word_back words n 1 packed (omega arith))
    ∙ ap (λ c. get_or words 0 0 ∷ get_or words 1 0 ∷ c ∷ word_from bits 192 ∷ []) (word_back words n 2 packed (omega arith))
    ∙ ap (λ d. get_or words 0 0 ∷ get_or words 1 0 ∷ get_or words 2 0 ∷ d ∷ []) (word_back words n 3 packed (omega arith))
    ∙ sym (four_words words packed.four)
  where
    bits : List Bool
    bits = bits_of words n

-- words with the same bits are the same
pub words-same : (a b : List ℕ) (n : ℕ) → ArePacked a n → ArePacked b n → bits_of a n ≡ bits_of b n → a ≡ b
words-same a b n first second e = sym (words_of-bits_of a n first) ∙ ap words_of e ∙ words_of-bits_of b n second

-- words of zero have no bit
pub ArePacked-zeros : (n : ℕ) → n ≤ 200 → ArePacked (0 ∷ 0 ∷ 0 ∷ 0 ∷ []) n
ArePacked-zeros n few = record {
  few = few;
  four = refl;
  small = λ k l. omega (arith, zeros_read k);
  unset = λ i l m. zeros_unset i;
}

beq-Decides : (a b : Bool) → Decides (beq a b) (a ≡ b)
beq-Decides true true = (λ e. refl, λ e. refl)
beq-Decides true false = (λ e. sym e, λ e. sym e)
beq-Decides false true = (λ e. e, λ e. e)
beq-Decides false false = (λ e. refl, λ e. refl)

-- `==` of two lists of truth values decides whether they are equal
pub bits_eq-Decides : (xs ys : List Bool) → Decides (pointwise beq xs ys) (xs ≡ ys)
bits_eq-Decides xs ys = slice_eq-Decides beq-Decides xs ys (pointwise beq xs ys) refl

same_decision : (x y : Bool) (P : Type 0) → Decides x P → Decides y P → x ≡ y
same_decision true y P dx dy = sym (dy.1 (dx.0 refl))
same_decision false true P dx dy = dx.1 (dy.0 refl)
same_decision false false P dx dy = refl

-- two packed lists are equal where their lengths and words are
module _ (a b : List ℕ) (n m : ℕ) (first : ArePacked a n) (second : ArePacked b m) where
  pub words_eq-bits : n ≡ m → pointwise nat_eq a b ≡ pointwise beq (bits_of a n) (bits_of b m)
  words_eq-bits same =
      same_decision (pointwise nat_eq a b) (pointwise beq (bits_of a n) (bits_of b m)) (bits_of a n ≡ bits_of b m) (
        λ w. ap (λ (xs : List ℕ). bits_of xs n) ((bytes_eq-Decides a b).0 w) ∙ ap (bits_of b) same,
        λ bits. (bytes_eq-Decides a b).1
            (words-same a b n first (subst (ArePacked b) (sym same) second) (bits ∙ ap (bits_of b) (sym same))),
      )
      (bits_eq-Decides (bits_of a n) (bits_of b m))

  pub lengths_ne-bits : n ≢ m → pointwise beq (bits_of a n) (bits_of b m) ≡ false
  lengths_ne-bits other =
      false_from_ne_true _ (λ bits.
      other (sym (length-bits_of a n) ∙ ap length ((bits_eq-Decides (bits_of a n) (bits_of b m)).0 bits) ∙ length-bits_of b m))

-- no bit of a packed list is true where its words are 0
module _ (words : List ℕ) (n : ℕ) (packed : ArePacked words n) where
  pub all_false-from_zeros : pointwise nat_eq words (0 ∷ 0 ∷ 0 ∷ 0 ∷ []) ≡ true → (k : ℕ) → k < n → get_or (bits_of words n) k false ≡ false
  all_false-from_zeros e k h =
      let same : words ≡ 0 ∷ 0 ∷ 0 ∷ 0 ∷ [] = (bytes_eq-Decides words (0 ∷ 0 ∷ 0 ∷ 0 ∷ [])).0 e in
      get_or-bits_of words n k h ∙ ap (λ w. bit_of w k) same ∙ zeros_unset k

  pub zeros-from_all_false : ((k : ℕ) → k < n → get_or (bits_of words n) k false ≡ false)
      → pointwise nat_eq words (0 ∷ 0 ∷ 0 ∷ 0 ∷ []) ≡ true
  zeros-from_all_false each =
      (bytes_eq-Decides words (0 ∷ 0 ∷ 0 ∷ 0 ∷ [])).1
      (words-same words (0 ∷ 0 ∷ 0 ∷ 0 ∷ []) n packed (ArePacked-zeros n packed.few)
      (bits_of-same words (0 ∷ 0 ∷ 0 ∷ 0 ∷ []) n (λ k h. sym (get_or-bits_of words n k h) ∙ each k h ∙ sym (zeros_unset k))))
