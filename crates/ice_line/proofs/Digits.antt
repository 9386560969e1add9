-- The digits of a number, read from the left.
use Rattle.std.proofs.Common.{◌≡◌, ℕ, zero, suc, ◌+◌, ◌*◌, ◌/◌, ◌%◌, ◌^◌, ◌<◌, ◌≤◌, List, [], ◌∷◌, ◌++◌, length, get_or, take, drop, decimal, refl, sym, ap, subst, ◌∙◌, append_assoc, arith, drop-cons}
use Rattle.std.specs.Int.{IsInRange}
use Rattle.std.specs.Str.Parse.{AllDigits, digits_value}
use Rattle.std.proofs.lemmas.Str.Parse.{digit_from_value, digits_value-take-le}
use Rattle.std.proofs.lemmas.Fmt.{decimal_is_IsNumeral_wide, decimal_step_wide, decimal_by_steps_wide, decimal_digit}
use Rattle.std.proofs.lemmas.List.{take-append-le, take_all, drop_all, append-nil}

-- a digit more
pub decimal_push : (v d : ℕ) (rest : List ℕ) → 0 < v → d < 10 → v < 10 ^ 60 → decimal v ++ (48 + d) ∷ rest ≡ decimal (v * 10 + d) ++ rest
decimal_push v d rest some digit small =
    let whole : (v * 10 + d) / 10 ≡ v = omega arith in
    let last : (v * 10 + d) % 10 ≡ d = omega arith in
    let step : decimal (v * 10 + d) ≡ decimal v ++ (48 + d) ∷ [] = rw (whole, last) at (decimal_step_wide (v * 10 + d) (omega arith) (omega arith)) in
    rw step (sym (append_assoc (decimal v) ((48 + d) ∷ []) rest))

pub decimal_same : (m n : ℕ) → m < 10 ^ 60 → n < 10 ^ 60 → decimal m ≡ decimal n → m ≡ n
decimal_same m n hm hn e =
    sym (decimal_is_IsNumeral_wide m (omega arith)).1 ∙ ap (digits_value 10) e ∙ (decimal_is_IsNumeral_wide n (omega arith)).1

digit_within : (a rest : List ℕ) (b : ℕ) → AllDigits 10 (a ++ b ∷ rest) → IsInRange 48 57 b
digit_within [] rest b h = digit_from_value b h.0
digit_within (x ∷ xs) rest b h = digit_within xs rest b h.1

-- each byte of a number's text is a digit
pub decimal_digits : (a rest : List ℕ) (b n : ℕ) → n < 10 ^ 60 → a ++ b ∷ rest ≡ decimal n → IsInRange 48 57 b
decimal_digits a rest b n small e =
    digit_within a rest b (subst (AllDigits 10) (sym e) (decimal_is_IsNumeral_wide n (omega arith)).0.1)

-- a number is at least what its first digits spell
pub first_digits : (m n : ℕ) (rest : List ℕ) → m < 10 ^ 60 → n < 10 ^ 60 → decimal m ++ rest ≡ decimal n → m ≤ n
first_digits m n rest hm hn e =
    let front : take (length (decimal m)) (decimal n) ≡ decimal m = ap (take (length (decimal m))) (sym e) ∙ take-append-le (length (decimal m)) (decimal m) rest (omega arith) ∙ take_all (length (decimal m)) (decimal m) (omega arith) in
    let at = digits_value-take-le 10 (decimal n) (length (decimal m)) (omega arith) in
    let left : digits_value 10 (take (length (decimal m)) (decimal n)) ≡ m = ap (digits_value 10) front ∙ (decimal_is_IsNumeral_wide m (omega arith)).1 in
    let right : digits_value 10 (decimal n) ≡ n = (decimal_is_IsNumeral_wide n (omega arith)).1 in
    rw (left, right) at at

-- above 0, and the first digit is above 0 too
abbrev FirstAbove : ℕ → List ℕ → Type 0
FirstAbove n ds = (0 < n → 48 < get_or ds 0 0) × (0 < length ds)

first_above : (n : ℕ) (ds : List ℕ) → 10 ≤ n → FirstAbove (n / 10) ds → FirstAbove n (ds ++ (48 + n % 10) ∷ [])
first_above n [] h p = absurd (omega (arith, p.1))
first_above n (d ∷ ds) h p = (λ some. p.0 (omega arith), omega arith)

-- only 0 begins with 0, and nothing comes after it
pub begins_with_zero : (n : ℕ) (rest : List ℕ) → n < 10 ^ 60 → 48 ∷ rest ≡ decimal n → (n ≡ 0) × (rest ≡ [])
begins_with_zero zero rest small e = (refl, let h : 48 ∷ rest ≡ 48 ∷ [] = e ∙ decimal_digit 0 (omega arith) in cc)
begins_with_zero (suc n) rest small e =
    let above : FirstAbove (suc n) (decimal (suc n)) = decimal_by_steps_wide FirstAbove (λ k h. (λ some. omega arith, omega arith)) first_above (suc n) (omega arith) in
    let first : get_or (decimal (suc n)) 0 0 ≡ 48 = ap (λ (ds : List ℕ). get_or ds 0 0) (sym e) in
    absurd (omega (arith, above.0 (omega arith), first))

-- the digits so far, and those from here on
abbrev pub IsSplitAt : List ℕ → ℕ → List ℕ → ℕ → Type 0
IsSplitAt whole v rest i = decimal v ++ drop i rest ≡ whole

at_byte : (whole rest : List ℕ) (v i : ℕ) → IsSplitAt whole v rest i → i < length rest → decimal v ++ get_or rest i 0 ∷ drop (i + 1) rest ≡ whole
at_byte whole rest v i e lt =
    let next : suc i ≡ i + 1 = omega arith in
    let first : drop i rest ≡ get_or rest i 0 ∷ drop (i + 1) rest = drop-cons rest i 0 lt ∙ ap (λ k. get_or rest i 0 ∷ drop k rest) next in
    ap (λ (ds : List ℕ). decimal v ++ ds) (sym first) ∙ e

pub bad_digit : (whole rest : List ℕ) (v i n : ℕ) → IsSplitAt whole v rest i → i < length rest → ¬ IsInRange 48 57 (get_or rest i 0) → n < 10 ^ 60 → whole ≡ decimal n → ⊥
bad_digit whole rest v i n e lt other small same =
    other (decimal_digits (decimal v) (drop (i + 1) rest) (get_or rest i 0) n small (at_byte whole rest v i e lt ∙ same))

pub next_digit : (whole rest : List ℕ) (v i d : ℕ) → IsSplitAt whole v rest i → i < length rest → get_or rest i 0 ≡ 48 + d → d < 10 → 0 < v → v < 10 ^ 60 → IsSplitAt whole (v * 10 + d) rest (i + 1)
next_digit whole rest v i d e lt here digit some small =
    sym (decimal_push v d (drop (i + 1) rest) some digit small) ∙ rw here at (at_byte whole rest v i e lt)

pub too_large : (whole rest : List ℕ) (v i d n : ℕ) → IsSplitAt whole v rest i → i < length rest → get_or rest i 0 ≡ 48 + d → d < 10 → 0 < v → v < 10 ^ 50 → n < 10 ^ 60 → whole ≡ decimal n → v * 10 + d ≤ n
too_large whole rest v i d n e lt here digit some small small_too same =
    first_digits (v * 10 + d) n (drop (i + 1) rest) (omega arith) small_too (next_digit whole rest v i d e lt here digit some (omega arith) ∙ same)

-- all digits are read
pub all_read : (whole rest : List ℕ) (v i : ℕ) → IsSplitAt whole v rest i → length rest ≤ i → whole ≡ decimal v
all_read whole rest v i e done = sym e ∙ ap (λ (ds : List ℕ). decimal v ++ ds) (drop_all i rest done) ∙ append-nil (decimal v)

-- a field whose first byte is a digit
pub first_digit : (field rest : List ℕ) (first d : ℕ) → field ≡ first ∷ rest → first ≡ 48 + d → d < 10 → decimal d ++ rest ≡ field
first_digit field rest first d cut byte digit =
    ap (λ (ds : List ℕ). ds ++ rest) (decimal_digit d digit) ∙ ap (λ b. b ∷ rest) (sym byte) ∙ sym cut

pub first_zero : (field rest : List ℕ) (first d n : ℕ) → field ≡ first ∷ rest → first ≡ 48 + d → d ≤ 0 → n < 10 ^ 60 → field ≡ decimal n → (n ≡ 0) × (rest ≡ [])
first_zero field rest first d n cut byte none small e =
    let is_zero : first ≡ 48 = omega arith in
    begins_with_zero n rest small (ap (λ b. b ∷ rest) (sym is_zero) ∙ sym cut ∙ e)

pub only_zero : (field rest : List ℕ) (first d : ℕ) → field ≡ first ∷ rest → first ≡ 48 + d → d ≤ 0 → length rest ≡ 0 → field ≡ decimal 0
only_zero field [] first d cut byte none end =
    let is_zero : first ≡ 48 = omega arith in
    cut ∙ ap (λ b. b ∷ []) is_zero ∙ sym (decimal_digit 0 (omega arith))
only_zero field (b ∷ bs) first d cut byte none end = absurd (omega arith)
