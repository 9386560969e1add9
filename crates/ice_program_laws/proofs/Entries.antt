-- The entries of the rows after a pivot.
use Rattle.std.proofs.Common.{◌≡◌, ◌≢◌, ◌↔◌, ℕ, zero, suc, ◌+◌, ◌<◌, refl, sym, ap, subst, ◌∙◌, arith, if◌then◌else◌, Some, None, List, [], ◌∷◌, length, slice_index_or, pos}
use Rattle.std.specs.Option.{option_map, option_and_then}
use Rattle.std.proofs.lemmas.Bool.{eq-eqb, ne_eqb}
use Rattle.ice_defs.specs.Fraction.{Fraction, whole_number, IsFraction, Equals, plus, times, negation, fraction_at}
use Rattle.ice_defs.specs.Frac.{add, mul, div}
use Rattle.ice_defs.specs.Dictionary.{all_of, pivot_entry, pivot_entries, other_entry, other_entries}
use Rattle.ice_frac.proofs.Rational.{ℚ, ◌+ℚ◌, ◌*ℚ◌, neg_ℚ, one_positive, rational_of, rational_of-negated, rational_of-same, rational_of-whole, Equals_from_rational_of}
use Rattle.ice_program_laws.specs.Solutions.{values_sum}
use Rattle.ice_program_laws.proofs.Field.{*ℚ-neg}
use Rattle.ice_program_laws.proofs.SumsQ.{sum_ℚ}
use Rattle.ice_program_laws.proofs.Results.{Means, means_itself, means-plus, means-times, then_some, map_some, AreAll, all_some, mul_means, add_means, IsQuotient, div_means}
use Rattle.ice_program_laws.proofs.PivotQ.{IsTurned, IsAdded, by_place, row_value}

abbrev pub rats : List Fraction → ℕ → ℚ
rats es j = rational_of (fraction_at es j)

abbrev pub values_at : (ℕ → Fraction) → List ℕ → ℕ → ℚ
values_at value vs j = rational_of (value (slice_index_or vs j 0))

-- a list of n proper fractions
pub record Are (n : ℕ) (es : List Fraction) : Type 0 where
  pub same_length : length es ≡ n
  pub proper : (j : ℕ) → j < n → IsFraction (fraction_at es j)

-- ---- what a row says

pub values_sum-means : (value : ℕ → Fraction) (vs : List ℕ) (es : List Fraction) → ((v : ℕ) → IsFraction (value v)) → length es ≡ length vs
    → ((j : ℕ) → j < length vs → IsFraction (fraction_at es j)) → Means (values_sum value vs es) (sum_ℚ (λ j. rats es j *ℚ values_at value vs j) (length vs))
values_sum-means value [] es hv same he = record { proper = one_positive; value = rational_of-whole (pos 0) }
values_sum-means value (v ∷ vs) [] hv same he = absurd (omega arith)
values_sum-means value (v ∷ vs) (e ∷ es) hv same he =
    means-plus (times e (value v)) (values_sum value vs es) _ _ (means-times e (value v) _ _ (means_itself e (he zero (omega arith))) (means_itself (value v) (hv v)))
    (values_sum-means value vs es hv (omega arith) (λ j h. he (suc j) (omega arith)))

pub met_is : (value : ℕ → Fraction) (vs : List ℕ) (es : List Fraction) (x b : Fraction) → ((v : ℕ) → IsFraction (value v)) → Are (length vs) es → IsFraction x → IsFraction b
    → Equals x (plus b (values_sum value vs es)) ↔ (rational_of x ≡ row_value (length vs) (rational_of b) (rats es) (values_at value vs))
met_is value vs es x b hv he hx hb =
    let m : Means (plus b (values_sum value vs es)) (row_value (length vs) (rational_of b) (rats es) (values_at value vs)) =
    means-plus b (values_sum value vs es) _ _ (means_itself b hb) (values_sum-means value vs es hv he.same_length he.proper) in
    (λ h. rational_of-same x (plus b (values_sum value vs es)) hx m.proper h ∙ m.value, λ h. Equals_from_rational_of x (plus b (values_sum value vs es)) hx m.proper (h ∙ sym m.value))

-- ---- the new row of the leaving variable's place

pivot_entries-length : (a : Fraction) (k s : ℕ) (es : List Fraction) → length (pivot_entries a k s es) ≡ length es
pivot_entries-length a k s [] = refl
pivot_entries-length a k s (e ∷ es) = ap suc (pivot_entries-length a k (suc s) es)

pivot_entries-at : (a : Fraction) (k s : ℕ) (es : List Fraction) (j : ℕ) → j < length es → slice_index_or (pivot_entries a k s es) j None ≡ pivot_entry a k (s + j) (fraction_at es j)
pivot_entries-at a k s [] j l = absurd (omega arith)
pivot_entries-at a k s (e ∷ es) zero l = let h : s ≡ s + zero = omega arith in ap (λ i. pivot_entry a k i e) h
pivot_entries-at a k s (e ∷ es) (suc j) l =
    let h : suc s + j ≡ s + suc j = omega arith in
    pivot_entries-at a k (suc s) es j (omega arith) ∙ ap (λ i. pivot_entry a k i (fraction_at es j)) h

pivot_entry-same : (a : Fraction) (k : ℕ) (e : Fraction) → pivot_entry a k k e ≡ div (whole_number (pos 1)) a
pivot_entry-same a k e = ap (λ b. if b then div (whole_number (pos 1)) a else option_map negation (div e a)) (eq-eqb k k refl)

pivot_entry-other : (a : Fraction) (k j : ℕ) (e : Fraction) → j ≢ k → pivot_entry a k j e ≡ option_map negation (div e a)
pivot_entry-other a k j e ne = ap (λ b. if b then div (whole_number (pos 1)) a else option_map negation (div e a)) (ne_eqb j k ne)

-- the negated quotient
record IsNegatedQuotient (e a r : Fraction) : Type 0 where
  pub proper : IsFraction r
  pub value : rational_of a *ℚ rational_of r ≡ neg_ℚ (rational_of e)

negated_quotient : (e a r : Fraction) → IsFraction e → IsFraction a → a.num ≢ pos 0 → option_map negation (div e a) ≡ Some r → IsNegatedQuotient e a r
negated_quotient e a r he ha n h =
    let found = map_some negation (div e a) r h in
    let q : IsQuotient e a found.0 = div_means e a found.0 he ha n found.1 in
    subst (λ x. IsNegatedQuotient e a x) found.2
    (record {
      proper = q.proper;
      value = ap (λ z. rational_of a *ℚ z) (rational_of-negated found.0 q.proper) ∙ *ℚ-neg (rational_of a) (rational_of found.0) ∙ ap neg_ℚ q.value;
    })

pub record TurnedRow (k n : ℕ) (b : Fraction) (es : List Fraction) (r0 : Fraction) (rs : List Fraction) : Type 0 where
  pub constant : IsFraction r0
  pub coeffs : Are n rs
  pub turned : IsTurned k n (rational_of b) (rats es) (rational_of r0) (rats rs)

pub turned_row : (k n : ℕ) (b : Fraction) (es : List Fraction) (r0 : Fraction) (rs : List Fraction) → k < n → IsFraction b → Are n es → (fraction_at es k).num ≢ pos 0
    → option_map negation (div b (fraction_at es k)) ≡ Some r0 → all_of (pivot_entries (fraction_at es k) k 0 es) ≡ Some rs → TurnedRow k n b es r0 rs
turned_row k n b es r0 rs hk hb he nonzero h0 h =
    let a : Fraction = fraction_at es k in
    let ha : IsFraction a = he.proper k hk in
    let constant : IsNegatedQuotient b a r0 = negated_quotient b a r0 hb ha nonzero h0 in
    let all : AreAll (pivot_entries a k 0 es) rs = all_some (pivot_entries a k 0 es) rs h in
    let lengths : length (pivot_entries a k 0 es) ≡ n = pivot_entries-length a k 0 es ∙ he.same_length in
    let at : (j : ℕ) → j < n → pivot_entry a k j (fraction_at es j) ≡ Some (fraction_at rs j) =
    λ j l. let zero_plus : j ≡ 0 + j = omega arith in
    ap (λ i. pivot_entry a k i (fraction_at es j)) zero_plus ∙ sym (pivot_entries-at a k 0 es j (subst (λ m. j < m) (sym he.same_length) l))
    ∙ all.at j (whole_number (pos 0)) (subst (λ m. j < m) (sym lengths) l) in
    let here : IsQuotient (whole_number (pos 1)) a (fraction_at rs k) =
    div_means (whole_number (pos 1)) a (fraction_at rs k) one_positive ha nonzero (sym (pivot_entry-same a k (fraction_at es k)) ∙ at k hk) in
    let other : (j : ℕ) → j < n → j ≢ k → IsNegatedQuotient (fraction_at es j) a (fraction_at rs j) =
    λ j l ne. negated_quotient (fraction_at es j) a (fraction_at rs j) (he.proper j l) ha nonzero (sym (pivot_entry-other a k j (fraction_at es j) ne) ∙ at j l) in
    record {
      constant = constant.proper;
      coeffs = record {
        same_length = all.same_length ∙ lengths;
        proper = by_place (λ j. IsFraction (fraction_at rs j)) k n (λ l. here.proper) (λ j l ne. (other j l ne).proper);
      };
      turned = record { constant = constant.value; entries = λ j l ne. (other j l ne).value; entry = here.value ∙ rational_of-whole (pos 1) };
    }

-- ---- the other rows

other_entries-length : (f : Fraction) (k s : ℕ) (rs es : List Fraction) → length rs ≡ length es → length (other_entries f k s rs es) ≡ length es
other_entries-length f k s [] [] h = refl
other_entries-length f k s [] (e ∷ es) h = absurd (omega arith)
other_entries-length f k s (r ∷ rs) [] h = absurd (omega arith)
other_entries-length f k s (r ∷ rs) (e ∷ es) h = ap suc (other_entries-length f k (suc s) rs es (omega arith))

other_entries-at : (f : Fraction) (k s : ℕ) (rs es : List Fraction) (j : ℕ) → length rs ≡ length es → j < length es
    → slice_index_or (other_entries f k s rs es) j None ≡ other_entry f k (s + j) (fraction_at rs j) (fraction_at es j)
other_entries-at f k s rs [] j h l = absurd (omega arith)
other_entries-at f k s [] (e ∷ es) j h l = absurd (omega arith)
other_entries-at f k s (r ∷ rs) (e ∷ es) zero h l = let same : s ≡ s + zero = omega arith in ap (λ i. other_entry f k i r e) same
other_entries-at f k s (r ∷ rs) (e ∷ es) (suc j) h l =
    let same : suc s + j ≡ s + suc j = omega arith in
    other_entries-at f k (suc s) rs es j (omega arith) (omega arith) ∙ ap (λ i. other_entry f k i (fraction_at rs j) (fraction_at es j)) same

other_entry-same : (f : Fraction) (k : ℕ) (r e : Fraction) → other_entry f k k r e ≡ mul f r
other_entry-same f k r e = ap (λ b. if b then mul f r else option_and_then (add e) (mul f r)) (eq-eqb k k refl)

other_entry-other : (f : Fraction) (k j : ℕ) (r e : Fraction) → j ≢ k → other_entry f k j r e ≡ option_and_then (add e) (mul f r)
other_entry-other f k j r e ne = ap (λ b. if b then mul f r else option_and_then (add e) (mul f r)) (ne_eqb j k ne)

-- a fraction and f times another
added : (e f r x : Fraction) → IsFraction e → IsFraction f → IsFraction r → option_and_then (add e) (mul f r) ≡ Some x → Means x (rational_of e +ℚ rational_of f *ℚ rational_of r)
added e f r x he hf hr h =
    let found = then_some (add e) (mul f r) x h in
    add_means e found.0 x _ _ (means_itself e he) (mul_means f r found.0 _ _ (means_itself f hf) (means_itself r hr) found.1) found.2

pub record AddedRow (k n : ℕ) (r0 : Fraction) (rs : List Fraction) (b : Fraction) (es : List Fraction) (c0 : Fraction) (cs : List Fraction) : Type 0 where
  pub constant : IsFraction c0
  pub coeffs : Are n cs
  pub added : IsAdded k n (rational_of r0) (rats rs) (rational_of b) (rats es) (rational_of c0) (rats cs)

pub added_row : (k n : ℕ) (r0 : Fraction) (rs : List Fraction) (b : Fraction) (es : List Fraction) (c0 : Fraction) (cs : List Fraction)
    → k < n → IsFraction r0 → Are n rs → IsFraction b → Are n es
    → option_and_then (add b) (mul (fraction_at es k) r0) ≡ Some c0 → all_of (other_entries (fraction_at es k) k 0 rs es) ≡ Some cs → AddedRow k n r0 rs b es c0 cs
added_row k n r0 rs b es c0 cs hk hr0 hr hb he h0 h =
    let f : Fraction = fraction_at es k in
    let hf : IsFraction f = he.proper k hk in
    let constant : Means c0 (rational_of b +ℚ rational_of f *ℚ rational_of r0) = added b f r0 c0 hb hf hr0 h0 in
    let same : length rs ≡ length es = hr.same_length ∙ sym he.same_length in
    let all : AreAll (other_entries f k 0 rs es) cs = all_some (other_entries f k 0 rs es) cs h in
    let lengths : length (other_entries f k 0 rs es) ≡ n = other_entries-length f k 0 rs es same ∙ he.same_length in
    let at : (j : ℕ) → j < n → other_entry f k j (fraction_at rs j) (fraction_at es j) ≡ Some (fraction_at cs j) =
    λ j l. let zero_plus : j ≡ 0 + j = omega arith in
    ap (λ i. other_entry f k i (fraction_at rs j) (fraction_at es j)) zero_plus ∙ sym (other_entries-at f k 0 rs es j same (subst (λ m. j < m) (sym he.same_length) l))
    ∙ all.at j (whole_number (pos 0)) (subst (λ m. j < m) (sym lengths) l) in
    let here : Means (fraction_at cs k) (rational_of f *ℚ rats rs k) =
    mul_means f (fraction_at rs k) (fraction_at cs k) _ _ (means_itself f hf) (means_itself (fraction_at rs k) (hr.proper k hk)) (sym (other_entry-same f k (fraction_at rs k) (fraction_at es k)) ∙ at k hk) in
    let other : (j : ℕ) → j < n → j ≢ k → Means (fraction_at cs j) (rats es j +ℚ rational_of f *ℚ rats rs j) =
    λ j l ne. added (fraction_at es j) f (fraction_at rs j) (fraction_at cs j) (he.proper j l) hf (hr.proper j l) (sym (other_entry-other f k j (fraction_at rs j) (fraction_at es j) ne) ∙ at j l) in
    record {
      constant = constant.proper;
      coeffs = record {
        same_length = all.same_length ∙ lengths;
        proper = by_place (λ j. IsFraction (fraction_at cs j)) k n (λ l. here.proper) (λ j l ne. (other j l ne).proper);
      };
      added = record { constant = constant.value; entries = λ j l ne. (other j l ne).value; entry = here.value };
    }
