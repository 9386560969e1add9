-- A pivot that isn't too wide keeps the solutions.
use Rattle.std.proofs.Common.{◌≡◌, ◌≢◌, ◌↔◌, ℕ, zero, suc, ◌+◌, ◌<◌, refl, sym, ap, subst, ◌∙◌, arith, eqb, if◌then◌else◌, Option, Some, None, List, [], ◌∷◌, length, slice_index_or, slice_set, pos}
use Rattle.std.specs.Option.{option_map, option_and_then}
use Rattle.std.proofs.lemmas.Bool.{eq-eqb, ne_eqb}
use Rattle.std.proofs.lemmas.List.{get_or-set_other, get_or-set_same, length-set}
use Rattle.ice_defs.specs.Fraction.{Fraction, IsFraction, Equals, plus, negation, fraction_at}
use Rattle.ice_defs.specs.Frac.{div}
use Rattle.ice_defs.specs.Dictionary.{Left, Dictionary, Spot, all_of, pivot_entries, pivot_row, other_entries, other_constant, other_row, new_left, no_left, with_new, pivot_dictionary}
use Rattle.ice_frac.proofs.Rational.{ℚ, rational_of}
use Rattle.ice_program_laws.specs.Laws.{PivotKeepsSolutions}
use Rattle.ice_program_laws.specs.Solutions.{values_sum, left_at, IsMet, Holds, AreCoeffs, IsRow, IsDictionary, IsPivot}
use Rattle.ice_program_laws.proofs.Results.{some_is, then_some, map_some, AreAll, all_some}
use Rattle.ice_program_laws.proofs.PivotQ.{Exchanged, by_place, row_value, added-value, turned_from_old, old_from_turned}
use Rattle.ice_program_laws.proofs.Entries.{rats, values_at, Are, met_is, TurnedRow, turned_row, AddedRow, added_row}

-- ---- what a pivot made

pub record NewRow (k : Spot) (n : ℕ) (row new : Left) : Type 0 where
  pub variable : new.variable ≡ k.variable
  pub turned : TurnedRow k.place n row.constant row.coeffs new.constant new.coeffs

new_row : (k : Spot) (n : ℕ) (row new : Left) → k.place < n → IsFraction row.constant → Are n row.coeffs → (fraction_at row.coeffs k.place).num ≢ pos 0 → pivot_row k row ≡ Some new → NewRow k n row new
new_row k n row new hk hb he nonzero h =
    let a : Fraction = fraction_at row.coeffs k.place in
    let constant = then_some (λ constant. option_map (λ coeffs. record { variable = k.variable; constant = constant; coeffs = coeffs }) (all_of (pivot_entries a k.place 0 row.coeffs)))
    (option_map negation (div row.constant a)) new h in
    let coeffs = map_some (λ (coeffs : List Fraction). let made : Left = record { variable = k.variable; constant = constant.0; coeffs = coeffs } in made) (all_of (pivot_entries a k.place 0 row.coeffs)) new constant.2 in
    subst (λ x. NewRow k n row x) coeffs.2
    (record { variable = refl; turned = turned_row k.place n row.constant row.coeffs constant.0 coeffs.0 hk hb he nonzero constant.1 coeffs.1 })

pub record OtherRow (k n : ℕ) (new row after : Left) : Type 0 where
  pub variable : after.variable ≡ row.variable
  pub added : AddedRow k n new.constant new.coeffs row.constant row.coeffs after.constant after.coeffs

other_row-made : (k n : ℕ) (new row after : Left) → k < n → IsFraction new.constant → Are n new.coeffs → IsFraction row.constant → Are n row.coeffs → other_row k new row ≡ Some after → OtherRow k n new row after
other_row-made k n new row after hk hr0 hr hb he h =
    let f : Fraction = fraction_at row.coeffs k in
    let constant = then_some (λ constant. option_map (λ coeffs. record { variable = row.variable; constant = constant; coeffs = coeffs }) (all_of (other_entries f k 0 new.coeffs row.coeffs)))
    (other_constant f new row.constant) after h in
    let coeffs = map_some (λ (coeffs : List Fraction). let made : Left = record { variable = row.variable; constant = constant.0; coeffs = coeffs } in made) (all_of (other_entries f k 0 new.coeffs row.coeffs)) after constant.2 in
    subst (λ x. OtherRow k n new row x) coeffs.2
    (record { variable = refl; added = added_row k n new.constant new.coeffs row.constant row.coeffs constant.0 coeffs.0 hk hr0 hr hb he constant.1 coeffs.1 })

new_left-length : (l k : ℕ) (new : Left) (s : ℕ) (rows : List Left) → length (new_left l k new s rows) ≡ length rows
new_left-length l k new s [] = refl
new_left-length l k new s (row ∷ rows) = ap suc (new_left-length l k new (suc s) rows)

left_entry : ℕ → ℕ → Left → ℕ → Left → Option Left
left_entry l k new i row = if eqb i l then Some new else other_row k new row

new_left-at : (l k : ℕ) (new : Left) (s : ℕ) (rows : List Left) (i : ℕ) → i < length rows → slice_index_or (new_left l k new s rows) i None ≡ left_entry l k new (s + i) (slice_index_or rows i no_left)
unfolding left_entry
new_left-at l k new s [] i h = absurd (omega arith)
new_left-at l k new s (row ∷ rows) zero h = let same : s ≡ s + zero = omega arith in ap (λ j. if eqb j l then Some new else other_row k new row) same
new_left-at l k new s (row ∷ rows) (suc i) h =
    let same : suc s + i ≡ s + suc i = omega arith in
    new_left-at l k new (suc s) rows i (omega arith) ∙ ap (λ j. if eqb j l then Some new else other_row k new (slice_index_or rows i no_left)) same

left_entry-same : (l k : ℕ) (new row : Left) → left_entry l k new l row ≡ Some new
unfolding left_entry
left_entry-same l k new row = ap (λ b. if b then Some new else other_row k new row) (eq-eqb l l refl)

left_entry-other : (l k : ℕ) (new : Left) (i : ℕ) (row : Left) → i ≢ l → left_entry l k new i row ≡ other_row k new row
unfolding left_entry
left_entry-other l k new i row ne = ap (λ b. if b then Some new else other_row k new row) (ne_eqb i l ne)

pub record Made (d after : Dictionary) (l : ℕ) (k : Spot) : Type 0 where
  pub new : Left
  pub new_is : NewRow k (length d.right) (left_at d l) new
  pub right : after.right ≡ slice_set d.right k.place (left_at d l).variable
  pub objective : AddedRow k.place (length d.right) new.constant new.coeffs d.gain d.objective after.gain after.objective
  pub same_length : length after.left ≡ length d.left
  pub leaving : left_at after l ≡ new
  pub others : (i : ℕ) → i < length d.left → i ≢ l → OtherRow k.place (length d.right) new (left_at d i) (left_at after i)

pub are_coeffs : (d : Dictionary) (es : List Fraction) → AreCoeffs d es → Are (length d.right) es
are_coeffs d es h = record { same_length = h.same_length; proper = h.proper }

pub made : (d after : Dictionary) (l : ℕ) (k : Spot) → IsDictionary d → IsPivot d l k → pivot_dictionary d l k ≡ Some after → Made d after l k
made d after l k hd hp h =
    let n : ℕ = length d.right in
    let row : Left = left_at d l in
    let found = then_some (with_new d l k.place) (pivot_row k row) after h in
    let new : Left = found.0 in
    let is : NewRow k n row new = new_row k n row new hp.place (hd.left l hp.row).constant (are_coeffs d row.coeffs (hd.left l hp.row).coeffs) hp.coefficient found.1 in
    let f : Fraction = fraction_at d.objective k.place in
    let right : List ℕ = slice_set d.right k.place row.variable in
    let left = then_some
    (λ left. option_and_then (λ gain. option_map (λ objective. record { right = right; gain = gain; objective = objective; left = left }) (all_of (other_entries f k.place 0 new.coeffs d.objective)))
    (other_constant f new d.gain))
    (all_of (new_left l k.place new 0 d.left)) after found.2 in
    let gain = then_some
    (λ gain. option_map (λ objective. record { right = right; gain = gain; objective = objective; left = left.0 }) (all_of (other_entries f k.place 0 new.coeffs d.objective)))
    (other_constant f new d.gain) after left.2 in
    let objective = map_some (λ (objective : List Fraction). let made : Dictionary = record { right = right; gain = gain.0; objective = objective; left = left.0 } in made)
    (all_of (other_entries f k.place 0 new.coeffs d.objective)) after gain.2 in
    let all : AreAll (new_left l k.place new 0 d.left) left.0 = all_some (new_left l k.place new 0 d.left) left.0 left.1 in
    let lengths : length (new_left l k.place new 0 d.left) ≡ length d.left = new_left-length l k.place new 0 d.left in
    let at : (i : ℕ) → i < length d.left → left_entry l k.place new i (left_at d i) ≡ Some (slice_index_or left.0 i no_left) =
    λ i m. let zero_plus : i ≡ 0 + i = omega arith in
    ap (λ j. left_entry l k.place new j (left_at d i)) zero_plus ∙ sym (new_left-at l k.place new 0 d.left i m) ∙ all.at i no_left (subst (λ m. i < m) (sym lengths) m) in
    subst (λ x. Made d x l k) {x = record { right = right; gain = gain.0; objective = objective.0; left = left.0 }} objective.2
    (record {
      new = new;
      new_is = is;
      right = refl;
      objective = added_row k.place n new.constant new.coeffs d.gain d.objective gain.0 objective.0 hp.place is.turned.constant is.turned.coeffs hd.gain (are_coeffs d d.objective hd.objective) gain.1 objective.1;
      same_length = all.same_length ∙ lengths;
      leaving = some_is (slice_index_or left.0 l no_left) new (sym (at l hp.row) ∙ left_entry-same l k.place new (left_at d l));
      others = λ i m ne. other_row-made k.place n new (left_at d i) (slice_index_or left.0 i no_left) hp.place is.turned.constant is.turned.coeffs
          (hd.left i m).constant (are_coeffs d (left_at d i).coeffs (hd.left i m).coeffs) (sym (left_entry-other l k.place new i (left_at d i) ne) ∙ at i m);
    })

-- ---- the dictionary after it

-- the coefficients are those of n variables on the right
coeffs_for : (d : Dictionary) (n : ℕ) (es : List Fraction) → length d.right ≡ n → Are n es → AreCoeffs d es
coeffs_for d n es e h = record { same_length = h.same_length ∙ sym e; proper = λ j l. h.proper j (subst (λ m. j < m) e l) }

pub right_length : (d after : Dictionary) (l : ℕ) (k : Spot) → Made d after l k → length after.right ≡ length d.right
right_length d after l k m = ap length m.right ∙ length-set d.right k.place (left_at d l).variable

is_dictionary : (d after : Dictionary) (l : ℕ) (k : Spot) → IsPivot d l k → Made d after l k → IsDictionary after
is_dictionary d after l k hp m =
    let n : ℕ = length d.right in
    let e : length after.right ≡ n = right_length d after l k m in
    let new : IsRow after m.new = record { constant = m.new_is.turned.constant; coeffs = coeffs_for after n m.new.coeffs e m.new_is.turned.coeffs } in
    let other : (i : ℕ) → i < length d.left → i ≢ l → IsRow after (left_at after i) =
    λ i h ne. let o = (m.others i h ne).added in record { constant = o.constant; coeffs = coeffs_for after n (left_at after i).coeffs e o.coeffs } in
    let each : (i : ℕ) → i < length d.left → IsRow after (left_at after i) =
    by_place (λ i. IsRow after (left_at after i)) l (length d.left) (λ h. subst (IsRow after) (sym m.leaving) new) other in
    record {
      gain = m.objective.constant;
      objective = coeffs_for after n after.objective e m.objective.coeffs;
      left = λ i h. each i (subst (λ x. i < x) m.same_length h);
    }

-- ---- its solutions

-- a row over rationals, for n variables on the right
pub row_is : (value : ℕ → Fraction) (n : ℕ) (vs : List ℕ) (es : List Fraction) (x b : Fraction) → length vs ≡ n → ((v : ℕ) → IsFraction (value v)) → Are n es → IsFraction x → IsFraction b
    → Equals x (plus b (values_sum value vs es)) ↔ (rational_of x ≡ row_value n (rational_of b) (rats es) (values_at value vs))
row_is value n vs es x b e hv he hx hb =
    subst (λ m. Are m es → Equals x (plus b (values_sum value vs es)) ↔ (rational_of x ≡ row_value m (rational_of b) (rats es) (values_at value vs))) e
    (λ h. met_is value vs es x b hv h hx hb) he

module _ (d after : Dictionary) (l : ℕ) (k : Spot) (hd : IsDictionary d) (hp : IsPivot d l k) (m : Made d after l k) (value : ℕ → Fraction) (hv : (v : ℕ) → IsFraction (value v)) where
  before_at : ℕ → ℚ
  before_at = values_at value d.right

  after_at : ℕ → ℚ
  after_at = values_at value after.right

  exchanged : Exchanged k.place (length d.right) before_at after_at
  unfolding before_at after_at
  exchanged = record {
    within = hp.place;
    kept = λ j h ne. ap (λ vs. rational_of (value (slice_index_or vs j 0))) m.right ∙ ap (λ v. rational_of (value v)) (get_or-set_other d.right k.place j (left_at d l).variable 0 ne);
  }

  entering_is : before_at k.place ≡ rational_of (value m.new.variable)
  unfolding before_at
  entering_is = ap (λ v. rational_of (value v)) (sym hp.variable ∙ sym m.new_is.variable)

  leaving_is : after_at k.place ≡ rational_of (value (left_at d l).variable)
  unfolding after_at
  leaving_is = ap (λ vs. rational_of (value (slice_index_or vs k.place 0))) m.right ∙ ap (λ v. rational_of (value v)) (get_or-set_same d.right k.place (left_at d l).variable 0 hp.place)

  -- rows before and after, over rationals
  met_before : (row : Left) → IsRow d row → IsMet d value row ↔ (rational_of (value row.variable) ≡ row_value (length d.right) (rational_of row.constant) (rats row.coeffs) before_at)
  unfolding before_at
  met_before row h = row_is value (length d.right) d.right row.coeffs (value row.variable) row.constant refl hv (are_coeffs d row.coeffs h.coeffs) (hv row.variable) h.constant

  met_after : (row : Left) → IsFraction row.constant → Are (length d.right) row.coeffs
      → IsMet after value row ↔ (rational_of (value row.variable) ≡ row_value (length d.right) (rational_of row.constant) (rats row.coeffs) after_at)
  unfolding after_at
  met_after row hb he = row_is value (length d.right) after.right row.coeffs (value row.variable) row.constant (right_length d after l k m) hv he (hv row.variable) hb

  New : Type 0
  New = before_at k.place ≡ row_value (length d.right) (rational_of m.new.constant) (rats m.new.coeffs) after_at

  new_met : IsMet after value m.new ↔ New
  unfolding New
  new_met =
      let both = met_after m.new m.new_is.turned.constant m.new_is.turned.coeffs in
      (λ h. entering_is ∙ both.0 h, λ h. both.1 (sym entering_is ∙ h))

  old_met : IsMet d value (left_at d l) ↔ New
  unfolding New
  old_met =
      let row : Left = left_at d l in
      let both = met_before row (hd.left l hp.row) in (
        λ h. turned_from_old k.place (length d.right) before_at after_at (rational_of row.constant) (rats row.coeffs) (rational_of m.new.constant) (rats m.new.coeffs) exchanged m.new_is.turned.turned (leaving_is ∙ both.0 h),
        λ h. both.1 (sym leaving_is ∙ old_from_turned k.place (length d.right) before_at after_at (rational_of row.constant) (rats row.coeffs) (rational_of m.new.constant) (rats m.new.coeffs) exchanged m.new_is.turned.turned h),
      )

  other_met : New → (i : ℕ) → i < length d.left → i ≢ l → IsMet d value (left_at d i) ↔ IsMet after value (left_at after i)
  unfolding New
  other_met hn i h ne =
      let row : Left = left_at d i in
      let next : Left = left_at after i in
      let o : OtherRow k.place (length d.right) m.new row next = m.others i h ne in
      let before = met_before row (hd.left i h) in
      let later = met_after next o.added.constant o.added.coeffs in
      let same : row_value (length d.right) (rational_of next.constant) (rats next.coeffs) after_at ≡ row_value (length d.right) (rational_of row.constant) (rats row.coeffs) before_at =
      added-value k.place (length d.right) before_at after_at (rational_of m.new.constant) (rats m.new.coeffs) (rational_of row.constant) (rats row.coeffs) (rational_of next.constant) (rats next.coeffs) exchanged o.added.added hn in
      let variable : rational_of (value next.variable) ≡ rational_of (value row.variable) = ap (λ v. rational_of (value v)) o.variable in
      (λ x. later.1 (variable ∙ before.0 x ∙ sym same), λ x. before.1 (sym variable ∙ later.0 x ∙ same))

  objective_met : New → (total : Fraction) → IsFraction total → Equals total (plus d.gain (values_sum value d.right d.objective)) ↔ Equals total (plus after.gain (values_sum value after.right after.objective))
  unfolding New before_at after_at
  objective_met hn total ht =
      let before = row_is value (length d.right) d.right d.objective total d.gain refl hv (are_coeffs d d.objective hd.objective) ht hd.gain in
      let later = row_is value (length d.right) after.right after.objective total after.gain (right_length d after l k m) hv m.objective.coeffs ht m.objective.constant in
      let same : row_value (length d.right) (rational_of after.gain) (rats after.objective) (values_at value after.right) ≡ row_value (length d.right) (rational_of d.gain) (rats d.objective) (values_at value d.right) =
      added-value k.place (length d.right) before_at after_at (rational_of m.new.constant) (rats m.new.coeffs) (rational_of d.gain) (rats d.objective) (rational_of after.gain) (rats after.objective) exchanged m.objective.added hn in
      (λ x. later.1 (before.0 x ∙ sym same), λ x. before.1 (later.0 x ∙ same))

  holds_after : (total : Fraction) → IsFraction total → Holds d value total → Holds after value total
  holds_after total ht h =
      let hn : New = old_met.0 (h.left l hp.row) in
      let each : (i : ℕ) → i < length d.left → IsMet after value (left_at after i) =
      by_place (λ i. IsMet after value (left_at after i)) l (length d.left) (λ x. subst (IsMet after value) (sym m.leaving) (new_met.1 hn)) (λ i x ne. (other_met hn i x ne).0 (h.left i x)) in
      record { left = λ i x. each i (subst (λ y. i < y) m.same_length x); objective = (objective_met hn total ht).0 h.objective }

  held_before : (total : Fraction) → IsFraction total → Holds after value total → Holds d value total
  held_before total ht h =
      let at : (i : ℕ) → i < length d.left → IsMet after value (left_at after i) = λ i x. h.left i (subst (λ y. i < y) (sym m.same_length) x) in
      let hn : New = new_met.0 (subst (IsMet after value) m.leaving (at l hp.row)) in
      record {
        left = by_place (λ i. IsMet d value (left_at d i)) l (length d.left) (λ x. old_met.1 hn) (λ i x ne. (other_met hn i x ne).1 (at i x));
        objective = (objective_met hn total ht).1 h.objective;
      }

pub pivot_keeps_solutions : PivotKeepsSolutions
pivot_keeps_solutions d after l k hd hp h =
    let m : Made d after l k = made d after l k hd hp h in
    (is_dictionary d after l k hp m, λ value total hv ht. (holds_after d after l k hd hp m value hv total ht, held_before d after l k hd hp m value hv total ht))
