-- What a dictionary's end says of a variable, by the place where it stands.
use Rattle.std.proofs.Common.{◌≡◌, ◌≢◌, ℕ, zero, suc, ◌<◌, refl, sym, ap, ◌∙◌, arith, Bool, true, false, cond, eqb, if◌then◌else◌, Option, Some, None, List, [], ◌∷◌, length, slice_index_or, pos}
use Rattle.std.specs.Prelude.{◌==◌}
use Rattle.std.specs.List.{find, position}
use Rattle.std.specs.Option.{option_map_or}
use Rattle.std.proofs.lemmas.Bool.{eq-eqb, ne_eqb, both_ways}
use Rattle.std.proofs.lemmas.Bool.Decides.{nat_tests}
use Rattle.std.proofs.lemmas.List.Quantifiers.{position-Some}
use Rattle.ice_defs.specs.Fraction.{Fraction, whole_number, fraction_at}
use Rattle.ice_defs.specs.Dictionary.{Left, Dictionary, Spot, no_left}
use Rattle.ice_defs.specs.Trace.{constant_of, objective_of, mix_entry}
use Rattle.ice_frac.proofs.Rational.{ℚ, ◌*ℚ◌, rational_of, rational_of-whole}
use Rattle.ice_program_laws.specs.Solutions.{left_at, right_at}
use Rattle.ice_program_laws.proofs.Field.{zero_ℚ, zero-*ℚ}
use Rattle.ice_program_laws.proofs.SumsQ.{sum_ℚ, sum-same, sum-swap, sum-zero, sum-single}
use Rattle.ice_program_laws.proofs.Standing.{Stands, find_one, find_none, position_none}

find_has : {X : Type 0} (p : X → Bool) (xs : List X) (d : X) (P : Option X → Type 0) → P None → ((i : ℕ) → i < length xs → P (Some (slice_index_or xs i d))) → P (find p xs)
find_has p [] d P none some = none
find_has p (x ∷ xs) d P none some = by (p x) (find_has p xs d P none (λ i l. some (suc i) (omega arith)))
  where
    by : (b : Bool) → P (find p xs) → P (cond b (Some x) (find p xs))
    by true rest = some zero (omega arith)
    by false rest = rest

eqb_is : (a b : ℕ) → eqb a b ≡ true → a ≡ b
eqb_is a b h = grind (arith, nat_tests)

module _ (bound : ℕ) (d : Dictionary) (s : Stands bound d) where
  found_left : (i : ℕ) → i < length d.left → find (λ (row : Left). row.variable == (left_at d i).variable) d.left ≡ Some (left_at d i)
  found_left i h = find_one (λ (row : Left). row.variable == (left_at d i).variable) d.left i no_left h (eq-eqb (left_at d i).variable (left_at d i).variable refl)
      (λ j l ne. ne_eqb (left_at d j).variable (left_at d i).variable (λ e. ne (s.left_once j i l h e)))

  found_right : (j : ℕ) → j < length d.right → find (λ (row : Left). row.variable == right_at d j) d.left ≡ None
  found_right j h = find_none (λ (row : Left). row.variable == right_at d j) d.left no_left (λ i l. ne_eqb (left_at d i).variable (right_at d j) (s.apart i j l h))

  pub constant_left : (i : ℕ) → i < length d.left → constant_of d (left_at d i).variable ≡ (left_at d i).constant
  constant_left i h = ap (λ o. option_map_or (λ (row : Left). row.constant) o (whole_number (pos 0))) (found_left i h)

  pub constant_right : (j : ℕ) → j < length d.right → constant_of d (right_at d j) ≡ whole_number (pos 0)
  constant_right j h = ap (λ o. option_map_or (λ (row : Left). row.constant) o (whole_number (pos 0))) (found_right j h)

  pub mix_left : (k : Spot) (i : ℕ) → i < length d.left → (left_at d i).variable ≢ k.variable → mix_entry d k (left_at d i).variable ≡ fraction_at (left_at d i).coeffs k.place
  mix_left k i h ne =
      ap (λ b. if b then whole_number (pos 1) else option_map_or (λ (row : Left). fraction_at row.coeffs k.place) (find (λ (row : Left). row.variable == (left_at d i).variable) d.left) (whole_number (pos 0)))
      (ne_eqb (left_at d i).variable k.variable ne)
      ∙ ap (λ o. option_map_or (λ (row : Left). fraction_at row.coeffs k.place) o (whole_number (pos 0))) (found_left i h)

  pub mix_right : (k : Spot) (j : ℕ) → j < length d.right → right_at d j ≢ k.variable → mix_entry d k (right_at d j) ≡ whole_number (pos 0)
  mix_right k j h ne =
      ap (λ b. if b then whole_number (pos 1) else option_map_or (λ (row : Left). fraction_at row.coeffs k.place) (find (λ (row : Left). row.variable == right_at d j) d.left) (whole_number (pos 0)))
      (ne_eqb (right_at d j) k.variable ne)
      ∙ ap (λ o. option_map_or (λ (row : Left). fraction_at row.coeffs k.place) o (whole_number (pos 0))) (found_right j h)

  cell : (ℕ → ℚ) → ℕ → ℕ → ℚ
  cell value j v = cond (eqb (right_at d j) v) (rational_of (fraction_at d.objective j) *ℚ value v) zero_ℚ

  cell_same : (value : ℕ → ℚ) (j v : ℕ) → right_at d j ≡ v → cell value j v ≡ rational_of (fraction_at d.objective j) *ℚ value v
  unfolding cell
  cell_same value j v e = ap (λ b. cond b (rational_of (fraction_at d.objective j) *ℚ value v) zero_ℚ) (eq-eqb (right_at d j) v e)

  cell_other : (value : ℕ → ℚ) (j v : ℕ) → right_at d j ≢ v → cell value j v ≡ zero_ℚ
  unfolding cell
  cell_other value j v ne = ap (λ b. cond b (rational_of (fraction_at d.objective j) *ℚ value v) zero_ℚ) (ne_eqb (right_at d j) v ne)

  -- the objective's sum over the variables on the right is that over all variables
  pub objective_sum : (value : ℕ → ℚ)
      → sum_ℚ (λ j. rational_of (fraction_at d.objective j) *ℚ value (right_at d j)) (length d.right) ≡ sum_ℚ (λ v. rational_of (objective_of d v) *ℚ value v) bound
  objective_sum value =
      sum-same (λ j. rational_of (fraction_at d.objective j) *ℚ value (right_at d j)) (λ j. sum_ℚ (λ v. cell value j v) bound) (length d.right) (λ j h. sym (by_row j h))
      ∙ sum-swap (cell value) (length d.right) bound
      ∙ sum-same (λ v. sum_ℚ (λ j. cell value j v) (length d.right)) (λ v. rational_of (objective_of d v) *ℚ value v) bound (λ v h. by_column v (position (λ other. other == v) d.right) refl)
    where
      by_row : (j : ℕ) → j < length d.right → sum_ℚ (λ v. cell value j v) bound ≡ rational_of (fraction_at d.objective j) *ℚ value (right_at d j)
      by_row j h = sum-single (λ v. cell value j v) (right_at d j) bound (s.right_below j h) (λ v l ne. cell_other value j v (λ e. ne (sym e))) ∙ cell_same value j (right_at d j) refl

      by_column : (v : ℕ) (o : Option ℕ) → position (λ other. other == v) d.right ≡ o → sum_ℚ (λ j. cell value j v) (length d.right) ≡ rational_of (option_map_or (fraction_at d.objective) o (whole_number (pos 0))) *ℚ value v
      by_column v None e =
          sum-zero (λ j. cell value j v) (length d.right) (λ j h. cell_other value j v (λ g. both_ways _ (position_none (λ other. other == v) d.right 0 e j h) (eq-eqb (right_at d j) v g)))
          ∙ sym (ap (λ x. x *ℚ value v) (rational_of-whole (pos 0)) ∙ zero-*ℚ (value v))
      by_column v (Some i) e =
          let p = position-Some (λ other. other == v) d.right i 0 e in
          let here : right_at d i ≡ v = eqb_is (right_at d i) v p.1 in
          sum-single (λ j. cell value j v) i (length d.right) p.0 (λ j h ne. cell_other value j v (λ g. ne (s.right_once j i h p.0 (g ∙ sym here)))) ∙ cell_same value i v here

pub mix_entering : (d : Dictionary) (k : Spot) → mix_entry d k k.variable ≡ whole_number (pos 1)
mix_entering d k =
    ap (λ b. if b then whole_number (pos 1) else option_map_or (λ (row : Left). fraction_at row.coeffs k.place) (find (λ (row : Left). row.variable == k.variable) d.left) (whole_number (pos 0)))
    (eq-eqb k.variable k.variable refl)

-- ---- what holds of each

pub constant_has : (d : Dictionary) (P : Fraction → Type 0) → P (whole_number (pos 0)) → ((i : ℕ) → i < length d.left → P (left_at d i).constant) → (v : ℕ) → P (constant_of d v)
constant_has d P none each v = find_has (λ (row : Left). row.variable == v) d.left no_left (λ o. P (option_map_or (λ (row : Left). row.constant) o (whole_number (pos 0)))) none each

pub mix_has : (d : Dictionary) (k : Spot) (P : Fraction → Type 0) → P (whole_number (pos 0)) → P (whole_number (pos 1)) → ((i : ℕ) → i < length d.left → P (fraction_at (left_at d i).coeffs k.place)) → (v : ℕ) → P (mix_entry d k v)
mix_has d k P none one each v = by (v == k.variable)
  where
    by : (b : Bool) → P (if b then whole_number (pos 1) else option_map_or (λ (row : Left). fraction_at row.coeffs k.place) (find (λ (row : Left). row.variable == v) d.left) (whole_number (pos 0)))
    by true = one
    by false = find_has (λ (row : Left). row.variable == v) d.left no_left (λ o. P (option_map_or (λ (row : Left). fraction_at row.coeffs k.place) o (whole_number (pos 0)))) none each

pub objective_has : (d : Dictionary) (P : Fraction → Type 0) → P (whole_number (pos 0)) → ((j : ℕ) → j < length d.right → P (fraction_at d.objective j)) → (v : ℕ) → P (objective_of d v)
objective_has d P none each v = by (position (λ other. other == v) d.right) refl
  where
    by : (o : Option ℕ) → position (λ other. other == v) d.right ≡ o → P (option_map_or (fraction_at d.objective) o (whole_number (pos 0)))
    by None e = none
    by (Some i) e = each i (position-Some (λ other. other == v) d.right i 0 e).0
