-- The first dictionary of a program.
use Rattle.std.proofs.Common.{◌≡◌, ◌↔◌, ℕ, zero, suc, ◌+◌, ◌<◌, refl, sym, ap, subst, ◌∙◌, arith, List, [], ◌∷◌, length, map, slice_index_or, ℤ, pos, neg_ℤ, ◌≤ℤ◌}
use Rattle.std.specs.List.{AllByRecursion}
use Rattle.std.proofs.lemmas.List.{length-map}
use Rattle.std.proofs.Math.ListN.{get_or-map}
use Rattle.ice_defs.specs.Sum.{numbers_below}
use Rattle.ice_defs.specs.Fraction.{Fraction, whole_number, IsFraction, Equals, plus, fraction_at}
use Rattle.ice_defs.specs.Program.{Constraint, Program, column, leasts}
use Rattle.ice_defs.specs.Dictionary.{Left, Dictionary, first_left, first_dictionary, no_left}
use Rattle.ice_defs.proofs.Below.{length-numbers_below, get_or-numbers_below}
use Rattle.ice_frac.proofs.Rational.{whole_ℚ, ◌+ℚ◌, ◌*ℚ◌, neg_ℚ, one_positive, IsNonNeg, rational_of, rational_of-whole, rational_of-negated}
use Rattle.ice_program_laws.specs.Solutions.{values_sum, left_at, right_at, IsMet, Holds, IsRow, IsDictionary}
use Rattle.ice_program_laws.proofs.Field.{zero-+ℚ}
use Rattle.ice_program_laws.proofs.SumsQ.{sum_ℚ, sum-same}
use Rattle.ice_program_laws.proofs.Dots.{at_recursion}
use Rattle.ice_program_laws.proofs.PivotQ.{row_value}
use Rattle.ice_program_laws.proofs.Entries.{rats, values_at, Are}
use Rattle.ice_program_laws.proofs.Pivot.{are_coeffs, row_is}
use Rattle.ice_program_laws.proofs.Standing.{Stands}
use Rattle.ice_program_laws.proofs.Constants.{Low, nonneg_from_num}
use Rattle.ice_program_laws.proofs.Walk.{Reached}

abbrev pub no_row : Constraint
no_row = record { coeffs = []; least = pos 0 }

module _ (p : Program) where
  -- the coefficient of row i in column j
  abbrev pub entry : ℕ → ℕ → ℤ
  entry i j = slice_index_or (slice_index_or p.rows i no_row).coeffs j (pos 0)

  abbrev pub least_of : ℕ → ℤ
  least_of i = (slice_index_or p.rows i no_row).least

  abbrev pub cost_of : ℕ → ℤ
  cost_of j = slice_index_or p.costs j (pos 0)

  pub column-at : (j i : ℕ) → slice_index_or (column p j) i (pos 0) ≡ entry i j
  column-at j i = get_or-map (λ (row : Constraint). slice_index_or row.coeffs j (pos 0)) p.rows i no_row

  pub leasts-at : (i : ℕ) → slice_index_or (leasts p) i (pos 0) ≡ least_of i
  leasts-at i = get_or-map (λ (row : Constraint). row.least) p.rows i no_row

  pub right-length : length (first_dictionary p).right ≡ length p.rows
  right-length = length-numbers_below (length p.rows)

  pub right-is : (j : ℕ) → j < length p.rows → right_at (first_dictionary p) j ≡ j
  right-is j h = get_or-numbers_below (length p.rows) j 0 h

  pub left-length : length (first_dictionary p).left ≡ length p.costs
  left-length = length-map (numbers_below (length p.costs)) (first_left p) ∙ length-numbers_below (length p.costs)

  pub left-is : (j : ℕ) → j < length p.costs → left_at (first_dictionary p) j ≡ first_left p j
  left-is j h = left_map (numbers_below (length p.costs)) j (subst (λ n. j < n) (sym (length-numbers_below (length p.costs))) h) ∙ ap (first_left p) (get_or-numbers_below (length p.costs) j 0 h)
    where
      left_map : (vs : List ℕ) (j : ℕ) → j < length vs → slice_index_or (map (first_left p) vs) j no_left ≡ first_left p (slice_index_or vs j 0)
      left_map [] j l = absurd (omega arith)
      left_map (v ∷ vs) zero l = refl
      left_map (v ∷ vs) (suc j) l = left_map vs j (omega arith)

  coeffs-at : (j i : ℕ) → fraction_at (first_left p j).coeffs i ≡ whole_number (neg_ℤ (entry i j))
  coeffs-at j i = get_or-map (λ c. whole_number (neg_ℤ c)) (column p j) i (pos 0) ∙ ap (λ c. whole_number (neg_ℤ c)) (column-at j i)

  objective-at : (i : ℕ) → fraction_at (first_dictionary p).objective i ≡ whole_number (least_of i)
  objective-at i = get_or-map whole_number (leasts p) i (pos 0) ∙ ap whole_number (leasts-at i)

  first_row : (j : ℕ) → IsRow (first_dictionary p) (first_left p j)
  first_row j = record {
    constant = one_positive;
    coeffs = record {
      same_length = length-map (column p j) (λ c. whole_number (neg_ℤ c)) ∙ length-map p.rows (λ (row : Constraint). slice_index_or row.coeffs j (pos 0)) ∙ sym right-length;
      proper = λ i h. subst IsFraction (sym (coeffs-at j i)) one_positive;
    };
  }

  pub first_is : IsDictionary (first_dictionary p)
  first_is = record {
    gain = one_positive;
    objective = record {
      same_length = length-map (leasts p) whole_number ∙ length-map p.rows (λ (row : Constraint). row.least) ∙ sym right-length;
      proper = λ i h. subst IsFraction (sym (objective-at i)) one_positive;
    };
    left = λ j h. subst (IsRow (first_dictionary p)) (sym (left-is j (subst (λ n. j < n) left-length h))) (first_row j);
  }

  left-variable : (j : ℕ) → j < length p.costs → (left_at (first_dictionary p) j).variable ≡ length p.rows + j
  left-variable j h = ap (λ (row : Left). row.variable) (left-is j h)

  first_stands : Stands (length p.rows + length p.costs) (first_dictionary p)
  first_stands =
      let d : Dictionary = first_dictionary p in
      let r : (j : ℕ) → j < length d.right → j < length p.rows = λ j h. subst (λ n. j < n) right-length h in
      let f : (j : ℕ) → j < length d.left → j < length p.costs = λ j h. subst (λ n. j < n) left-length h in
      record {
        right_once = λ i j hi hj e. sym (right-is i (r i hi)) ∙ e ∙ right-is j (r j hj);
        left_once = λ i j hi hj e. let same : length p.rows + i ≡ length p.rows + j = sym (left-variable i (f i hi)) ∙ e ∙ left-variable j (f j hj) in omega (arith, same);
        apart = λ i j hi hj e. let same : length p.rows + i ≡ j = sym (left-variable i (f i hi)) ∙ e ∙ right-is j (r j hj) in
            let low : j < length p.rows = r j hj in absurd (omega (arith, same, low));
        right_below = λ j h. subst (λ v. v < length p.rows + length p.costs) (sym (right-is j (r j h))) (let low : j < length p.rows = r j h in omega (arith, low));
        left_below = λ j h. subst (λ v. v < length p.rows + length p.costs) (sym (left-variable j (f j h))) (let low : j < length p.costs = f j h in omega (arith, low));
      }

  pub first_reached : Reached p (first_dictionary p)
  first_reached = record { dictionary = first_is; stands = first_stands; solutions = λ value total hv ht. (λ h. h, λ h. h); low = λ h. h }

  pub first_low : AllByRecursion (λ c. pos 0 ≤ℤ c) p.costs → Low (first_dictionary p)
  first_low h j l =
      let m : j < length p.costs = subst (λ n. j < n) left-length l in
      subst (λ (row : Left). IsNonNeg (rational_of row.constant)) (sym (left-is j m)) (nonneg_from_num (whole_number (slice_index_or p.costs j (pos 0))) one_positive (at_recursion (λ c. pos 0 ≤ℤ c) p.costs (pos 0) h j m))

  -- ---- what it says, over rationals

  first_coeffs : (j : ℕ) → Are (length p.rows) (first_left p j).coeffs
  first_coeffs j = subst (λ n. Are n (first_left p j).coeffs) right-length (are_coeffs (first_dictionary p) (first_left p j).coeffs (first_row j).coeffs)

  first_objective : Are (length p.rows) (first_dictionary p).objective
  first_objective = subst (λ n. Are n (first_dictionary p).objective) right-length (are_coeffs (first_dictionary p) (first_dictionary p).objective first_is.objective)

  pub record FirstHolds (value : ℕ → Fraction) (total : Fraction) : Type 0 where
    pub slacks : (j : ℕ) → j < length p.costs
        → rational_of (value (length p.rows + j)) ≡ whole_ℚ (cost_of j) +ℚ sum_ℚ (λ i. neg_ℚ (whole_ℚ (entry i j)) *ℚ rational_of (value i)) (length p.rows)
    pub total_is : rational_of total ≡ sum_ℚ (λ i. whole_ℚ (least_of i) *ℚ rational_of (value i)) (length p.rows)

  row-is : (value : ℕ → Fraction) (j : ℕ)
      → row_value (length p.rows) (rational_of (first_left p j).constant) (rats (first_left p j).coeffs) (values_at value (first_dictionary p).right)
      ≡ whole_ℚ (cost_of j) +ℚ sum_ℚ (λ i. neg_ℚ (whole_ℚ (entry i j)) *ℚ rational_of (value i)) (length p.rows)
  row-is value j =
      ap (λ x. x +ℚ sum_ℚ (λ i. rats (first_left p j).coeffs i *ℚ values_at value (first_dictionary p).right i) (length p.rows)) (rational_of-whole (slice_index_or p.costs j (pos 0)))
      ∙ ap (λ x. whole_ℚ (slice_index_or p.costs j (pos 0)) +ℚ x)
      (sum-same (λ i. rats (first_left p j).coeffs i *ℚ values_at value (first_dictionary p).right i) (λ i. neg_ℚ (whole_ℚ (entry i j)) *ℚ rational_of (value i)) (length p.rows)
      (λ i h. ap (λ x. x *ℚ values_at value (first_dictionary p).right i) (ap rational_of (coeffs-at j i) ∙ whole_neg (entry i j))
      ∙ ap (λ v. neg_ℚ (whole_ℚ (entry i j)) *ℚ rational_of (value v)) (right-is i h)))
    where
      whole_neg : (z : ℤ) → rational_of (whole_number (neg_ℤ z)) ≡ neg_ℚ (whole_ℚ z)
      whole_neg z = rational_of-negated (whole_number z) one_positive ∙ ap neg_ℚ (rational_of-whole z)

  objective-is : (value : ℕ → Fraction)
      → row_value (length p.rows) (rational_of (first_dictionary p).gain) (rats (first_dictionary p).objective) (values_at value (first_dictionary p).right)
      ≡ sum_ℚ (λ i. whole_ℚ (least_of i) *ℚ rational_of (value i)) (length p.rows)
  objective-is value =
      ap (λ x. x +ℚ sum_ℚ (λ i. rats (first_dictionary p).objective i *ℚ values_at value (first_dictionary p).right i) (length p.rows)) (rational_of-whole (pos 0))
      ∙ zero-+ℚ (sum_ℚ (λ i. rats (first_dictionary p).objective i *ℚ values_at value (first_dictionary p).right i) (length p.rows))
      ∙ sum-same (λ i. rats (first_dictionary p).objective i *ℚ values_at value (first_dictionary p).right i) (λ i. whole_ℚ (least_of i) *ℚ rational_of (value i)) (length p.rows)
      (λ i h. ap (λ x. x *ℚ values_at value (first_dictionary p).right i) (ap rational_of (objective-at i) ∙ rational_of-whole (least_of i))
      ∙ ap (λ v. whole_ℚ (least_of i) *ℚ rational_of (value v)) (right-is i h))

  pub first_holds : (value : ℕ → Fraction) (total : Fraction) → ((v : ℕ) → IsFraction (value v)) → IsFraction total → Holds (first_dictionary p) value total ↔ FirstHolds value total
  first_holds value total hv ht =
      let d : Dictionary = first_dictionary p in
      let m : ℕ = length p.rows in
      let n : ℕ = length p.costs in
      let met : (j : ℕ) → IsMet d value (first_left p j) ↔ (rational_of (value (m + j)) ≡ row_value m (rational_of (first_left p j).constant) (rats (first_left p j).coeffs) (values_at value d.right)) =
      λ j. row_is value m d.right (first_left p j).coeffs (value (m + j)) (first_left p j).constant right-length hv (first_coeffs j) (hv (m + j)) one_positive in
      let objective : Equals total (plus d.gain (values_sum value d.right d.objective)) ↔ (rational_of total ≡ row_value m (rational_of d.gain) (rats d.objective) (values_at value d.right)) =
      row_is value m d.right d.objective total d.gain right-length hv first_objective ht one_positive in (
        λ h. record {
          slacks = λ j l. (met j).0 (subst (IsMet d value) (left-is j l) (h.left j (subst (λ x. j < x) (sym left-length) l))) ∙ row-is value j;
          total_is = objective.0 h.objective ∙ objective-is value;
        },
        λ h. record {
          left = λ j l. let k : j < n = subst (λ x. j < x) left-length l in
              subst (IsMet d value) (sym (left-is j k)) ((met j).1 (h.slacks j k ∙ sym (row-is value j)));
          objective = objective.1 (h.total_is ∙ sym (objective-is value));
        },
      )
