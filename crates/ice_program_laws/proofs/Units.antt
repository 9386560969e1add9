-- The solution of a program's first dictionary with one multiplier 1 and the others 0.
use Rattle.std.proofs.Common.{◌≡◌, ◌≢◌, ◌⊎◌, inl, inr, ℕ, ◌+◌, ◌-◌, ◌<◌, ◌≤◌, refl, sym, ap, ◌∙◌, arith, Bool, true, false, if◌then◌else◌, nat_lt, eqb, length, slice_index_or, pos}
use Rattle.std.proofs.lemmas.Bool.{eq-eqb, ne_eqb, cases_lt}
use Rattle.std.proofs.lemmas.Bool.Decides.{nat_tests}
use Rattle.std.proofs.Math.Nat.{mul-pos}
use Rattle.std.proofs.Math.ListN.{get_or-eq_default}
use Rattle.ice_defs.specs.Fraction.{Fraction, whole_number, IsFraction, minus, negation}
use Rattle.ice_defs.specs.Program.{Constraint, Program}
use Rattle.ice_frac.proofs.Rational.{ℚ, whole_ℚ, ◌+ℚ◌, ◌*ℚ◌, neg_ℚ, *ℚ-one, one_positive, rational_of, rational_of-whole, rational_of-plus, rational_of-negated}
use Rattle.ice_program_laws.proofs.Field.{zero_ℚ, one_ℚ, *ℚ-zero, neg-zero}
use Rattle.ice_program_laws.proofs.SumsQ.{sum_ℚ, sum-zero, sum-single}
use Rattle.ice_program_laws.proofs.First.{no_row, entry, least_of, cost_of, FirstHolds}

module _ (p : Program) where
  -- a multiplier, or a column's slack
  pub unit : ℕ → ℕ → Fraction
  unit i v = if nat_lt v (length p.rows) then (if eqb v i then whole_number (pos 1) else whole_number (pos 0)) else minus (whole_number (cost_of p (v - length p.rows))) (whole_number (entry p i (v - length p.rows)))

  pub unit_proper : (i v : ℕ) → IsFraction (unit i v)
  unfolding unit
  unit_proper i v = by (nat_lt v (length p.rows)) (eqb v i)
    where
      by : (b c : Bool) → IsFraction (if b then (if c then whole_number (pos 1) else whole_number (pos 0)) else minus (whole_number (cost_of p (v - length p.rows))) (whole_number (entry p i (v - length p.rows))))
      by true true = one_positive
      by true false = one_positive
      by false c = mul-pos one_positive one_positive

  unit_row : (i v : ℕ) → v < length p.rows → unit i v ≡ (if eqb v i then whole_number (pos 1) else whole_number (pos 0))
  unfolding unit
  unit_row i v h =
      let e : nat_lt v (length p.rows) ≡ true = grind (arith, nat_tests) in
      ap (λ b. if b then (if eqb v i then whole_number (pos 1) else whole_number (pos 0)) else minus (whole_number (cost_of p (v - length p.rows))) (whole_number (entry p i (v - length p.rows)))) e

  unit_one : (i : ℕ) → i < length p.rows → rational_of (unit i i) ≡ one_ℚ
  unit_one i h = ap rational_of (unit_row i i h ∙ ap (λ b. if b then whole_number (pos 1) else whole_number (pos 0)) (eq-eqb i i refl)) ∙ rational_of-whole (pos 1)

  unit_zero : (i v : ℕ) → v < length p.rows → v ≢ i → rational_of (unit i v) ≡ zero_ℚ
  unit_zero i v h ne = ap rational_of (unit_row i v h ∙ ap (λ b. if b then whole_number (pos 1) else whole_number (pos 0)) (ne_eqb v i ne)) ∙ rational_of-whole (pos 0)

  pub unit_slack : (i j : ℕ) → rational_of (unit i (length p.rows + j)) ≡ whole_ℚ (cost_of p j) +ℚ neg_ℚ (whole_ℚ (entry p i j))
  unfolding unit
  unit_slack i j =
      let m : ℕ = length p.rows in
      let e : nat_lt (m + j) m ≡ false = grind (arith, nat_tests) in
      let f : (m + j) - m ≡ j = omega arith in
      ap (λ b. rational_of (if b then (if eqb (m + j) i then whole_number (pos 1) else whole_number (pos 0)) else minus (whole_number (cost_of p ((m + j) - m))) (whole_number (entry p i ((m + j) - m))))) e
      ∙ ap (λ x. rational_of (minus (whole_number (cost_of p x)) (whole_number (entry p i x)))) f
      ∙ rational_of-plus (whole_number (cost_of p j)) (negation (whole_number (entry p i j))) one_positive one_positive
      ∙ ap (λ x. x +ℚ rational_of (negation (whole_number (entry p i j)))) (rational_of-whole (cost_of p j))
      ∙ ap (λ x. whole_ℚ (cost_of p j) +ℚ x) (rational_of-negated (whole_number (entry p i j)) one_positive ∙ ap neg_ℚ (rational_of-whole (entry p i j)))

  -- a sum over the multipliers
  pub pick : (c : ℕ → ℚ) (i : ℕ) → i < length p.rows → sum_ℚ (λ v. c v *ℚ rational_of (unit i v)) (length p.rows) ≡ c i
  pick c i h =
      sum-single (λ v. c v *ℚ rational_of (unit i v)) i (length p.rows) h (λ v l ne. ap (λ x. c v *ℚ x) (unit_zero i v l ne) ∙ *ℚ-zero (c v)) ∙ ap (λ x. c i *ℚ x) (unit_one i h) ∙ *ℚ-one (c i)

  pub pick_none : (c : ℕ → ℚ) (i : ℕ) → length p.rows ≤ i → sum_ℚ (λ v. c v *ℚ rational_of (unit i v)) (length p.rows) ≡ zero_ℚ
  pick_none c i h = sum-zero (λ v. c v *ℚ rational_of (unit i v)) (length p.rows) (λ v l. ap (λ x. c v *ℚ x) (unit_zero i v l (λ e. omega (arith, e, l, h))) ∙ *ℚ-zero (c v))

  row_beyond : (i : ℕ) → length p.rows ≤ i → slice_index_or p.rows i no_row ≡ no_row
  row_beyond i h = get_or-eq_default p.rows no_row h

  pub entry_beyond : (i j : ℕ) → length p.rows ≤ i → entry p i j ≡ pos 0
  entry_beyond i j h = ap (λ (row : Constraint). slice_index_or row.coeffs j (pos 0)) (row_beyond i h)

  pub least_beyond : (i : ℕ) → length p.rows ≤ i → least_of p i ≡ pos 0
  least_beyond i h = ap (λ (row : Constraint). row.least) (row_beyond i h)

  pub unit_holds : (i : ℕ) → FirstHolds p (unit i) (whole_number (least_of p i))
  unit_holds i = record {
    slacks = λ j h. unit_slack i j ∙ ap (λ x. whole_ℚ (cost_of p j) +ℚ x) (sym (slack j (cases_lt i (length p.rows))));
    total_is = rational_of-whole (least_of p i) ∙ sym (total (cases_lt i (length p.rows)));
  }
    where
      slack : (j : ℕ) → (i < length p.rows) ⊎ (length p.rows ≤ i) → sum_ℚ (λ v. neg_ℚ (whole_ℚ (entry p v j)) *ℚ rational_of (unit i v)) (length p.rows) ≡ neg_ℚ (whole_ℚ (entry p i j))
      slack j (inl h) = pick (λ v. neg_ℚ (whole_ℚ (entry p v j))) i h
      slack j (inr h) = pick_none (λ v. neg_ℚ (whole_ℚ (entry p v j))) i h ∙ sym (ap (λ z. neg_ℚ (whole_ℚ z)) (entry_beyond i j h) ∙ neg-zero)

      total : (i < length p.rows) ⊎ (length p.rows ≤ i) → sum_ℚ (λ v. whole_ℚ (least_of p v) *ℚ rational_of (unit i v)) (length p.rows) ≡ whole_ℚ (least_of p i)
      total (inl h) = pick (λ v. whole_ℚ (least_of p v)) i h
      total (inr h) = pick_none (λ v. whole_ℚ (least_of p v)) i h ∙ sym (ap whole_ℚ (least_beyond i h))
