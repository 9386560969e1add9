-- Solutions of a dictionary that its end is read from.
use Rattle.std.proofs.Common.{◌≡◌, ◌≢◌, ℕ, ◌<◌, refl, sym, ap, ◌∙◌, List, length, pos}
use Rattle.ice_defs.specs.Fraction.{Fraction, IsFraction, plus, fraction_at}
use Rattle.ice_defs.specs.Dictionary.{Dictionary, Spot}
use Rattle.ice_defs.specs.Trace.{constant_of, mix_entry}
use Rattle.ice_frac.proofs.Rational.{ℚ, ◌+ℚ◌, ◌*ℚ◌, +ℚ-zero, *ℚ-one, one_positive, rational_of, rational_of-plus, rational_of-whole}
use Rattle.std.proofs.Math.Nat.{mul-pos}
use Rattle.ice_program_laws.specs.Solutions.{left_at, right_at, Holds, IsDictionary}
use Rattle.ice_program_laws.proofs.Field.{zero_ℚ, one_ℚ, zero-+ℚ, *ℚ-zero}
use Rattle.ice_program_laws.proofs.SumsQ.{sum-zero, sum-single}
use Rattle.ice_program_laws.proofs.PivotQ.{row_value}
use Rattle.ice_program_laws.proofs.Entries.{rats, values_at}
use Rattle.ice_program_laws.proofs.Pivot.{are_coeffs, row_is}
use Rattle.ice_program_laws.proofs.Standing.{Stands}
use Rattle.ice_program_laws.proofs.Lookups.{constant_left, constant_right, mix_left, mix_right, mix_entering, constant_has, mix_has}
use Rattle.ice_program_laws.proofs.Walk.{Spotted}

-- values with which each row and the objective have the stated sum
solves : (d : Dictionary) (value : ℕ → Fraction) (total : Fraction) → IsDictionary d → ((v : ℕ) → IsFraction (value v)) → IsFraction total
    → ((i : ℕ) → i < length d.left → rational_of (value (left_at d i).variable) ≡ row_value (length d.right) (rational_of (left_at d i).constant) (rats (left_at d i).coeffs) (values_at value d.right))
    → rational_of total ≡ row_value (length d.right) (rational_of d.gain) (rats d.objective) (values_at value d.right) → Holds d value total
solves d value total hd hv ht rows objective = record {
  left = λ i h. (row_is value (length d.right) d.right (left_at d i).coeffs (value (left_at d i).variable) (left_at d i).constant refl hv (are_coeffs d (left_at d i).coeffs (hd.left i h).coeffs) (hv (left_at d i).variable) (hd.left i h).constant).1 (rows i h);
  objective = (row_is value (length d.right) d.right d.objective total d.gain refl hv (are_coeffs d d.objective hd.objective) ht hd.gain).1 objective;
}

module _ (bound : ℕ) (d : Dictionary) (hd : IsDictionary d) (s : Stands bound d) where
  pub constants_proper : (v : ℕ) → IsFraction (constant_of d v)
  constants_proper v = constant_has d IsFraction one_positive (λ i h. (hd.left i h).constant) v

  right_zero : (j : ℕ) → j < length d.right → values_at (constant_of d) d.right j ≡ zero_ℚ
  right_zero j h = ap rational_of (constant_right bound d s j h) ∙ rational_of-whole (pos 0)

  no_sum : (b : ℚ) (es : List Fraction) → row_value (length d.right) b (rats es) (values_at (constant_of d) d.right) ≡ b
  no_sum b es =
      ap (λ x. b +ℚ x) (sum-zero (λ j. rats es j *ℚ values_at (constant_of d) d.right j) (length d.right) (λ j h. ap (λ x. rats es j *ℚ x) (right_zero j h) ∙ *ℚ-zero (rats es j))) ∙ +ℚ-zero b

  -- each variable on the right 0
  pub constants_solve : Holds d (constant_of d) d.gain
  constants_solve = solves d (constant_of d) d.gain hd constants_proper hd.gain
      (λ i h. ap rational_of (constant_left bound d s i h) ∙ sym (no_sum (rational_of (left_at d i).constant) (left_at d i).coeffs)) (sym (no_sum (rational_of d.gain) d.objective))

  module _ (k : Spot) (spot : Spotted d k) where
    pub mix_proper : (v : ℕ) → IsFraction (mix_entry d k v)
    mix_proper v = mix_has d k IsFraction one_positive one_positive (λ i h. (hd.left i h).coeffs.proper k.place spot.place) v

    pub moved_is : (v : ℕ) → rational_of (plus (constant_of d v) (mix_entry d k v)) ≡ rational_of (constant_of d v) +ℚ rational_of (mix_entry d k v)
    moved_is v = rational_of-plus (constant_of d v) (mix_entry d k v) (constants_proper v) (mix_proper v)

    right_other : (j : ℕ) → j < length d.right → j ≢ k.place → values_at (λ v. plus (constant_of d v) (mix_entry d k v)) d.right j ≡ zero_ℚ
    right_other j h ne =
        moved_is (right_at d j) ∙ ap (λ x. x +ℚ rational_of (mix_entry d k (right_at d j))) (right_zero j h) ∙ zero-+ℚ (rational_of (mix_entry d k (right_at d j)))
        ∙ ap rational_of (mix_right bound d s k j h (λ e. ne (s.right_once j k.place h spot.place (e ∙ spot.variable)))) ∙ rational_of-whole (pos 0)

    right_here : values_at (λ v. plus (constant_of d v) (mix_entry d k v)) d.right k.place ≡ one_ℚ
    right_here =
        moved_is (right_at d k.place) ∙ ap (λ x. x +ℚ rational_of (mix_entry d k (right_at d k.place))) (right_zero k.place spot.place) ∙ zero-+ℚ (rational_of (mix_entry d k (right_at d k.place)))
        ∙ ap (λ v. rational_of (mix_entry d k v)) (sym spot.variable) ∙ ap rational_of (mix_entering d k) ∙ rational_of-whole (pos 1)

    one_sum : (b : ℚ) (es : List Fraction) → row_value (length d.right) b (rats es) (values_at (λ v. plus (constant_of d v) (mix_entry d k v)) d.right) ≡ b +ℚ rational_of (fraction_at es k.place)
    one_sum b es = ap (λ x. b +ℚ x)
        (sum-single (λ j. rats es j *ℚ values_at (λ v. plus (constant_of d v) (mix_entry d k v)) d.right j) k.place (length d.right) spot.place
        (λ j h ne. ap (λ x. rats es j *ℚ x) (right_other j h ne) ∙ *ℚ-zero (rats es j))
        ∙ ap (λ x. rats es k.place *ℚ x) right_here ∙ *ℚ-one (rats es k.place))

    left_is : (i : ℕ) → i < length d.left
        → rational_of (plus (constant_of d (left_at d i).variable) (mix_entry d k (left_at d i).variable)) ≡ rational_of (left_at d i).constant +ℚ rational_of (fraction_at (left_at d i).coeffs k.place)
    left_is i h =
        moved_is (left_at d i).variable ∙ ap (λ f. rational_of f +ℚ rational_of (mix_entry d k (left_at d i).variable)) (constant_left bound d s i h)
        ∙ ap (λ f. rational_of (left_at d i).constant +ℚ rational_of f) (mix_left bound d s k i h (λ e. s.apart i k.place h spot.place (e ∙ spot.variable)))

    -- the entering variable 1 and each other one on the right 0
    pub mix_solves : Holds d (λ v. plus (constant_of d v) (mix_entry d k v)) (plus d.gain (fraction_at d.objective k.place))
    mix_solves =
        let objective_proper : IsFraction (fraction_at d.objective k.place) = hd.objective.proper k.place spot.place in
        solves d (λ v. plus (constant_of d v) (mix_entry d k v)) (plus d.gain (fraction_at d.objective k.place)) hd (λ v. mul-pos (constants_proper v) (mix_proper v)) (mul-pos hd.gain objective_proper)
        (λ i h. left_is i h ∙ sym (one_sum (rational_of (left_at d i).constant) (left_at d i).coeffs))
        (rational_of-plus d.gain (fraction_at d.objective k.place) hd.gain objective_proper ∙ sym (one_sum (rational_of d.gain) d.objective))
