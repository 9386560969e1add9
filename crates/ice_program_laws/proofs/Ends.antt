-- What the end of a trace says of its program.
use Rattle.std.proofs.Common.{◌≡◌, ℕ, zero, suc, ◌+◌, ◌<◌, ◌≤◌, refl, sym, ap, subst, ◌∙◌, arith, None, List, [], ◌∷◌, length, map, slice_index_or, ℤ, pos, ◌≤ℤ◌}
use Rattle.std.specs.List.{AllByRecursion}
use Rattle.std.proofs.lemmas.Int.{ints}
use Rattle.std.proofs.lemmas.List.{length-map, get_or-map}
use Rattle.std.proofs.Math.Nat.{mul-pos}
use Rattle.ice_defs.specs.Sum.{numbers_below}
use Rattle.ice_defs.specs.Fraction.{Fraction, whole_number, IsFraction, Equals, AtMost, plus, negation, fraction_at}
use Rattle.ice_defs.specs.Program.{Constraint, Program, dot, AreNonNegative, IsPoint, cost, column, leasts, AreDuals, IsMix}
use Rattle.ice_defs.specs.Dictionary.{Dictionary, Spot, entering_spot}
use Rattle.ice_defs.specs.Trace.{constant_of, objective_of, mix_entry, point_of, duals_of, mix_of}
use Rattle.ice_defs.proofs.Below.{length-numbers_below, get_or-numbers_below}
use Rattle.ice_defs.proofs.Lists.{all-from}
use Rattle.ice_frac.proofs.FieldLaws.{order_laws}
use Rattle.ice_frac.proofs.Fractions.{AtMost-left}
use Rattle.ice_frac.proofs.Rational.{ℚ, whole_ℚ, ◌+ℚ◌, ◌*ℚ◌, neg_ℚ, +ℚ_assoc, +ℚ_comm, +ℚ-zero, *ℚ_comm, *ℚ-+ℚ, one_positive, IsNonNeg, rational_of, rational_of-whole, rational_of-plus, rational_of-negated, Equals_from_rational_of}
use Rattle.ice_program_laws.specs.Laws.{LeastEndGivesDuals, LeastEndGivesLeast, InfeasibleEndGivesMix}
use Rattle.ice_program_laws.specs.Solutions.{left_at, Holds}
use Rattle.ice_program_laws.proofs.Field.{zero_ℚ, zero-+ℚ, zero-*ℚ, plus_swap, minus_right, cancel_right, neg_is, neg-+ℚ, *ℚ-neg, neg-*ℚ, neg-neg, AtMostℚ, at_most-same, at_most_from_nonneg}
use Rattle.ice_program_laws.proofs.SumsQ.{sum_ℚ, sum-same, sum-+ℚ, sum-zero, sum-append, sum-neg}
use Rattle.ice_program_laws.proofs.Dots.{from_ℚ, proper-dot, dot_is}
use Rattle.ice_program_laws.proofs.Weak.{duals_give_least}
use Rattle.ice_program_laws.proofs.Constants.{Low, nonneg_from_num, above_from_num}
use Rattle.ice_program_laws.proofs.Choosing.{not_positive, not_negative, none_enters, NoneNegative, coeff_at}
use Rattle.ice_program_laws.proofs.Lookups.{constant_has, mix_has, objective_has, objective_sum}
use Rattle.ice_program_laws.proofs.Walk.{Reached, Spotted, spotted, none_leaves, LeastAt, InfeasibleAt, EndsAt, ends}
use Rattle.ice_program_laws.proofs.First.{no_row, entry, least_of, cost_of, column-at, leasts-at, first_low, first_reached, FirstHolds, first_holds}
use Rattle.ice_program_laws.proofs.Units.{unit, unit_proper, unit_slack, pick, pick_none, entry_beyond, least_beyond, unit_holds}
use Rattle.ice_program_laws.proofs.Pivot.{are_coeffs, row_is}
use Rattle.ice_program_laws.proofs.Reading.{constants_proper, constants_solve, mix_proper, moved_is, mix_solves}

-- ---- lists of what is said of each number

said-length : (f : ℕ → Fraction) (n : ℕ) → length (map f (numbers_below n)) ≡ n
said-length f n = length-map (numbers_below n) f ∙ length-numbers_below n

said-at : (f : ℕ → Fraction) (n j : ℕ) → j < n → fraction_at (map f (numbers_below n)) j ≡ f j
said-at f n j h = get_or-map f (numbers_below n) j 0 (whole_number (pos 0)) (subst (λ m. j < m) (sym (length-numbers_below n)) h) ∙ ap f (get_or-numbers_below n j 0 h)

said-all : (f : ℕ → Fraction) (P : Fraction → Type 0) (vs : List ℕ) → ((v : ℕ) → P (f v)) → AllByRecursion P (map f vs)
said-all f P [] h = tt
said-all f P (v ∷ vs) h = (h v, said-all f P vs h)

said-proper : (f : ℕ → Fraction) (vs : List ℕ) → ((v : ℕ) → IsFraction (f v)) → (j : ℕ) → IsFraction (fraction_at (map f vs) j)
said-proper f [] h j = one_positive
said-proper f (v ∷ vs) h zero = h v
said-proper f (v ∷ vs) h (suc j) = said-proper f vs h j

said-dot : (cs : List ℤ) (f : ℕ → Fraction) (n : ℕ) → ((v : ℕ) → IsFraction (f v))
    → rational_of (dot cs (map f (numbers_below n))) ≡ sum_ℚ (λ j. whole_ℚ (slice_index_or cs j (pos 0)) *ℚ rational_of (f j)) n
said-dot cs f n h =
    dot_is cs (map f (numbers_below n)) (said-proper f (numbers_below n) h)
    ∙ ap (sum_ℚ (λ j. whole_ℚ (slice_index_or cs j (pos 0)) *ℚ rational_of (fraction_at (map f (numbers_below n)) j))) (said-length f n)
    ∙ sum-same _ (λ j. whole_ℚ (slice_index_or cs j (pos 0)) *ℚ rational_of (f j)) n (λ j l. ap (λ x. whole_ℚ (slice_index_or cs j (pos 0)) *ℚ rational_of x) (said-at f n j l))

-- a proper fraction at least 0, or at most 0
record IsLow (f : Fraction) : Type 0 where
  proper : IsFraction f
  low : IsNonNeg (rational_of f)

record IsHigh (f : Fraction) : Type 0 where
  proper : IsFraction f
  high : f.num ≤ℤ pos 0

negated_low : (f : Fraction) → IsHigh f → IsLow (negation f)
negated_low f h = record { proper = h.proper; low = nonneg_from_num (negation f) h.proper (let l : f.num ≤ℤ pos 0 = h.high in omega (arith, ints, l)) }

zero_low : IsLow (whole_number (pos 0))
zero_low = record { proper = one_positive; low = nonneg_from_num (whole_number (pos 0)) one_positive (omega (arith, ints)) }

said-low : (f : ℕ → Fraction) (n : ℕ) → ((v : ℕ) → IsLow (f v)) → AreNonNegative (map f (numbers_below n))
said-low f n h = said-all f (λ x. IsFraction x × AtMost (whole_number (pos 0)) x) (numbers_below n)
    (λ v. ((h v).proper, from_ℚ (whole_number (pos 0)) (f v) one_positive (h v).proper (at_most-same _ _ _ _ (sym (rational_of-whole (pos 0))) refl (at_most_from_nonneg (rational_of (f v)) (h v).low))))

cancel_left_sum : (a b c : ℚ) → a +ℚ b ≡ a +ℚ c → b ≡ c
cancel_left_sum a b c h = cancel_right b c a (+ℚ_comm b a ∙ h ∙ +ℚ_comm a c)

-- ---- the values of the rows' multipliers

module _ (p : Program) (d : Dictionary) (reached : Reached p d) where
  -- the coefficients of a column times the multipliers
  abbrev column_sum : (ℕ → ℚ) → ℕ → ℚ
  column_sum z j = sum_ℚ (λ i. whole_ℚ (entry p i j) *ℚ z i) (length p.rows)

  abbrev leasts_sum : (ℕ → ℚ) → ℚ
  leasts_sum z = sum_ℚ (λ i. whole_ℚ (least_of p i) *ℚ z i) (length p.rows)

  column_dot : (f : ℕ → Fraction) (j : ℕ) → ((v : ℕ) → IsFraction (f v)) → rational_of (dot (column p j) (map f (numbers_below (length p.rows)))) ≡ column_sum (λ i. rational_of (f i)) j
  column_dot f j h = said-dot (column p j) f (length p.rows) h ∙ sum-same _ (λ i. whole_ℚ (entry p i j) *ℚ rational_of (f i)) (length p.rows) (λ i l. ap (λ c. whole_ℚ c *ℚ rational_of (f i)) (column-at p j i))

  leasts_dot : (f : ℕ → Fraction) → ((v : ℕ) → IsFraction (f v)) → rational_of (dot (leasts p) (map f (numbers_below (length p.rows)))) ≡ leasts_sum (λ i. rational_of (f i))
  leasts_dot f h = said-dot (leasts p) f (length p.rows) h ∙ sum-same _ (λ i. whole_ℚ (least_of p i) *ℚ rational_of (f i)) (length p.rows) (λ i l. ap (λ c. whole_ℚ c *ℚ rational_of (f i)) (leasts-at p i))

  negated_column : (z : ℕ → ℚ) (j : ℕ) → sum_ℚ (λ i. neg_ℚ (whole_ℚ (entry p i j)) *ℚ z i) (length p.rows) ≡ neg_ℚ (column_sum z j)
  negated_column z j =
      sum-same _ (λ i. neg_ℚ (whole_ℚ (entry p i j) *ℚ z i)) (length p.rows) (λ i l. neg-*ℚ (whole_ℚ (entry p i j)) (z i)) ∙ sum-neg (λ i. whole_ℚ (entry p i j) *ℚ z i) (length p.rows)

  proper_constants : (v : ℕ) → IsFraction (constant_of d v)
  proper_constants = constants_proper (length p.rows + length p.costs) d reached.dictionary reached.stands

  by_constants : FirstHolds p (constant_of d) d.gain
  by_constants = (first_holds p (constant_of d) d.gain proper_constants reached.dictionary.gain).0
      ((reached.solutions (constant_of d) d.gain proper_constants reached.dictionary.gain).1 (constants_solve (length p.rows + length p.costs) d reached.dictionary reached.stands))

  slack : (j : ℕ) → j < length p.costs → rational_of (constant_of d (length p.rows + j)) ≡ whole_ℚ (cost_of p j) +ℚ neg_ℚ (column_sum (λ i. rational_of (constant_of d i)) j)
  slack j h = by_constants.slacks j h ∙ ap (λ x. whole_ℚ (cost_of p j) +ℚ x) (negated_column (λ i. rational_of (constant_of d i)) j)

  -- ---- the mix

  module _ (k : Spot) (spot : Spotted d k) (none : NoneNegative k.place d.left) where
    proper_mix : (v : ℕ) → IsFraction (mix_entry d k v)
    proper_mix = mix_proper (length p.rows + length p.costs) d reached.dictionary reached.stands k spot

    low_mix : (v : ℕ) → IsLow (mix_entry d k v)
    low_mix = mix_has d k IsLow zero_low (record { proper = one_positive; low = nonneg_from_num (whole_number (pos 1)) one_positive (omega (arith, ints)) })
        (λ i h. let f : Fraction = coeff_at k.place (left_at d i) in
        let proper : IsFraction f = (reached.dictionary.left i h).coeffs.proper k.place spot.place in
        record { proper = proper; low = nonneg_from_num f proper (not_negative f (none i h)) })

    by_mix : FirstHolds p (λ v. plus (constant_of d v) (mix_entry d k v)) (plus d.gain (fraction_at d.objective k.place))
    by_mix =
        let value : ℕ → Fraction = λ v. plus (constant_of d v) (mix_entry d k v) in
        let total : Fraction = plus d.gain (fraction_at d.objective k.place) in
        let hv : (v : ℕ) → IsFraction (value v) = λ v. mul-pos (proper_constants v) (proper_mix v) in
        let ht : IsFraction total = mul-pos reached.dictionary.gain (reached.dictionary.objective.proper k.place spot.place) in
        (first_holds p value total hv ht).0 ((reached.solutions value total hv ht).1 (mix_solves (length p.rows + length p.costs) d reached.dictionary reached.stands k spot))

    is_both : (v : ℕ) → rational_of (plus (constant_of d v) (mix_entry d k v)) ≡ rational_of (constant_of d v) +ℚ rational_of (mix_entry d k v)
    is_both = moved_is (length p.rows + length p.costs) d reached.dictionary reached.stands k spot

    -- a sum at both less that at the constants
    both_sum : (c : ℕ → ℚ) → sum_ℚ (λ i. c i *ℚ rational_of (plus (constant_of d i) (mix_entry d k i))) (length p.rows)
        ≡ sum_ℚ (λ i. c i *ℚ rational_of (constant_of d i)) (length p.rows) +ℚ sum_ℚ (λ i. c i *ℚ rational_of (mix_entry d k i)) (length p.rows)
    both_sum c =
        sum-same _ (λ i. c i *ℚ rational_of (constant_of d i) +ℚ c i *ℚ rational_of (mix_entry d k i)) (length p.rows)
        (λ i l. ap (λ x. c i *ℚ x) (is_both i) ∙ *ℚ-+ℚ (c i) (rational_of (constant_of d i)) (rational_of (mix_entry d k i)))
        ∙ sum-+ℚ (λ i. c i *ℚ rational_of (constant_of d i)) (λ i. c i *ℚ rational_of (mix_entry d k i)) (length p.rows)

    mix_slack : (j : ℕ) → j < length p.costs → rational_of (mix_entry d k (length p.rows + j)) ≡ neg_ℚ (column_sum (λ i. rational_of (mix_entry d k i)) j)
    mix_slack j h =
        let m : ℕ = length p.rows in
        let c : ℕ → ℚ = λ i. neg_ℚ (whole_ℚ (entry p i j)) in
        let one : ℚ = sum_ℚ (λ i. c i *ℚ rational_of (constant_of d i)) m in
        let other : ℚ = sum_ℚ (λ i. c i *ℚ rational_of (mix_entry d k i)) m in
        cancel_left_sum (rational_of (constant_of d (m + j))) (rational_of (mix_entry d k (m + j))) (neg_ℚ (column_sum (λ i. rational_of (mix_entry d k i)) j))
        (sym (is_both (m + j)) ∙ by_mix.slacks j h ∙ ap (λ x. whole_ℚ (cost_of p j) +ℚ x) (both_sum c) ∙ sym (+ℚ_assoc (whole_ℚ (cost_of p j)) one other)
        ∙ ap (λ x. x +ℚ other) (sym (by_constants.slacks j h)) ∙ ap (λ x. rational_of (constant_of d (m + j)) +ℚ x) (negated_column (λ i. rational_of (mix_entry d k i)) j))

    mix_total : rational_of (fraction_at d.objective k.place) ≡ leasts_sum (λ i. rational_of (mix_entry d k i))
    mix_total =
        let c : ℕ → ℚ = λ i. whole_ℚ (least_of p i) in
        cancel_left_sum (rational_of d.gain) (rational_of (fraction_at d.objective k.place)) (leasts_sum (λ i. rational_of (mix_entry d k i)))
        (sym (rational_of-plus d.gain (fraction_at d.objective k.place) reached.dictionary.gain (reached.dictionary.objective.proper k.place spot.place)) ∙ by_mix.total_is ∙ both_sum c
        ∙ ap (λ x. x +ℚ leasts_sum (λ i. rational_of (mix_entry d k i))) (sym by_constants.total_is))

    is_mix : IsMix p (mix_of p d k)
    is_mix =
        let y : List Fraction = mix_of p d k in
        let proper : (j : ℕ) → IsFraction (fraction_at y j) = said-proper (mix_entry d k) (numbers_below (length p.rows)) proper_mix in
        record {
          same_length = said-length (mix_entry d k) (length p.rows);
          non_negative = said-low (mix_entry d k) (length p.rows) low_mix;
          columns = λ j h. from_ℚ (dot (column p j) y) (whole_number (pos 0)) (proper-dot (column p j) y proper) one_positive
              (record {
                rest = subst IsNonNeg
                    (mix_slack j h ∙ ap neg_ℚ (sym (column_dot (mix_entry d k) j proper_mix)) ∙ sym (zero-+ℚ (neg_ℚ (rational_of (dot (column p j) y))))
                    ∙ ap (λ x. x +ℚ neg_ℚ (rational_of (dot (column p j) y))) (sym (rational_of-whole (pos 0))))
                    (low_mix (length p.rows + j)).low;
              });
          positive =
              let f : Fraction = fraction_at d.objective k.place in
              let hf : IsFraction f = reached.dictionary.objective.proper k.place spot.place in
              let hy : IsFraction (dot (leasts p) y) = proper-dot (leasts p) y proper in
              let same : Equals (dot (leasts p) y) f = Equals_from_rational_of (dot (leasts p) y) f hy hf (leasts_dot (mix_entry d k) proper_mix ∙ sym mix_total) in
              (order_laws.below (whole_number (pos 0)) (dot (leasts p) y)).1
              (λ high. (order_laws.below (whole_number (pos 0)) f).0 (above_from_num f spot.positive) (AtMost-left (dot (leasts p) y) f (whole_number (pos 0)) hy same high));
        }

  -- ---- the point

  module _ (none : entering_spot d ≡ None) where
    high_objective : (v : ℕ) → IsHigh (objective_of d v)
    high_objective = objective_has d IsHigh (record { proper = one_positive; high = omega (arith, ints) })
        (λ j h. record {
          proper = reached.dictionary.objective.proper j h;
          high = not_positive (fraction_at d.objective j) (none_enters 0 d.right d.objective reached.dictionary.objective.same_length none j h);
        })

    low_price : (j : ℕ) → IsLow (negation (objective_of d (length p.rows + j)))
    low_price j = negated_low (objective_of d (length p.rows + j)) (high_objective (length p.rows + j))

    price_is : (j : ℕ) → rational_of (negation (objective_of d (length p.rows + j))) ≡ neg_ℚ (rational_of (objective_of d (length p.rows + j)))
    price_is j = rational_of-negated (objective_of d (length p.rows + j)) (high_objective (length p.rows + j)).proper

    abbrev row_sum : ℕ → ℚ
    row_sum i = sum_ℚ (λ j. whole_ℚ (entry p i j) *ℚ rational_of (negation (objective_of d (length p.rows + j)))) (length p.costs)

    abbrev slack_sum : ℚ
    slack_sum = sum_ℚ (λ j. rational_of (objective_of d (length p.rows + j)) *ℚ whole_ℚ (cost_of p j)) (length p.costs)

    tail_is : (i : ℕ) → sum_ℚ (λ j. rational_of (objective_of d (length p.rows + j)) *ℚ rational_of (unit p i (length p.rows + j))) (length p.costs) ≡ slack_sum +ℚ row_sum i
    tail_is i =
        sum-same _ (λ j. rational_of (objective_of d (length p.rows + j)) *ℚ whole_ℚ (cost_of p j) +ℚ whole_ℚ (entry p i j) *ℚ rational_of (negation (objective_of d (length p.rows + j)))) (length p.costs)
        (λ j h. let x : ℚ = rational_of (objective_of d (length p.rows + j)) in
        ap (λ u. x *ℚ u) (unit_slack p i j) ∙ *ℚ-+ℚ x (whole_ℚ (cost_of p j)) (neg_ℚ (whole_ℚ (entry p i j)))
        ∙ ap (λ u. x *ℚ whole_ℚ (cost_of p j) +ℚ u)
        (*ℚ-neg x (whole_ℚ (entry p i j)) ∙ ap neg_ℚ (*ℚ_comm x (whole_ℚ (entry p i j))) ∙ sym (*ℚ-neg (whole_ℚ (entry p i j)) x) ∙ ap (λ u. whole_ℚ (entry p i j) *ℚ u) (sym (price_is j))))
        ∙ sum-+ℚ (λ j. rational_of (objective_of d (length p.rows + j)) *ℚ whole_ℚ (cost_of p j)) (λ j. whole_ℚ (entry p i j) *ℚ rational_of (negation (objective_of d (length p.rows + j)))) (length p.costs)

    -- what the objective says of a row's least
    least_is : (i : ℕ) → whole_ℚ (least_of p i) ≡ rational_of d.gain +ℚ (sum_ℚ (λ v. rational_of (objective_of d v) *ℚ rational_of (unit p i v)) (length p.rows) +ℚ (slack_sum +ℚ row_sum i))
    least_is i =
        let m : ℕ = length p.rows in
        let value : ℕ → Fraction = unit p i in
        let hv : (v : ℕ) → IsFraction (value v) = unit_proper p i in
        let total : Fraction = whole_number (least_of p i) in
        let holds : Holds d value total = (reached.solutions value total hv one_positive).0 ((first_holds p value total hv one_positive).1 (unit_holds p i)) in
        sym (rational_of-whole (least_of p i))
        ∙ (row_is value (length d.right) d.right d.objective total d.gain refl hv (are_coeffs d d.objective reached.dictionary.objective) one_positive reached.dictionary.gain).0 holds.objective
        ∙ ap (λ x. rational_of d.gain +ℚ x)
        (objective_sum (m + length p.costs) d reached.stands (λ v. rational_of (unit p i v))
        ∙ sum-append (λ v. rational_of (objective_of d v) *ℚ rational_of (unit p i v)) m (length p.costs)
        ∙ ap (λ x. sum_ℚ (λ v. rational_of (objective_of d v) *ℚ rational_of (unit p i v)) m +ℚ x) (tail_is i))

    gain_and_slacks : rational_of d.gain +ℚ slack_sum ≡ zero_ℚ
    gain_and_slacks =
        let m : ℕ = length p.rows in
        let beyond : m ≤ m = omega arith in
        let no_rows : row_sum m ≡ zero_ℚ =
        sum-zero (λ j. whole_ℚ (entry p m j) *ℚ rational_of (negation (objective_of d (m + j)))) (length p.costs)
        (λ j h. ap (λ z. whole_ℚ z *ℚ rational_of (negation (objective_of d (m + j)))) (entry_beyond p m j beyond) ∙ zero-*ℚ (rational_of (negation (objective_of d (m + j))))) in
        ap (λ x. rational_of d.gain +ℚ x)
        (sym (ap (λ x. x +ℚ (slack_sum +ℚ row_sum m)) (pick_none p (λ v. rational_of (objective_of d v)) m beyond) ∙ zero-+ℚ (slack_sum +ℚ row_sum m) ∙ ap (λ x. slack_sum +ℚ x) no_rows ∙ +ℚ-zero slack_sum))
        ∙ sym (least_is m) ∙ ap whole_ℚ (least_beyond p m beyond)

    row_met : (i : ℕ) → i < length p.rows → AtMostℚ (whole_ℚ (least_of p i)) (row_sum i)
    row_met i h =
        let u : ℚ = rational_of (objective_of d i) in
        let a : ℚ = row_sum i in
        let is : whole_ℚ (least_of p i) ≡ u +ℚ a =
        least_is i ∙ ap (λ x. rational_of d.gain +ℚ (x +ℚ (slack_sum +ℚ a))) (pick p (λ v. rational_of (objective_of d v)) i h)
        ∙ sym (+ℚ_assoc (rational_of d.gain) u (slack_sum +ℚ a)) ∙ plus_swap (rational_of d.gain) u slack_sum a ∙ ap (λ x. x +ℚ (u +ℚ a)) gain_and_slacks ∙ zero-+ℚ (u +ℚ a) in
        let rest : a +ℚ neg_ℚ (whole_ℚ (least_of p i)) ≡ neg_ℚ u =
        ap (λ x. a +ℚ neg_ℚ x) is ∙ ap (λ x. a +ℚ x) (neg-+ℚ u a) ∙ +ℚ_comm a (neg_ℚ u +ℚ neg_ℚ a) ∙ ap (λ x. (neg_ℚ u +ℚ neg_ℚ a) +ℚ x) (sym (neg-neg a)) ∙ minus_right (neg_ℚ u) (neg_ℚ a) in
        let low : IsLow (negation (objective_of d i)) = negated_low (objective_of d i) (high_objective i) in
        record { rest = subst IsNonNeg (rational_of-negated (objective_of d i) (high_objective i).proper ∙ sym rest) low.low }

    proper_point : (j : ℕ) → IsFraction (fraction_at (point_of p d) j)
    proper_point = said-proper (λ j. negation (objective_of d (length p.rows + j))) (numbers_below (length p.costs)) (λ j. (low_price j).proper)

    is_point : IsPoint p (point_of p d)
    is_point =
        let x : List Fraction = point_of p d in
        record {
          same_length = said-length (λ j. negation (objective_of d (length p.rows + j))) (length p.costs);
          non_negative = said-low (λ j. negation (objective_of d (length p.rows + j))) (length p.costs) low_price;
          rows = all-from (λ row. AtMost (whole_number row.least) (dot row.coeffs x)) p.rows no_row
              (λ i h. let row : Constraint = slice_index_or p.rows i no_row in
              from_ℚ (whole_number row.least) (dot row.coeffs x) one_positive (proper-dot row.coeffs x proper_point)
              (at_most-same _ _ _ _ (sym (rational_of-whole row.least)) (sym (said-dot row.coeffs (λ j. negation (objective_of d (length p.rows + j))) (length p.costs) (λ j. (low_price j).proper))) (row_met i h)));
        }

    cost_is : rational_of (cost p (point_of p d)) ≡ rational_of d.gain
    cost_is =
        said-dot p.costs (λ j. negation (objective_of d (length p.rows + j))) (length p.costs) (λ j. (low_price j).proper)
        ∙ sum-same _ (λ j. neg_ℚ (rational_of (objective_of d (length p.rows + j)) *ℚ whole_ℚ (cost_of p j))) (length p.costs)
        (λ j h. let x : ℚ = rational_of (objective_of d (length p.rows + j)) in
        ap (λ u. whole_ℚ (cost_of p j) *ℚ u) (price_is j) ∙ *ℚ-neg (whole_ℚ (cost_of p j)) x ∙ ap neg_ℚ (*ℚ_comm (whole_ℚ (cost_of p j)) x))
        ∙ sum-neg (λ j. rational_of (objective_of d (length p.rows + j)) *ℚ whole_ℚ (cost_of p j)) (length p.costs)
        ∙ sym (neg_is slack_sum (rational_of d.gain) (+ℚ_comm slack_sum (rational_of d.gain) ∙ gain_and_slacks))

    -- ---- its duals

    are_duals : Low d → AreDuals p (point_of p d) (duals_of p d)
    are_duals low =
        let y : List Fraction = duals_of p d in
        let proper : (j : ℕ) → IsFraction (fraction_at y j) = said-proper (constant_of d) (numbers_below (length p.rows)) proper_constants in
        let low_constants : (v : ℕ) → IsLow (constant_of d v) = constant_has d IsLow zero_low (λ i h. record { proper = (reached.dictionary.left i h).constant; low = low i h }) in
        record {
          same_length = said-length (constant_of d) (length p.rows);
          non_negative = said-low (constant_of d) (length p.rows) low_constants;
          columns = λ j h. from_ℚ (dot (column p j) y) (whole_number (slice_index_or p.costs j (pos 0))) (proper-dot (column p j) y proper) one_positive
              (at_most-same (column_sum (λ i. rational_of (constant_of d i)) j) (whole_ℚ (cost_of p j)) _ _ (sym (column_dot (constant_of d) j proper_constants)) (sym (rational_of-whole (cost_of p j)))
              (record { rest = subst IsNonNeg (slack j h) (low_constants (length p.rows + j)).low }));
          equal = Equals_from_rational_of (dot (leasts p) y) (cost p (point_of p d)) (proper-dot (leasts p) y proper) (proper-dot p.costs (point_of p d) proper_point)
              (leasts_dot (constant_of d) proper_constants ∙ sym by_constants.total_is ∙ sym cost_is);
        }

-- ---- the end of the trace

pub least_end_gives_duals : LeastEndGivesDuals
least_end_gives_duals p count d costs h =
    let e : LeastAt p d = subst (EndsAt p) h (ends p (first_reached p)) in
    (is_point p d e.reached e.none, are_duals p d e.reached e.none (e.reached.low (first_low p costs)))

pub least_end_gives_least : LeastEndGivesLeast
least_end_gives_least p count d costs h =
    let both = least_end_gives_duals p count d costs h in
    duals_give_least p (point_of p d) (duals_of p d) both.0 both.1

pub infeasible_end_gives_mix : InfeasibleEndGivesMix
infeasible_end_gives_mix p count d k h =
    let e : InfeasibleAt p d k = subst (EndsAt p) h (ends p (first_reached p)) in
    let spot : Spotted d k = spotted d k e.entered in
    is_mix p d e.reached k spot (none_leaves d k e.reached.dictionary spot e.none)
