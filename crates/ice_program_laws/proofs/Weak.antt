-- Weak duality.
use Rattle.std.proofs.Common.{◌≡◌, ℕ, ◌<◌, refl, sym, ap, subst, ◌∙◌, arith, List, [], length, slice_index_or, ℤ, pos}
use Rattle.std.proofs.lemmas.Int.{ints}
use Rattle.std.proofs.lemmas.List.{get_or-map}
use Rattle.ice_defs.specs.Fraction.{Fraction, whole_number, IsFraction, AtMost, Below, fraction_at}
use Rattle.ice_defs.specs.Program.{Constraint, Program, dot, AreNonNegative, IsPoint, cost, column, leasts}
use Rattle.ice_frac.proofs.Rational.{ℚ, whole_ℚ, ◌*ℚ◌, *ℚ_assoc, *ℚ_comm, IsNonNeg, one_positive, rational_of, rational_of-whole}
use Rattle.ice_frac.proofs.Fractions.{AtMost-left}
use Rattle.ice_program_laws.specs.Laws.{DualsGiveLeast, MixGivesInfeasible}
use Rattle.ice_program_laws.proofs.Field.{AtMostℚ, at_most-product, at_most-trans, at_most-same}
use Rattle.ice_program_laws.proofs.Dots.{at_recursion, to_ℚ, from_ℚ, proper-at, nonneg-at, proper-dot, dot_is}
use Rattle.ice_program_laws.proofs.SumsQ.{sum_ℚ, sum-same, sum-*ℚ, sum-swap, sum-at_most}

-- ---- over rationals

-- sums of x over a matrix, each row's and each column's
sum-turn : (a : ℕ → ℕ → ℚ) (y z : ℕ → ℚ) (m n : ℕ)
    → sum_ℚ (λ i. y i *ℚ sum_ℚ (λ j. a i j *ℚ z j) n) m ≡ sum_ℚ (λ j. z j *ℚ sum_ℚ (λ i. a i j *ℚ y i) m) n
sum-turn a y z m n =
    sum-same _ (λ i. sum_ℚ (λ j. y i *ℚ (a i j *ℚ z j)) n) m (λ i h. sym (sum-*ℚ (y i) (λ j. a i j *ℚ z j) n))
    ∙ sum-swap (λ i j. y i *ℚ (a i j *ℚ z j)) m n
    ∙ sum-same _ _ n (λ j h. sum-same _ (λ i. z j *ℚ (a i j *ℚ y i)) m (λ i l. turned (y i) (a i j) (z j)) ∙ sum-*ℚ (z j) (λ i. a i j *ℚ y i) m)
  where
    turned : (y a z : ℚ) → y *ℚ (a *ℚ z) ≡ z *ℚ (a *ℚ y)
    turned y a z = *ℚ_comm y (a *ℚ z) ∙ ap (λ x. x *ℚ y) (*ℚ_comm a z) ∙ *ℚ_assoc z a y

-- rows that are met and columns that don't exceed their costs
pub weak : (a : ℕ → ℕ → ℚ) (l y c z : ℕ → ℚ) (m n : ℕ)
    → ((i : ℕ) → i < m → IsNonNeg (y i)) → ((j : ℕ) → j < n → IsNonNeg (z j))
    → ((i : ℕ) → i < m → AtMostℚ (l i) (sum_ℚ (λ j. a i j *ℚ z j) n)) → ((j : ℕ) → j < n → AtMostℚ (sum_ℚ (λ i. a i j *ℚ y i) m) (c j))
    → AtMostℚ (sum_ℚ (λ i. y i *ℚ l i) m) (sum_ℚ (λ j. z j *ℚ c j) n)
weak a l y c z m n hy hz rows columns =
    at_most-trans _ (sum_ℚ (λ i. y i *ℚ sum_ℚ (λ j. a i j *ℚ z j) n) m) _
    (sum-at_most (λ i. y i *ℚ l i) (λ i. y i *ℚ sum_ℚ (λ j. a i j *ℚ z j) n) m (λ i h. at_most-product (y i) _ _ (hy i h) (rows i h)))
    (at_most-same (sum_ℚ (λ j. z j *ℚ sum_ℚ (λ i. a i j *ℚ y i) m) n) (sum_ℚ (λ j. z j *ℚ c j) n) _ _ (sym (sum-turn a y z m n)) refl
    (sum-at_most (λ j. z j *ℚ sum_ℚ (λ i. a i j *ℚ y i) m) (λ j. z j *ℚ c j) n (λ j h. at_most-product (z j) _ _ (hz j h) (columns j h))))

-- ---- over fractions

no_row : Constraint
no_row = record { coeffs = []; least = pos 0 }

-- numbers of the rows under which no column exceeds its bound, and a feasible point
weak_at : (p : Program) (x y : List Fraction) (bounds : List ℤ) → IsPoint p x → length y ≡ length p.rows → AreNonNegative y
    → ((j : ℕ) → j < length p.costs → AtMost (dot (column p j) y) (whole_number (slice_index_or bounds j (pos 0)))) → AtMost (dot (leasts p) y) (dot bounds x)
weak_at p x y bounds point same low columns =
    let m : ℕ = length p.rows in
    let n : ℕ = length p.costs in
    let px : (j : ℕ) → IsFraction (fraction_at x j) = proper-at x point.non_negative in
    let py : (j : ℕ) → IsFraction (fraction_at y j) = proper-at y low in
    let qx : ℕ → ℚ = λ j. rational_of (fraction_at x j) in
    let qy : ℕ → ℚ = λ i. rational_of (fraction_at y i) in
    let row : ℕ → Constraint = λ i. slice_index_or p.rows i no_row in
    let a : ℕ → ℕ → ℚ = λ i j. whole_ℚ (slice_index_or (row i).coeffs j (pos 0)) in
    let l : ℕ → ℚ = λ i. whole_ℚ (row i).least in
    let c : ℕ → ℚ = λ j. whole_ℚ (slice_index_or bounds j (pos 0)) in
    let rows : (i : ℕ) → i < m → AtMostℚ (l i) (sum_ℚ (λ j. a i j *ℚ qx j) n) =
    λ i h. at_most-same _ _ _ _ (rational_of-whole (row i).least) (dot_is (row i).coeffs x px ∙ ap (sum_ℚ (λ j. a i j *ℚ qx j)) point.same_length)
    (to_ℚ (whole_number (row i).least) (dot (row i).coeffs x) one_positive (proper-dot (row i).coeffs x px)
    (at_recursion (λ row. AtMost (whole_number row.least) (dot row.coeffs x)) p.rows no_row point.rows i h)) in
    let cols : (j : ℕ) → j < n → AtMostℚ (sum_ℚ (λ i. a i j *ℚ qy i) m) (c j) =
    λ j h. at_most-same _ _ _ _
    (dot_is (column p j) y py ∙ ap (sum_ℚ (λ i. whole_ℚ (slice_index_or (column p j) i (pos 0)) *ℚ qy i)) same
    ∙ sum-same _ (λ i. a i j *ℚ qy i) m (λ i k. ap (λ v. whole_ℚ v *ℚ qy i) (get_or-map (λ (row : Constraint). slice_index_or row.coeffs j (pos 0)) p.rows i no_row (pos 0) k)))
    (rational_of-whole (slice_index_or bounds j (pos 0)))
    (to_ℚ (dot (column p j) y) (whole_number (slice_index_or bounds j (pos 0))) (proper-dot (column p j) y py) one_positive (columns j h)) in
    from_ℚ (dot (leasts p) y) (dot bounds x) (proper-dot (leasts p) y py) (proper-dot bounds x px)
    (at_most-same _ _ _ _
    (sym (dot_is (leasts p) y py ∙ ap (sum_ℚ (λ i. whole_ℚ (slice_index_or (leasts p) i (pos 0)) *ℚ qy i)) same
    ∙ sum-same _ (λ i. qy i *ℚ l i) m (λ i k. *ℚ_comm _ (qy i) ∙ ap (λ v. qy i *ℚ whole_ℚ v) (get_or-map (λ (row : Constraint). row.least) p.rows i no_row (pos 0) k))))
    (sym (dot_is bounds x px ∙ ap (sum_ℚ (λ j. c j *ℚ qx j)) point.same_length ∙ sum-same _ (λ j. qx j *ℚ c j) n (λ j k. *ℚ_comm (c j) (qx j))))
    (weak a l qy c qx m n (λ i h. nonneg-at y low i (subst (λ k. i < k) (sym same) h)) (λ j h. nonneg-at x point.non_negative j (subst (λ k. j < k) (sym point.same_length) h)) rows cols))

pub duals_give_least : DualsGiveLeast
duals_give_least p x y point duals = record {
  point = point;
  least = λ z other. AtMost-left (dot (leasts p) y) (cost p x) (cost p z) (proper-dot (leasts p) y (proper-at y duals.non_negative)) duals.equal
      (weak_at p z y p.costs other duals.same_length duals.non_negative duals.columns);
}

pub mix_gives_infeasible : MixGivesInfeasible
mix_gives_infeasible p y mix x point =
    let low : AtMost (dot (leasts p) y) (whole_number (pos 0)) = weak_at p x y [] point mix.same_length mix.non_negative mix.columns in
    let high : Below (whole_number (pos 0)) (dot (leasts p) y) = mix.positive in
    omega (arith, ints, low, high)
