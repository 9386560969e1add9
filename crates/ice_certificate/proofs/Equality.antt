-- Fractions over two denominators are equal where those in lowest terms are.
use Rattle.std.proofs.Common.{ℕ, ◌≡◌, ◌<◌, ◌⊎◌, inl, inr, ℤ, pos, ◌*ℤ◌, ◌∙◌, sym, arith, Ordering, Less, Equal, Greater}
use Rattle.std.specs.Ordering.{MatchOrdering}
use Rattle.std.proofs.lemmas.Int.{ints}
use Rattle.ice_defs.specs.Fraction.{Fraction, IsFraction, Equals, Below}
use Rattle.ice_frac.proofs.Ring.{is_diff, diff_same, diffs}
use Rattle.ice_frac.proofs.Fractions.{Equals-trans}

turned : (n m : ℤ) → n *ℤ m ≡ m *ℤ n
turned n m = rw (is_diff n, is_diff m) (simp diffs (diff_same _ _ _ _ (omega arith)))

pub equal_is : (a b : Fraction) (num other_num : ℤ) (den other_den : ℕ) → IsFraction a → IsFraction b
    → Equals a (record { num = num; den = den }) → Equals b (record { num = other_num; den = other_den }) → Equals a b
    → pos other_den *ℤ num ≡ other_num *ℤ pos den
equal_is a b num other_num den other_den fa fb one other same =
    let given : Fraction = record { num = num; den = den } in
    let wanted : Fraction = record { num = other_num; den = other_den } in
    turned (pos other_den) num ∙ Equals-trans given a wanted fa (sym one) (Equals-trans a b wanted fb same other)

pub is_equal : (a b : Fraction) (num other_num : ℤ) (den other_den : ℕ) → 0 < den → 0 < other_den
    → Equals a (record { num = num; den = den }) → Equals b (record { num = other_num; den = other_den })
    → pos other_den *ℤ num ≡ other_num *ℤ pos den → Equals a b
is_equal a b num other_num den other_den fa fb one other same =
    let given : Fraction = record { num = num; den = den } in
    let wanted : Fraction = record { num = other_num; den = other_den } in
    Equals-trans a given b fa one (Equals-trans given wanted b fb (turned num (pos other_den) ∙ same) (sym other))

-- fractions of which one is below the other aren't equal
pub not_equal : (o : Ordering) (a b : Fraction) → (o ≡ Less) ⊎ (o ≡ Greater) → MatchOrdering o (Below a b) (Equals a b) (Below b a) → ¬ Equals a b
not_equal Less a b is ranked same = omega (arith, ints, ranked, same)
not_equal Equal a b (inl e) ranked same = absurd (cc)
not_equal Equal a b (inr e) ranked same = absurd (cc)
not_equal Greater a b is ranked same = omega (arith, ints, ranked, same)
