-- Facts that hold, or don't.
use Rattle.std.proofs.Common.{ℕ, zero, suc, ◌<◌, ◌≤◌, ◌≡◌, Bool, true, false, ℤ, arith, ◌⊎◌, inl, inr, subst}
use Rattle.std.proofs.lemmas.Int.{ints, by_lt_z}
use Rattle.std.proofs.lemmas.Bool.{cases_lt}
use Rattle.ice_defs.specs.Trade.{IsCovered}

-- it holds, or it doesn't
abbrev pub IsDecided : Type 0 → Type 0
IsDecided A = A ⊎ (A → ⊥)

pub decided_both : {A B : Type 0} → IsDecided A → IsDecided B → IsDecided (A × B)
decided_both (inl a) (inl b) = inl (a, b)
decided_both (inl a) (inr refuted) = inr (λ both. refuted both.1)
decided_both (inr refuted) b = inr (λ both. refuted both.0)

pub decided_implied : {A B : Type 0} → IsDecided A → IsDecided B → IsDecided (A → B)
decided_implied (inr refuted) b = inl (λ a. absurd (refuted a))
decided_implied (inl a) (inl b) = inl (λ _. b)
decided_implied (inl a) (inr refuted) = inr (λ all. refuted (all a))

pub decided_below : (Is : ℕ → Type 0) (n : ℕ) → ((k : ℕ) → IsDecided (Is k)) → IsDecided ((k : ℕ) → k < n → Is k)
decided_below Is zero each = inl (λ k h. absurd (omega arith))
decided_below Is (suc n) each = by (decided_below Is n each) (each n)
  where
    by : IsDecided ((k : ℕ) → k < n → Is k) → IsDecided (Is n) → IsDecided ((k : ℕ) → k < suc n → Is k)
    by (inr refuted) last = inr (λ all. refuted (λ k h. all k (omega arith)))
    by (inl before) (inr refuted) = inr (λ all. refuted (all n (omega arith)))
    by (inl before) (inl last) = inl (λ k h. at k (cases_lt k n) h)
      where
        at : (k : ℕ) → (k < n) ⊎ (n ≤ k) → k < suc n → Is k
        at k (inl l) h = before k l
        at k (inr l) h = let e : n ≡ k = omega arith in subst Is e last

pub decided_covered : (exact : Bool) (used given : ℤ) → IsDecided (IsCovered exact used given)
decided_covered true used given =
    by_lt_z used given (λ less. inr (λ e. absurd (omega (arith, ints, less, e))))
    (λ le. by_lt_z given used (λ less. inr (λ e. absurd (omega (arith, ints, less, e)))) (λ ge. inl (omega (arith, ints, le, ge))))
decided_covered false used given = by_lt_z given used (λ less. inr (λ h. absurd (omega (arith, ints, less, h)))) (λ le. inl le)
