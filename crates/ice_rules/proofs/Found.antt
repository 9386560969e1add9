-- Among the satisfied sets of a tree there is a greatest one.
use Rattle.std.proofs.Common.{ℕ, zero, suc, ◌≡◌, Bool, true, false, IsTrue, [], ◌∷◌, length, ℤ, ◌≤ℤ◌, refl, arith, ◌⊎◌, inl, inr}
use Rattle.std.proofs.lemmas.Int.{ints, by_lt_z}
use Rattle.ice_defs.specs.Tree.{Tree}
use Rattle.ice_defs.specs.Set.{NodeSet, IsSatisfied}
use Rattle.ice_defs.specs.SetFault.{is_satisfied}
use Rattle.ice_best.proofs.Deciding.{is_satisfied-true, is_satisfied-from}
use Rattle.ice_defs.proofs.NodeSets.{set_of_none, set_of_more}

abbrev NonePass : ℕ → (NodeSet → Bool) → Type 0
NonePass n p = (s : NodeSet) → length s ≡ n → IsTrue (p s) → ⊥

abbrev HasGreatest : ℕ → (NodeSet → Bool) → (NodeSet → ℤ) → Type 0
HasGreatest n p f = (best : NodeSet) × (length best ≡ n) × IsTrue (p best) × ((s : NodeSet) → length s ≡ n → IsTrue (p s) → f s ≤ℤ f best)

greatest_or_none : (n : ℕ) (p : NodeSet → Bool) (f : NodeSet → ℤ) → NonePass n p ⊎ HasGreatest n p f
greatest_or_none zero p f = by (p []) refl
  where
    by : (b : Bool) → p [] ≡ b → NonePass zero p ⊎ HasGreatest zero p f
    by true e = inr ([], refl, e, set_of_none (λ s. IsTrue (p s) → f s ≤ℤ f []) (λ h. omega (arith, ints)))
    by false e = inl (set_of_none (λ s. IsTrue (p s) → ⊥) (λ h. let h' : p [] ≡ true = h in absurd (cc)))
greatest_or_none (suc n) p f = by (greatest_or_none n (λ s. p (false ∷ s)) (λ s. f (false ∷ s))) (greatest_or_none n (λ s. p (true ∷ s)) (λ s. f (true ∷ s)))
  where
    by : (NonePass n (λ s. p (false ∷ s)) ⊎ HasGreatest n (λ s. p (false ∷ s)) (λ s. f (false ∷ s)))
        → (NonePass n (λ s. p (true ∷ s)) ⊎ HasGreatest n (λ s. p (true ∷ s)) (λ s. f (true ∷ s)))
        → NonePass (suc n) p ⊎ HasGreatest (suc n) p f
    by (inl none) (inl none') = inl (set_of_more n (λ s. IsTrue (p s) → ⊥) none none')
    by (inr (a, size, passes, most)) (inl none) =
        inr (false ∷ a, omega arith, passes, set_of_more n (λ s. IsTrue (p s) → f s ≤ℤ f (false ∷ a)) most (λ s same h. absurd (none s same h)))
    by (inl none) (inr (b, size, passes, most)) =
        inr (true ∷ b, omega arith, passes, set_of_more n (λ s. IsTrue (p s) → f s ≤ℤ f (true ∷ b)) (λ s same h. absurd (none s same h)) most)
    by (inr (a, size, passes, most)) (inr (b, size', passes', most')) =
        by_lt_z (f (false ∷ a)) (f (true ∷ b))
        (λ less.
        inr (true ∷ b, omega (arith, size'), passes', set_of_more n (λ s. IsTrue (p s) → f s ≤ℤ f (true ∷ b)) (λ s same h. omega (arith, ints, most s same h, less)) most'))
        (λ le.
        inr (false ∷ a, omega (arith, size), passes, set_of_more n (λ s. IsTrue (p s) → f s ≤ℤ f (false ∷ a)) most (λ s same h. omega (arith, ints, most' s same h, le))))

pub greatest_there : (t : Tree) (s : NodeSet) → IsSatisfied t s → (f : NodeSet → ℤ) → (best : NodeSet) × IsSatisfied t best × ((other : NodeSet) → IsSatisfied t other → f other ≤ℤ f best)
greatest_there t s sat f = by (greatest_or_none (length t) (is_satisfied t) f)
  where
    by : NonePass (length t) (is_satisfied t) ⊎ HasGreatest (length t) (is_satisfied t) f
        → (best : NodeSet) × IsSatisfied t best × ((other : NodeSet) → IsSatisfied t other → f other ≤ℤ f best)
    by (inl none) = absurd (none s sat.same_length (is_satisfied-from t s sat))
    by (inr (best, size, passes, most)) = (best, is_satisfied-true t best passes, λ other ok. most other ok.same_length (is_satisfied-from t other ok))
