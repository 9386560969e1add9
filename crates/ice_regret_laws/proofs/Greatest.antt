-- A trade that some set serves has a worth.
use Rattle.std.proofs.Common.{ℕ, zero, suc, ◌≡◌, Bool, true, false, List, [], ◌∷◌, length, ℤ, ◌≤ℤ◌, refl, arith, ◌⊎◌, inl, inr}
use Rattle.std.proofs.lemmas.Int.{ints, by_lt_z}
use Rattle.ice_defs.specs.Tree.{Tree}
use Rattle.ice_defs.specs.Set.{NodeSet, Weights, value}
use Rattle.ice_defs.specs.Market.{Trade, Serves, IsWorth}
use Rattle.ice_regret_laws.proofs.Decided.{decided_serves}
use Rattle.ice_defs.proofs.NodeSets.{set_of_none, set_of_more}
use Rattle.ice_defs.proofs.Decided.{IsDecided}

abbrev NoneIs : ℕ → (NodeSet → Type 0) → Type 0
NoneIs n Is = (s : NodeSet) → length s ≡ n → Is s → ⊥

-- a greatest one among the sets of n nodes of a kind
abbrev HasGreatest : ℕ → (NodeSet → Type 0) → (NodeSet → ℤ) → Type 0
HasGreatest n Is size = (best : NodeSet) × Is best × ((s : NodeSet) → length s ≡ n → Is s → size s ≤ℤ size best)

none_or_greatest : (n : ℕ) (Is : NodeSet → Type 0) (size : NodeSet → ℤ) → ((s : NodeSet) → length s ≡ n → IsDecided (Is s)) → NoneIs n Is ⊎ HasGreatest n Is size
none_or_greatest zero Is size decided = by (decided [] refl)
  where
    by : IsDecided (Is []) → NoneIs zero Is ⊎ HasGreatest zero Is size
    by (inl is) = inr ([], is, set_of_none (λ s. Is s → size s ≤ℤ size []) (λ h. omega (arith, ints)))
    by (inr refuted) = inl (set_of_none (λ s. Is s → ⊥) refuted)
none_or_greatest (suc n) Is size decided =
    by (none_or_greatest n (λ s. Is (false ∷ s)) (λ s. size (false ∷ s)) (λ s e. decided (false ∷ s) (omega (arith, e))))
    (none_or_greatest n (λ s. Is (true ∷ s)) (λ s. size (true ∷ s)) (λ s e. decided (true ∷ s) (omega (arith, e))))
  where
    by : (NoneIs n (λ s. Is (false ∷ s)) ⊎ HasGreatest n (λ s. Is (false ∷ s)) (λ s. size (false ∷ s)))
        → (NoneIs n (λ s. Is (true ∷ s)) ⊎ HasGreatest n (λ s. Is (true ∷ s)) (λ s. size (true ∷ s)))
        → NoneIs (suc n) Is ⊎ HasGreatest (suc n) Is size
    by (inl none) (inl none') = inl (set_of_more n (λ s. Is s → ⊥) none none')
    by (inr (a, is, most)) (inl none) = inr (false ∷ a, is, set_of_more n (λ s. Is s → size s ≤ℤ size (false ∷ a)) most (λ s same h. absurd (none s same h)))
    by (inl none) (inr (b, is, most)) = inr (true ∷ b, is, set_of_more n (λ s. Is s → size s ≤ℤ size (true ∷ b)) (λ s same h. absurd (none s same h)) most)
    by (inr (a, is, most)) (inr (b, is', most')) =
        by_lt_z (size (false ∷ a)) (size (true ∷ b))
        (λ less. inr (true ∷ b, is', set_of_more n (λ s. Is s → size s ≤ℤ size (true ∷ b)) (λ s same h. omega (arith, ints, most s same h, less)) most'))
        (λ le. inr (false ∷ a, is, set_of_more n (λ s. Is s → size s ≤ℤ size (false ∷ a)) most (λ s same h. omega (arith, ints, most' s same h, le))))

pub worth_there : (exact : List Bool) (t : Tree) (v : Weights) (trade : Trade) (s : NodeSet) → Serves exact t trade s → (worth : ℤ) × IsWorth exact t v trade worth
worth_there exact t v trade s serves = by (none_or_greatest (length t) (Serves exact t trade) (λ s. value s v) (decided_serves exact t trade))
  where
    by : NoneIs (length t) (Serves exact t trade) ⊎ HasGreatest (length t) (Serves exact t trade) (λ s. value s v) → (worth : ℤ) × IsWorth exact t v trade worth
    by (inl none) = absurd (none s (serves.0).same_length serves)
    by (inr (best, is, most)) = (value best v, record { attained = (best, is, refl); bound = λ other is'. most other (is'.0).same_length is' })
