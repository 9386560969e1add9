-- Exact values leave no regret.
use Rattle.std.proofs.Common.{◌≡◌, true, false, List, [], ◌∷◌, ℤ, ◌-ℤ◌, refl, sym, ap, subst, arith, ◌∙◌}
use Rattle.std.proofs.lemmas.Int.{ints}
use Rattle.ice_defs.specs.Set.{NodeSet, Weights}
use Rattle.ice_defs.specs.Trade.{Assignment, total_value, IsBestOfAll}
use Rattle.ice_defs.specs.Bounds.{Bounds}
use Rattle.ice_defs.specs.Weighing.{lower_weights, perturbed_list, perturbed_weights}
use Rattle.ice_defs.specs.Regret.{IsRegret}
use Rattle.ice_regret_laws.proofs.Perturbed.{perturbed_gives_regret}
use Rattle.ice_regret_laws.proofs.Regrets.{regret_is_one}
use Rattle.ice_trial.specs.Truths.{AreExact}
use Rattle.ice_trial.specs.Laws.{ExactBoundsHaveNoRegret}

-- a set perturbs no value whose bounds are equal
perturbed_same : (s : NodeSet) (los : List ℤ) → perturbed_list s los los ≡ los
perturbed_same s [] = refl
perturbed_same [] (lo ∷ los) = ap (λ (rest : List ℤ). lo ∷ rest) (perturbed_same [] los)
perturbed_same (true ∷ s) (lo ∷ los) = ap (λ (rest : List ℤ). lo ∷ rest) (perturbed_same s los)
perturbed_same (false ∷ s) (lo ∷ los) = ap (λ (rest : List ℤ). lo ∷ rest) (perturbed_same s los)

perturbed_exact : (s : NodeSet) (b : Bounds) → b.hi ≡ b.lo → perturbed_list s b.lo b.hi ≡ b.lo
perturbed_exact s b e = ap (perturbed_list s b.lo) e ∙ perturbed_same s b.lo

pub perturbed_are_lower : (chosen : Assignment) (bounds : List Bounds) → AreExact bounds → perturbed_weights chosen bounds ≡ lower_weights bounds
perturbed_are_lower chosen [] exact = refl
perturbed_are_lower [] (b ∷ bounds) exact =
    ap (λ (w : Weights). w ∷ perturbed_weights [] bounds) (perturbed_exact [] b exact.0) ∙ ap (λ (ws : List Weights). b.lo ∷ ws) (perturbed_are_lower [] bounds exact.1)
perturbed_are_lower (s ∷ chosen) (b ∷ bounds) exact =
    ap (λ (w : Weights). w ∷ perturbed_weights chosen bounds) (perturbed_exact s b exact.0) ∙ ap (λ (ws : List Weights). b.lo ∷ ws) (perturbed_are_lower chosen bounds exact.1)

pub exact_bounds_have_no_regret : ExactBoundsHaveNoRegret
exact_bounds_have_no_regret market bounds final regret same each exact feasible best is =
    let low : ℤ = total_value final (lower_weights bounds) in
    let none : IsRegret market bounds final (low -ℤ low) =
    perturbed_gives_regret market bounds final low same each feasible (subst (λ (ws : List Weights). IsBestOfAll market.trees market.exact ws low) (sym (perturbed_are_lower final bounds exact)) best) in
    omega (arith, ints, regret_is_one market bounds final regret (low -ℤ low) is none)
