-- The true values of a tree are bounds.
use Rattle.std.proofs.Common.{ℕ, ◌≡◌, true, false, ◌&&◌, not, eqb, List, [], ◌∷◌, map, length, ℤ, pos, neg_ℤ, ◌≤ℤ◌, Option, None, refl, arith, ap, ◌∙◌}
use Rattle.std.specs.Prelude.{Result, Ok, Err, IsOk}
use Rattle.std.specs.List.{AllByRecursion, list_all}
use Rattle.std.proofs.lemmas.Int.{ints}
use Rattle.std.proofs.lemmas.Bool.Decides.{nat_tests}
use Rattle.std.proofs.lemmas.List.{length-map}
use Rattle.ice_defs.specs.Making.{is_value}
use Rattle.ice_tree.specs.declared.faults.BoundsFault.{BoundsFault}
use Rattle.ice_tree.specs.Bounds.{BoundsRefusedBy, bounds_refusal}
use Rattle.ice_tree.proofs.Bounding.{are_crossed-same}
use Rattle.ice_gen.specs.declared.valued.Valued.{Valued}
use Rattle.ice_gen.specs.Generated.{truth_of_values}
use Rattle.ice_gen.specs.Growing.{IsModest}
use Rattle.ice_gen.proofs.Numbers.{cond-false}

-- where no refusal is due there is none
pub IsOk-from_none : {T : Type 0} (r : Result T BoundsFault) (due : Option ℕ) → BoundsRefusedBy r due → due ≡ None → IsOk r
IsOk-from_none (Ok x) due refused none = refl
IsOk-from_none (Err fault) due refused none = absurd cc

is_value-modest : (z : ℤ) → neg_ℤ (pos 1000) ≤ℤ z → z ≤ℤ pos 1000 → is_value z ≡ true
is_value-modest z low high = grind (arith, ints)

are_values : (vs : List Valued) → AllByRecursion IsModest vs → list_all is_value (map (λ v. v.truth) vs) ≡ true
are_values [] all = refl
are_values (v ∷ vs) all =
    let here : is_value v.truth ≡ true = is_value-modest v.truth all.0.0.0 all.0.0.1 in
    ap (λ b. b && list_all is_value (map (λ v. v.truth) vs)) here ∙ are_values vs all.1

pub bounds_refusal-truth : (vs : List Valued) (nodes : ℕ) → length vs ≡ nodes → AllByRecursion IsModest vs
    → bounds_refusal nodes (truth_of_values vs).lo (truth_of_values vs).hi ≡ None
bounds_refusal-truth vs nodes count all =
    let zs : List ℤ = map (λ v. v.truth) vs in
    let n : length zs ≡ nodes = length-map vs (λ v. v.truth) ∙ count in
    let counted : not (eqb (length zs) nodes && eqb (length zs) nodes) ≡ false = grind (arith, nat_tests) in
    let valued : not (list_all is_value zs && list_all is_value zs) ≡ false = ap (λ b. not (b && b)) (are_values vs all) in
    cond-false _ _ _ _ counted (cond-false _ _ _ _ valued (cond-false _ _ _ _ (are_crossed-same zs) refl))
