-- Bidders of other names: a submission changes nothing of theirs.
use Rattle.std.proofs.Common.{ℕ, ◌≡◌, false, List, [], ◌∷◌, map, ℤ, refl, ap, subst, ◌∙◌}
use Rattle.std.specs.List.{AllByRecursion}
use Rattle.std.specs.Str.{bytes_eq}
use Rattle.std.proofs.lemmas.Cmp.{nat_list_eq_equiv}
use Rattle.ice_defs.specs.Bounds.{Bounds}
use Rattle.ice_defs.specs.Prices.{Prices}
use Rattle.ice_defs.specs.Round.{Judged, Standing, of_name, JudgesInOrder, bounds_after, next_bounds}

-- none of these bidders has this name
abbrev pub AreOthers : List ℕ → List Standing → Type 0
AreOthers name bidders = AllByRecursion (λ n. bytes_eq name n ≡ false) (map (λ (b : Standing). b.name) bidders)

-- a submission of this name is none of theirs
skips : (name : List ℕ) (b : Standing) (j : Judged) (judged : List Judged) → bytes_eq name b.name ≡ false → j.submission.name ≡ name → of_name b.name (j ∷ judged) ≡ of_name b.name judged
skips name b j judged other named =
    let is : bytes_eq b.name j.submission.name ≡ false = ap (bytes_eq b.name) named ∙ nat_list_eq_equiv.symm b.name name ∙ other in
    rw is refl

-- the submissions of each bidder are judged in their order
abbrev pub AreJudged : Prices → ℤ → List Standing → List Judged → Type 0
AreJudged p improve bidders judged = AllByRecursion (λ bidder. JudgesInOrder p improve bidder false (of_name bidder.name judged)) bidders

pub others_judged : (p : Prices) (improve : ℤ) (name : List ℕ) (bidders : List Standing) (j : Judged) (judged : List Judged) → AreOthers name bidders → j.submission.name ≡ name
    → AreJudged p improve bidders (j ∷ judged) → AreJudged p improve bidders judged
others_judged p improve name [] j judged others named are = tt
others_judged p improve name (b ∷ bidders) j judged others named are = (
  subst (JudgesInOrder p improve b false) (skips name b j judged others.0 named) are.0,
  others_judged p improve name bidders j judged others.1 named are.1,
)

pub others_next : (name : List ℕ) (bidders : List Standing) (j : Judged) (judged : List Judged) → AreOthers name bidders → j.submission.name ≡ name → next_bounds bidders (j ∷ judged) ≡ next_bounds bidders judged
others_next name [] j judged others named = refl
others_next name (b ∷ bidders) j judged others named =
    ap (λ (js : List Judged). bounds_after b.bounds js ∷ next_bounds bidders (j ∷ judged)) (skips name b j judged others.0 named)
    ∙ ap (λ (bs : List Bounds). bounds_after b.bounds (of_name b.name judged) ∷ bs) (others_next name bidders j judged others.1 named)
