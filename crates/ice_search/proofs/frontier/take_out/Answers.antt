use Rattle.std.proofs.Common.{arith, get_or, sym, subst, ◌∙◌, ◌≡◌, ◌∷◌, ◌<◌, ℕ, List, length}
use Rattle.std.specs.List.{swap_remove}
use Rattle.std.specs.List.Sorted.{IsPermutation}
use Rattle.std.proofs.lemmas.List.{get_or_default}
use Rattle.std.proofs.lemmas.List.Sorted.{IsPermutation-swap_remove}
use Rattle.ice_search.proofs.frontier.take_out.Goals as goal

moved : (xs ys : List ℕ) (i x : ℕ) → i < length xs → x ≡ get_or xs i x → ys ≡ swap_remove xs i x → IsPermutation xs (get_or xs i 0 ∷ ys)
moved xs ys i x l is e =
    subst (λ zs. IsPermutation xs (get_or xs i 0 ∷ zs)) (sym e)
    (subst (λ y. IsPermutation xs (y ∷ swap_remove xs i x)) (is ∙ get_or_default xs i x 0 l) (IsPermutation-swap_remove xs i x l is))

pub returns-clause-others : goal.returns-clause-others
returns-clause-others c = moved c.args.open_parts.now.items c.swap_remove.new.self.items c.args.place c.swap_remove.result (omega (arith, c.requires)) c.swap_remove.ensures.value c.swap_remove.ensures.items
