-- Changes of the parts, as they are in the definitions.
use Rattle.std.proofs.Common.{ℕ, ◌<◌, ◌≡◌, List, [], ◌∷◌, ◌++◌, length, get_or, set, ap, sym, ◌∙◌}
use Rattle.std.proofs.lemmas.List.{map-set, map-append}
use Rattle.ice_search_log.specs.Parts as parts
use Rattle.ice_search_log.specs.declared.part.Part.{Part}
use Rattle.ice_search_log.specs.Code.{part_of, parts_of}
use Rattle.ice_search_log.proofs.Assembling.{part_read}

-- a part is changed
pub placed : (list : List Part) (k : ℕ) (p q : Part) (change : parts.Part → parts.Part) → k < length list → p ≡ get_or list k p → part_of q ≡ change (part_of p)
    → parts_of (set list k q) ≡ set (parts_of list) k (change (parts.part_at (parts_of list) k))
placed list k p q change l e is = map-set part_of list k q ∙ ap (set (parts_of list) k) (is ∙ ap change (sym (part_read list k p l e)))

-- a part is added
pub added : (list new : List Part) (p : Part) (older : List parts.Part) (q : parts.Part) → new ≡ list ++ p ∷ [] → parts_of list ≡ older → part_of p ≡ q → parts_of new ≡ older ++ q ∷ []
added list new p older q e before is = ap parts_of e ∙ map-append part_of list (p ∷ []) ∙ ap (λ xs. xs ++ part_of p ∷ []) before ∙ ap (λ x. older ++ x ∷ []) is
