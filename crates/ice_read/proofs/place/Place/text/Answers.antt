use Rattle.std.proofs.Common.{◌≡◌, ℕ, IsTrue, List, [], ◌∷◌, ◌++◌, refl, ap, sym, ◌∙◌, arith}
use Rattle.std.proofs.lemmas.Str.Ascii.{encode_ascii}
use Rattle.ice_read.specs.Places.{place_text, is_dotted}
use Rattle.ice_read.proofs.place.Place.text.Goals as goal

undotted : (bs same : List ℕ) → IsTrue (is_dotted bs) → same ≡ bs → ((rest : List ℕ) → same ≡ 46 ∷ rest → ⊥) → 45 ∷ [] ≡ place_text bs
undotted [] same dotted e none = refl
undotted (b ∷ rest) same dotted e none = let first : b ≡ 46 = grind arith in absurd (none rest (rw (← first) e))

pub returns-in-None-clause-text : goal.returns-in-None-clause-text
returns-in-None-clause-text c = rw (← c.self.view_is) (undotted c.self.inside.text.bytes c.as_str.result.now c.self.invariant c.as_str.ensures.value
    (λ rest e. c.in-None.ensures.cases rest (e ∙ sym (ap (λ dot. dot ++ rest) (encode_ascii 46 (omega arith))))))
