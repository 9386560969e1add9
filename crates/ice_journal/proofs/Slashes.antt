-- A fraction's text is cut at its slash.
use Rattle.std.proofs.Common.{◌≡◌, ℕ, List, ◌∷◌, ◌++◌, Contains, decimal, refl, sym, subst, ◌∙◌, arith}
use Rattle.std.specs.Fmt.{signed_decimal}
use Rattle.std.proofs.lemmas.List.Elements.{Contains-append_right}
use Rattle.ice_defs.specs.Fraction.{Fraction}
use Rattle.ice_journal.specs.Ranges.{IsFractionField}
use Rattle.ice_journal.specs.Spelling.{fraction_text}
use Rattle.ice_journal.proofs.OneSpelling.{slash_same, num_no_slash}

pub has_slash : (a b : List ℕ) → Contains (a ++ 47 ∷ b) 47
has_slash a b = Contains-append_right a (47 ∷ b) 47 (0, omega arith, refl)

pub cut_fraction : (field left right : List ℕ) (f : Fraction) → field ≡ left ++ 47 ∷ right → (Contains left 47 → ⊥) → IsFractionField f → field ≡ fraction_text f → (left ≡ signed_decimal f.num) × (right ≡ decimal f.den)
cut_fraction field left right f cut none h e =
    slash_same left (signed_decimal f.num) right (decimal f.den) (λ a rest here. none (let P : List ℕ → Type 0 = λ t. Contains t 47 in subst P here (has_slash a rest))) (num_no_slash f h) (sym cut ∙ e)
