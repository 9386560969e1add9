-- The first field of a line, and the fields after it.
use Rattle.std.proofs.Common.{◌≡◌, ℕ, suc, ◌+◌, ◌<◌, Bool, true, false, cond, eqb, List, [], ◌∷◌, length, get_or, take, drop, Option, None, Some, refl, arith}
use Rattle.std.specs.List.{onto_first, position_or_len}
use Rattle.std.proofs.lemmas.List.Sums.{position_or_len_is}
use Rattle.std.proofs.lemmas.List.Splits.{slice_split_first}
use Rattle.std.proofs.lemmas.Bool.{ne_eqb, eq-eqb}
use Rattle.std.specs.Prelude.{is_none}
use Rattle.std.specs.Borrow.{Bor}
use Rattle.ice_line.specs.Fields.{fields, fields_left}

pub fields_at : (text : List ℕ) (i : ℕ) → i < length text → ((k : ℕ) → k < i → get_or text k 0 ≡ 32 → ⊥) → get_or text i 0 ≡ 32 → fields text ≡ take i text ∷ fields (drop (i + 1) text)
fields_at text i lt before here =
    let place : position_or_len (λ b. eqb b 32) text ≡ i = position_or_len_is (λ b. eqb b 32) text i 0 (omega arith) (λ k h. ne_eqb _ _ (before k h)) (λ _. eq-eqb _ _ here) in
    let first = slice_split_first (λ b. eqb b 32) text 0 (omega (arith, place)) in
    rw place at first

pub fields_none : (text : List ℕ) → ((k : ℕ) → k < length text → get_or text k 0 ≡ 32 → ⊥) → fields text ≡ text ∷ []
fields_none [] none = refl
fields_none (b ∷ bs) none =
    rw (ne_eqb b 32 (none 0 (omega arith)), fields_none bs (λ k h. none (suc k) (omega arith))) refl

onto_first_some : (b : ℕ) (ps : List (List ℕ)) → onto_first b ps ≡ [] → ⊥
onto_first_some b [] e = absurd cc
onto_first_some b (p ∷ ps) e = absurd cc

first_some : (t : Bool) (b : ℕ) (ps : List (List ℕ)) → cond t ([] ∷ ps) (onto_first b ps) ≡ [] → ⊥
first_some true b ps e = absurd cc
first_some false b ps e = onto_first_some b ps e

-- there is a field
pub fields_some : (text : List ℕ) → fields text ≡ [] → ⊥
fields_some [] e = absurd cc
fields_some (b ∷ bs) e = first_some (eqb b 32) b (fields bs) e

-- where no field is left, there is no rest
pub none_left : (rest : Option (Bor (List ℕ))) → fields_left rest ≡ [] → is_none rest ≡ true
none_left None e = refl
none_left (Some rest) e = absurd (fields_some rest.now e)

pub left_none : (rest : Option (Bor (List ℕ))) → is_none rest ≡ true → fields_left rest ≡ []
left_none None e = refl
left_none (Some rest) e = absurd cc
