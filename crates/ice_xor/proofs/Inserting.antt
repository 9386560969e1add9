-- Units that are inserted in ascending order of goods.
use Rattle.std.proofs.Common.{◌≡◌, ℕ, suc, ◌+◌, ◌≤◌, Bool, true, false, cond, ltb, List, [], ◌∷◌, length, Some, None, refl, sym, ap, ◌∙◌, arith}
use Rattle.std.specs.Prelude.{nat_lt, position, unwrap_or}
use Rattle.std.specs.List.{position_or_len, insert}
use Rattle.std.proofs.lemmas.Bool.Decides.{nat_tests}
use Rattle.std.proofs.lemmas.List.Recursion.{is_position_or_len}
use Rattle.ice_xor.specs.declared.units.GoodUnits.{GoodUnits}
use Rattle.ice_xor.specs.FlatFile.{with_units}

abbrev comes_before : ℕ → GoodUnits → Bool
comes_before good other = nat_lt good other.good

-- how many units are of a good that is no greater, up to the first that is
abbrev place : ℕ → List GoodUnits → ℕ
place good [] = 0
place good (other ∷ later) = cond (comes_before good other) 0 (1 + place good later)

placed : (good : ℕ) (us : List GoodUnits) → position_or_len (comes_before good) us ≡ place good us
placed good us = sym (is_position_or_len (place good) (comes_before good) refl (λ other later. refl) us)

no_farther : (good : ℕ) (us : List GoodUnits) → place good us ≤ length us
no_farther good [] = omega arith
no_farther good (other ∷ later) = by (comes_before good other) (no_farther good later)
  where
    by : (b : Bool) → place good later ≤ length later → cond b 0 (1 + place good later) ≤ suc (length later)
    by true le = omega arith
    by false le = omega arith

found_or_end : (good : ℕ) (us : List GoodUnits) → unwrap_or (position (comes_before good) us) (length us) ≡ place good us
found_or_end good us = by (ltb (position_or_len (comes_before good) us) (length us)) refl
  where
    by : (b : Bool) → ltb (position_or_len (comes_before good) us) (length us) ≡ b → unwrap_or (cond b (Some (position_or_len (comes_before good) us)) None) (length us) ≡ place good us
    by true is = placed good us
    by false is =
        let here : position_or_len (comes_before good) us ≡ place good us = placed good us in
        let le : place good us ≤ length us = no_farther good us in
        grind (arith, nat_tests)

at_place : (u : GoodUnits) (us : List GoodUnits) → insert us (place u.good us) u ≡ with_units u us
at_place u [] = refl
at_place u (other ∷ later) = by (comes_before u.good other) (at_place u later)
  where
    by : (b : Bool) → insert later (place u.good later) u ≡ with_units u later → insert (other ∷ later) (cond b 0 (1 + place u.good later)) u ≡ cond b (u ∷ other ∷ later) (other ∷ with_units u later)
    by true later_is = refl
    by false later_is =
        let e : 1 + place u.good later ≡ suc (place u.good later) = omega arith in
        ap (λ i. insert (other ∷ later) i u) e ∙ ap (λ l. other ∷ l) later_is

pub inserted : (u : GoodUnits) (us : List GoodUnits) (n : ℕ) → n ≡ unwrap_or (position (comes_before u.good) us) (length us) → insert us n u ≡ with_units u us
inserted u us n is = ap (λ i. insert us i u) (is ∙ found_or_end u.good us) ∙ at_place u us
