-- Values that are in range and not crossed are bounds.
use Rattle.std.proofs.Common.{ℕ, suc, ◌<◌, ◌≡◌, true, false, List, [], ◌∷◌, length, ℤ, ◌≤ℤ◌, ◌<ℤ◌, IsTrue, refl, arith}
use Rattle.std.specs.Prelude.{int_lt, ◌==◌, None}
use Rattle.std.specs.List.{list_all}
use Rattle.std.proofs.lemmas.Bool.{eq-eqb}
use Rattle.std.proofs.lemmas.Int.{ints, by_lt_z}
use Rattle.ice_defs.specs.Set.{weight_of}
use Rattle.ice_defs.specs.Making.{is_value}
use Rattle.ice_defs.specs.Judging.{IsCrossedAt}
use Rattle.ice_tree.specs.Bounds.{are_crossed, bounds_refusal}

in_order : (lo hi : ℤ) → lo ≤ℤ hi → int_lt hi lo ≡ false
in_order lo hi le = grind (arith, ints)

none_crossed : (los his : List ℤ) → length his ≡ length los → ((n : ℕ) → n < length los → weight_of his n <ℤ weight_of los n → ⊥) → are_crossed los his ≡ false
none_crossed [] his same none = refl
none_crossed (lo ∷ los) [] same none = absurd (omega arith)
none_crossed (lo ∷ los) (hi ∷ his) same none =
    let le : lo ≤ℤ hi = by_lt_z hi lo (λ less. absurd (none 0 (omega arith) less)) (λ le. le) in
    let first : int_lt hi lo ≡ false = in_order lo hi le in
    rw first (none_crossed los his (omega arith) (λ n h less. none (suc n) (omega arith) less))

pub unrefused : (nodes : ℕ) (los his : List ℤ) → length los ≡ nodes → length his ≡ nodes → IsTrue (list_all is_value los) → IsTrue (list_all is_value his)
    → ((n : ℕ) → ¬ IsCrossedAt record { lo = los; hi = his } n) → bounds_refusal nodes los his ≡ None
unrefused nodes los his lo_count hi_count lo_values hi_values none =
    let a : (length los == nodes) ≡ true = eq-eqb (length los) nodes lo_count in
    let b : (length his == nodes) ≡ true = eq-eqb (length his) nodes hi_count in
    let c : list_all is_value los ≡ true = lo_values in
    let d : list_all is_value his ≡ true = hi_values in
    let e : are_crossed los his ≡ false = none_crossed los his (omega arith) (λ n h less. none n (h, less)) in
    rw (a, b, c, d, e) refl
