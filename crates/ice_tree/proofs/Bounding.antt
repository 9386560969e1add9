-- Bounds that pass the tests.
use Rattle.std.proofs.Common.{ℕ, zero, suc, ◌<◌, ◌≡◌, Bool, true, false, ◌||◌, List, [], ◌∷◌, length, ℤ, pos, neg_ℤ, ◌≤ℤ◌, refl, arith, ap, ◌∙◌}
use Rattle.std.specs.Prelude.{int_le, int_lt}
use Rattle.std.specs.List.{list_all}
use Rattle.std.proofs.lemmas.Bool.{and_parts}
use Rattle.std.proofs.lemmas.Int.{ints}
use Rattle.ice_defs.specs.Set.{weight_of}
use Rattle.ice_defs.specs.Lawful.{AreBounds}
use Rattle.ice_defs.specs.Making.{is_value}
use Rattle.ice_tree.specs.Bounds.{are_crossed}

at_value : (z : ℤ) → is_value z ≡ true → (neg_ℤ (pos 1000000000) ≤ℤ z) × (z ≤ℤ pos 1000000000)
at_value z e =
    let parts = and_parts (int_le (neg_ℤ (pos 1000000000)) z) (int_le z (pos 1000000000)) e in
    let low : int_le (neg_ℤ (pos 1000000000)) z ≡ true = parts.0 in
    let high : int_le z (pos 1000000000) ≡ true = parts.1 in
    (grind (arith, ints), grind (arith, ints))

each_value : (zs : List ℤ) → list_all is_value zs ≡ true → (n : ℕ) → n < length zs → (neg_ℤ (pos 1000000000) ≤ℤ weight_of zs n) × (weight_of zs n ≤ℤ pos 1000000000)
each_value [] e n h = absurd (omega arith)
each_value (z ∷ zs) e zero h = at_value z (and_parts (is_value z) (list_all is_value zs) e).0
each_value (z ∷ zs) e (suc n) h = each_value zs (and_parts (is_value z) (list_all is_value zs) e).1 n (omega arith)

or_parts : (a b : Bool) → (a || b) ≡ false → (a ≡ false) × (b ≡ false)
or_parts true b e = absurd (cc)
or_parts false b e = (refl, e)

uncrossed : (lo hi : ℤ) → int_lt hi lo ≡ false → lo ≤ℤ hi
uncrossed lo hi e = grind (arith, ints)

each_ordered : (los his : List ℤ) → length his ≡ length los → are_crossed los his ≡ false → (n : ℕ) → n < length los → weight_of los n ≤ℤ weight_of his n
each_ordered [] his same e n h = absurd (omega arith)
each_ordered (lo ∷ los) [] same e n h = absurd (omega arith)
each_ordered (lo ∷ los) (hi ∷ his) same e zero h = uncrossed lo hi (or_parts (int_lt hi lo) (are_crossed los his) e).0
each_ordered (lo ∷ los) (hi ∷ his) same e (suc n) h = each_ordered los his (omega arith) (or_parts (int_lt hi lo) (are_crossed los his) e).1 n (omega arith)

-- values don't cross themselves
pub are_crossed-same : (zs : List ℤ) → are_crossed zs zs ≡ false
are_crossed-same [] = refl
are_crossed-same (z ∷ zs) =
    let here : int_lt z z ≡ false = grind (arith, ints) in
    ap (λ b. b || are_crossed zs zs) here ∙ are_crossed-same zs

pub AreBounds-from_tests : (los his : List ℤ) → length his ≡ length los → list_all is_value los ≡ true → list_all is_value his ≡ true → are_crossed los his ≡ false
    → AreBounds (length los) record { lo = los; hi = his }
AreBounds-from_tests los his same low high ordered = record {
  lo_count = refl;
  hi_count = same;
  low = λ n h. (each_value los low n h).0;
  ordered = each_ordered los his same ordered;
  high = λ n h. (each_value his high n (omega (arith, same))).1;
}
