-- Lists of values, one for each node of a tree.
use Rattle.std.proofs.Common.{ℕ, zero, suc, ◌+◌, ◌<◌, ◌≡◌, true, List, [], ◌∷◌, ◌++◌, length, take, ℤ, pos, neg_ℤ, ◌≤ℤ◌, refl, arith, ap, sym, ◌∙◌}
use Rattle.std.specs.List.{list_all}
use Rattle.std.proofs.lemmas.Int.{ints}
use Rattle.std.proofs.lemmas.Bool.{and_from}
use Rattle.std.proofs.lemmas.List.{take_more}
use Rattle.ice_defs.specs.Set.{weight_of}
use Rattle.ice_defs.specs.Making.{is_value}

pub value_is : (z : ℤ) → neg_ℤ (pos 1000000000) ≤ℤ z → z ≤ℤ pos 1000000000 → is_value z ≡ true
value_is z low high = grind (arith, ints)

pub all_values : (zs : List ℤ) → ((n : ℕ) → n < length zs → neg_ℤ (pos 1000000000) ≤ℤ weight_of zs n) → ((n : ℕ) → n < length zs → weight_of zs n ≤ℤ pos 1000000000) → list_all is_value zs ≡ true
all_values [] low high = refl
all_values (z ∷ zs) low high =
    and_from (is_value z) (list_all is_value zs) (value_is z (low zero (omega arith)) (high zero (omega arith)))
    (all_values zs (λ n h. low (suc n) (omega (arith, h))) (λ n h. high (suc n) (omega (arith, h))))

-- a list that is made value by value
pub one_value_more : (xs done : List ℤ) (n : ℕ) (x : ℤ) → n < length xs → done ≡ take n xs → x ≡ weight_of xs n → done ++ x ∷ [] ≡ take (n + 1) xs
one_value_more xs done n x there so_far is =
    ap (λ (ds : List ℤ). ds ++ x ∷ []) so_far ∙ ap (λ (z : ℤ). take n xs ++ z ∷ []) is ∙ sym (take_more xs n (pos 0) there)
