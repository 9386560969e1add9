-- The columns of both programs under numbers of the rows, as inequalities of integers.
use Rattle.std.proofs.Common.{ℕ, zero, suc, ◌+◌, ◌<◌, ◌≡◌, List, [], ◌++◌, length, map, slice_index_or, ℤ, pos, ◌+ℤ◌, ◌*ℤ◌, arith, ap, subst, ◌∙◌}
use Rattle.std.proofs.lemmas.Int.{ints}
use Rattle.std.proofs.lemmas.List.{get_or-map, get_or_append_left, get_or-append-add, length-map, length-append}
use Rattle.ice_defs.specs.Sum.{sum_below, numbers_below}
use Rattle.ice_defs.specs.Program.{Constraint}
use Rattle.ice_defs.specs.PricingRun.{Member}
use Rattle.ice_defs.proofs.Sums.{sum_below-same}
use Rattle.ice_pricing_laws.specs.Pools.{no_member, member_at}
use Rattle.ice_pricing_laws.proofs.Lists.{length-map_below, get_or-map_below}
use Rattle.ice_pricing_laws.proofs.Dots.{coefficient, dot_num}

pub sum_below-split : (f : ℕ → ℤ) (m n : ℕ) → sum_below f (m + n) ≡ sum_below f m +ℤ sum_below (λ i. f (m + i)) n
sum_below-split f m zero = let e : m + 0 ≡ m = omega arith in let same = ap (sum_below f) e in omega (arith, ints, same)
sum_below-split f m (suc n) =
    let e : m + suc n ≡ suc (m + n) = omega arith in
    let same = ap (sum_below f) e in
    omega (arith, ints, same, sum_below-split f m n)

no_row : Constraint
no_row = record { coeffs = []; least = pos 0 }

-- the sum over the members of a pool
abbrev pub pool_sum : List Member → (Member → ℤ) → (ℕ → ℤ) → ℤ
pool_sum pool f a = sum_below (λ i. f (member_at pool i) *ℤ a i) (length pool)

-- a number of each row: of the first ones, and of the pool's
pub dot-rows : (g : Constraint → ℤ) (goods : ℕ) (first : ℕ → Constraint) (later : Member → Constraint) (pool : List Member) (a : ℕ → ℤ)
    → dot_num (map g (map first (numbers_below goods) ++ map later pool)) a (goods + length pool)
    ≡ sum_below (λ i. g (first i) *ℤ a i) goods +ℤ pool_sum pool (λ m. g (later m)) (λ i. a (goods + i))
dot-rows g goods first later pool a =
    let rows : List Constraint = map first (numbers_below goods) ++ map later pool in
    let front : List Constraint = map first (numbers_below goods) in
    let size : length rows ≡ goods + length pool = omega (arith, length-append front (map later pool), length-map_below first goods, length-map pool later) in
    let one : (i : ℕ) → i < goods → coefficient (map g rows) i *ℤ a i ≡ g (first i) *ℤ a i =
    λ i h. ap (λ c. c *ℤ a i)
    (get_or-map g rows i no_row (pos 0) (omega (arith, size, h))
    ∙ ap g (get_or_append_left front (map later pool) no_row i (omega (arith, length-map_below first goods, h)) ∙ get_or-map_below first goods i no_row h)) in
    let other : (i : ℕ) → i < length pool → coefficient (map g rows) (goods + i) *ℤ a (goods + i) ≡ g (later (member_at pool i)) *ℤ a (goods + i) =
    λ i h. ap (λ c. c *ℤ a (goods + i))
    (get_or-map g rows (goods + i) no_row (pos 0) (omega (arith, size, h))
    ∙ ap g (subst (λ k. slice_index_or rows (k + i) no_row ≡ slice_index_or (map later pool) i no_row) (length-map_below first goods) (get_or-append-add front (map later pool) i no_row)
    ∙ get_or-map later pool i no_member no_row h)) in
    let split = sum_below-split (λ j. coefficient (map g rows) j *ℤ a j) goods (length pool) in
    let left = sum_below-same (λ i. coefficient (map g rows) i *ℤ a i) (λ i. g (first i) *ℤ a i) goods one in
    let right = sum_below-same (λ i. coefficient (map g rows) (goods + i) *ℤ a (goods + i)) (λ i. g (later (member_at pool i)) *ℤ a (goods + i)) (length pool) other in
    omega (arith, ints, split, left, right)
