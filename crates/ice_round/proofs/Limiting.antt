-- Limits of values and of Vickrey discounts, and the values of the bidders' own sets.
use Rattle.std.proofs.Common.{ℕ, suc, ◌+◌, ◌^◌, ◌≡◌, List, [], ◌∷◌, ◌++◌, map, All, ℤ, pos, neg_ℤ, ◌≤ℤ◌, add-one, arith, ap, sym, ◌∙◌}
use Rattle.std.proofs.lemmas.Int.{ints}
use Rattle.std.proofs.lemmas.List.{map_push}
use Rattle.std.proofs.lemmas.List.Elements.{All-nil, All-cons}
use Rattle.ice_defs.specs.Sum.{numbers_below}
use Rattle.ice_threshold.specs.Limits.{IsVickreyLimit, IsValueLimit}
use Rattle.ice_threshold.proofs.Levels.{size_between}
use Rattle.ice_vickrey.specs.Economy.{Economy}
use Rattle.ice_vickrey.specs.Marginals.{AreMarginalsFrom}
use Rattle.ice_vickrey.specs.declared.marginal.Marginal.{Marginal}

pub vickrey_limits : (e : Economy) (b : ℕ) (ms : List Marginal) → AreMarginalsFrom e b ms → All IsVickreyLimit (map (λ (m : Marginal). m.discount) ms)
vickrey_limits e b [] are = All-nil IsVickreyLimit
vickrey_limits e b (m ∷ ms) are =
    All-cons IsVickreyLimit m.discount (map (λ (x : Marginal). x.discount) ms) (record { low = are.0.low; high = omega (arith, ints, are.0.high) }) (vickrey_limits e (suc b) ms are.1)

pub value_limit : (z : ℤ) → neg_ℤ (pos 200000000000) ≤ℤ z → z ≤ℤ pos 200000000000 → IsValueLimit z
value_limit z low high = record { size = size_between z (10 ^ 15) (omega (arith, ints, high)) (omega (arith, ints, low)) }

-- a list with one more number of a function
pub more_of : (f : ℕ → ℤ) (vs : List ℤ) (b : ℕ) (v : ℤ) → vs ≡ map f (numbers_below b) → v ≡ f b → vs ++ v ∷ [] ≡ map f (numbers_below (b + 1))
more_of f vs b v e h =
    ap (λ xs. xs ++ v ∷ []) e ∙ ap (λ z. map f (numbers_below b) ++ z ∷ []) h ∙ sym (map_push f (numbers_below b) b) ∙ ap (λ n. map f (numbers_below n)) (sym (add-one b))
