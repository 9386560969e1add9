-- Prices of 0.
use Rattle.std.proofs.Common.{ℕ, zero, suc, ◌+◌, ◌≤◌, ◌≡◌, true, [], ◌∷◌, ◌++◌, replicate, pos, refl, ap, sym, ◌∙◌, add-one, arith}
use Rattle.std.specs.List.{list_all}
use Rattle.std.proofs.lemmas.List.{length-replicate}
use Rattle.ice_terms.specs.Terms.{ArePriceTerms, is_numerator}

pushed : {X : Type 0} (n : ℕ) (x : X) → replicate n x ++ x ∷ [] ≡ replicate (suc n) x
pushed zero x = refl
pushed (suc n) x = ap (λ rest. x ∷ rest) (pushed n x)

pub replicate_push : {X : Type 0} (n : ℕ) (x : X) → replicate n x ++ x ∷ [] ≡ replicate (n + 1) x
replicate_push n x = pushed n x ∙ ap (λ k. replicate k x) (sym (add-one n))

zeros_are_numerators : (n : ℕ) → list_all is_numerator (replicate n (pos 0)) ≡ true
zeros_are_numerators zero = refl
zeros_are_numerators (suc n) = zeros_are_numerators n

pub zero_terms : (n : ℕ) → 1 ≤ n → n ≤ 32 → ArePriceTerms record { den = 1; nums = replicate n (pos 0) }
zero_terms n some few = record {
  den = (omega arith, omega arith);
  count = (omega (arith, length-replicate n (pos 0)), omega (arith, length-replicate n (pos 0)));
  each = zeros_are_numerators n;
}
