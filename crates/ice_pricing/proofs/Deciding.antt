-- Whether prices are lawful is decided, and where they are not, what is at fault is there.
use Rattle.std.proofs.Common.{ℕ, zero, suc, ◌≡◌, ◌<◌, ◌⊎◌, inl, inr, ◌++◌, [], ◌∷◌, List, length, slice_index_or, ℤ, pos, ◌*ℤ◌, ◌≤ℤ◌, ◌<ℤ◌, refl, sym, subst, append_assoc, arith}
use Rattle.std.proofs.lemmas.Bool.{cases_eq}
use Rattle.std.proofs.lemmas.Int.{by_lt_z}
use Rattle.std.proofs.lemmas.List.{append-nil}
use Rattle.ice_defs.specs.Prices.{Prices, ArePrices}
use Rattle.ice_defs.specs.Rows.{HasCommonDivisor}
use Rattle.ice_defs.specs.Frac.{gcd}
use Rattle.std.specs.Prelude.{unsigned_abs}
use Rattle.ice_pricing.proofs.Divisors.{IsShared, shared-none, shared-more, one-shares}
use Rattle.ice_pricing.proofs.Numerators.{numerators-low}
use Rattle.ice_terms.specs.Terms.{ArePriceTerms}
use Rattle.ice_pricing.specs.Lawful.{AreUnlawful}

-- ---- the cap

abbrev HasAbove : ℤ → List ℤ → Type 0
HasAbove most nums = (g : ℕ) × (g < length nums) × (most <ℤ slice_index_or nums g (pos 0))

abbrev AreBelow : ℤ → List ℤ → Type 0
AreBelow most nums = (g : ℕ) → g < length nums → slice_index_or nums g (pos 0) ≤ℤ most

above_or_below : (most : ℤ) (nums : List ℤ) → HasAbove most nums ⊎ AreBelow most nums
above_or_below most [] = inr (λ g h. absurd (omega (arith, h)))
above_or_below most (num ∷ nums) =
    by_lt_z most num (λ above. inl (0, omega arith, above)) (λ first. by first (above_or_below most nums))
  where
    both : num ≤ℤ most → AreBelow most nums → AreBelow most (num ∷ nums)
    both first rest zero h = first
    both first rest (suc g) h = rest g (omega (arith, h))

    by : num ≤ℤ most → HasAbove most nums ⊎ AreBelow most nums → HasAbove most (num ∷ nums) ⊎ AreBelow most (num ∷ nums)
    by first (inl (g, there, above)) = inl (suc g, omega (arith, there), above)
    by first (inr rest) = inr (both first rest)

-- ---- the common divisor

shared_from : (den : ℕ) (front rest : List ℤ) (shared : ℕ) → IsShared den front shared → (s : ℕ) × IsShared den (front ++ rest) s
shared_from den front [] shared is = (shared, subst (λ nums. IsShared den nums shared) (sym (append-nil front)) is)
shared_from den front (num ∷ rest) shared is =
    let (s, more) = shared_from den (front ++ num ∷ []) rest (gcd (unsigned_abs num) shared) (shared-more den front shared num is) in
    (s, subst (λ nums. IsShared den nums s) (append_assoc front (num ∷ []) rest) more)

divisor_or_none : (p : Prices) → 0 < p.den → ¬ ¬ HasCommonDivisor p → HasCommonDivisor p
divisor_or_none p positive not_none =
    let (s, is) = shared_from p.den [] p.nums p.den (shared-none p.den positive) in
    by s is (cases_eq s 1)
  where
    by : (s : ℕ) → IsShared p.den p.nums s → (s ≡ 1) ⊎ (¬ (s ≡ 1)) → HasCommonDivisor p
    by s is (inl one) = absurd (not_none (one-shares p s is one))
    by s is (inr other) = let big : 0 < s = is.positive in (s, omega (arith, other, big), is.of_den, is.of_nums)

-- ---- both

pub unlawful_by_divisor : (cap : ℤ) (p : Prices) → ArePriceTerms p → ¬ ¬ HasCommonDivisor p → AreUnlawful cap p
unlawful_by_divisor cap p terms not_none = inr (divisor_or_none p (omega (arith, terms.den.0)) not_none)

pub unlawful_by_cap : (cap : ℤ) (p : Prices) → ArePriceTerms p → ¬ ArePrices (length p.nums) cap p → AreUnlawful cap p
unlawful_by_cap cap p terms other = by (above_or_below (cap *ℤ pos p.den) p.nums)
  where
    by : HasAbove (cap *ℤ pos p.den) p.nums ⊎ AreBelow (cap *ℤ pos p.den) p.nums → AreUnlawful cap p
    by (inl above) = inl above
    by (inr below) = absurd (other record {
      positive = omega (arith, terms.den.0);
      same_length = refl;
      low = numerators-low p.nums terms.each;
      high = below;
    })
