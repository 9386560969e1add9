-- The programs of a pricing run are never infeasible.
use Rattle.std.proofs.Common.{ℕ, List, map, replicate, fold, ℤ, pos, ◌≤ℤ◌, refl, arith, subst}
use Rattle.std.specs.Int.{int_max}
use Rattle.std.specs.List.{AllByRecursion}
use Rattle.std.proofs.lemmas.Int.{ints, fold-int_max_bounds}
use Rattle.std.proofs.lemmas.List.{get_or-map, get_or-replicate, length-map, length-replicate}
use Rattle.std.proofs.lemmas.List.Elements.{All-get_or}
use Rattle.ice_defs.specs.Prices.{Prices, ArePrices}
use Rattle.ice_defs.specs.Pricing.{top_of}
use Rattle.ice_defs.specs.Fraction.{AtMost}
use Rattle.ice_defs.specs.PricingRun.{Member}
use Rattle.ice_defs.proofs.Lists.{all-from}
use Rattle.ice_pricing_laws.specs.Feasible.{AccuracyIsFeasible, BalanceIsFeasible, AccuracyIsWithin, BalanceIsWithin}
use Rattle.ice_pricing_laws.specs.Pools.{no_member}
use Rattle.ice_pricing_laws.proofs.Excess.{excess}
use Rattle.ice_pricing_laws.proofs.Solved.{point_with}
use Rattle.ice_pricing_laws.proofs.Accuracy.{bound_is_point, prices-within}
use Rattle.ice_pricing_laws.proofs.Balanced.{violation-balance_point, balance-within}

-- prices of 0
unfoldable pub free : ℕ → Prices
free goods = record { den = 1; nums = replicate goods (pos 0) }

pub free-within : (goods : ℕ) (cap : ℤ) → pos 0 ≤ℤ cap → ArePrices goods cap (free goods)
unfolding free
free-within goods cap some = record {
  positive = omega arith;
  same_length = length-replicate goods (pos 0);
  low = λ g h. let e = get_or-replicate goods g (pos 0) (pos 0) h in omega (arith, ints, e);
  high = λ g h. let e = get_or-replicate goods g (pos 0) (pos 0) h in omega (arith, ints, e, some);
}

-- the greatest of 0 and of a number of each
unfoldable pub greatest : {X : Type 0} → (X → ℤ) → List X → ℤ
greatest f xs = fold int_max (pos 0) (map f xs)

pub greatest-low : {X : Type 0} (f : X → ℤ) (xs : List X) → pos 0 ≤ℤ greatest f xs
unfolding greatest
greatest-low f xs = (fold-int_max_bounds (pos 0) (map f xs) (greatest f xs) refl).0

pub greatest-high : {X : Type 0} (f : X → ℤ) (xs : List X) (d : X) → AllByRecursion (λ x. f x ≤ℤ greatest f xs) xs
unfolding greatest
greatest-high f xs d =
    all-from (λ x. f x ≤ℤ greatest f xs) xs d
    (λ i h. subst (λ z. z ≤ℤ greatest f xs) (get_or-map f xs i d (pos 0) h)
    (All-get_or (λ z. z ≤ℤ greatest f xs) (map f xs) i (pos 0) (omega (arith, length-map xs f, h)) (fold-int_max_bounds (pos 0) (map f xs) (greatest f xs) refl).1))

pub accuracy_is_feasible : AccuracyIsFeasible
accuracy_is_feasible ts ws sets goods cap pool some infeasible =
    let e : Member → ℤ = excess ts ws sets goods cap (free goods) in
    infeasible (point_with (free goods) (greatest e pool))
    (bound_is_point ts ws sets goods cap pool (free goods) (greatest e pool) (free-within goods cap some) (greatest-low e pool) (greatest-high e pool no_member))

same-most : (delta : ℤ) (den : ℕ) → AtMost (record { num = delta; den = den }) (record { num = delta; den = den })
same-most delta den = omega (arith, ints)

pub balance_is_feasible : BalanceIsFeasible
balance_is_feasible ts ws sets goods cap pool p delta members within is infeasible =
    infeasible (point_with p (top_of p)) (violation-balance_point ts ws sets goods cap delta p.den pool p delta members within is (same-most delta p.den))

pub accuracy_is_within : AccuracyIsWithin
accuracy_is_within = prices-within

pub balance_is_within : BalanceIsWithin
balance_is_within ts ws sets goods cap pool p delta x members within is least =
    balance-within ts ws sets goods cap delta p.den pool x p least within (violation-balance_point ts ws sets goods cap delta p.den pool p delta members within is (same-most delta p.den))
