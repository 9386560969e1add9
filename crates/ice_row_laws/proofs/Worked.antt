-- A market of a seller at -1150 and a buyer at 1100 that does not trade: the price 11
-- is balanced, since the buyer's row shows that no lower one is accurate.
use Rattle.std.proofs.Common.{ℕ, zero, suc, ◌<◌, ◌≡◌, Bool, true, false, List, [], ◌∷◌, length, pos, negsuc, ◌≤ℤ◌, refl, arith}
use Rattle.std.specs.Prelude.{IsTrue}
use Rattle.std.proofs.lemmas.Int.{ints}
use Rattle.ice_defs.specs.declared.NodeKind.TheVariants.{Buy, Sell}
use Rattle.ice_defs.specs.Tree.{Tree, kind_of}
use Rattle.ice_defs.specs.Set.{NodeSet, has, IsWithin, children_inside, IsSatisfied, Weights}
use Rattle.ice_defs.specs.Trade.{Assignment, tree_of, set_of}
use Rattle.ice_defs.specs.Prices.{Prices, price_of, ArePrices}
use Rattle.ice_defs.specs.Pricing.{excess_net, IsViolation, IsBalanced}
use Rattle.ice_defs.specs.Rows.{Certificate, PassesAccuracy, PassesBalance}
use Rattle.ice_defs.proofs.Below.{below_one}
use Rattle.ice_row_laws.specs.Laws.{AreSatisfied}
use Rattle.ice_row_laws.proofs.Balanced.{tests_give_balanced}

abbrev seller : Tree
seller = record { kind = Sell 0 1; parent = 0 } ∷ []

abbrev buyer : Tree
buyer = record { kind = Buy 0 1; parent = 0 } ∷ []

abbrev market : List Tree
market = seller ∷ buyer ∷ []

abbrev weighted : List Weights
weighted = (negsuc 1149 ∷ []) ∷ (pos 1100 ∷ []) ∷ []

abbrev none : Assignment
none = (false ∷ []) ∷ (false ∷ []) ∷ []

abbrev eleven : Prices
eleven = record { den = 1; nums = pos 11 ∷ [] }

abbrev no_rows : Certificate
no_rows = record { den = 1; rows = [] }

abbrev buyer_row : Certificate
buyer_row = record { den = 1; rows = record { bidder = 1; weight = 1; set = true ∷ [] } ∷ [] }

at_each : (P : ℕ → Type 0) → P 0 → P 1 → (n : ℕ) → n < 2 → P n
at_each P p q zero h = p
at_each P p q (suc zero) h = q
at_each P p q (suc (suc n)) h = absurd (omega (arith, h))

-- a set of one leaf is satisfied
sells : (x : Bool) → IsSatisfied seller (x ∷ [])
sells x = record {
  same_length = refl;
  parent_inside = λ c p h i. absurd (omega (arith, p, h));
  count_inside = λ n h. below_one (λ k. IsTrue (has (x ∷ []) k) → IsWithin (kind_of seller k) (children_inside seller (x ∷ []) k)) (λ i. tt) n h;
}

buys : (x : Bool) → IsSatisfied buyer (x ∷ [])
buys x = record {
  same_length = refl;
  parent_inside = λ c p h i. absurd (omega (arith, p, h));
  count_inside = λ n h. below_one (λ k. IsTrue (has (x ∷ []) k) → IsWithin (kind_of buyer k) (children_inside buyer (x ∷ []) k)) (λ i. tt) n h;
}

-- at 11 the seller would lose 50, and the buyer would gain nothing
seller_most : (s : NodeSet) → length s ≡ 1 → excess_net market weighted none eleven (0, s) ≤ℤ pos 0
seller_most [] e = absurd (omega (arith, e))
seller_most (true ∷ []) e = omega (arith, ints)
seller_most (false ∷ []) e = omega (arith, ints)
seller_most (x ∷ y ∷ s) e = absurd (omega (arith, e))

buyer_most : (s : NodeSet) → length s ≡ 1 → excess_net market weighted none eleven (1, s) ≤ℤ pos 0
buyer_most [] e = absurd (omega (arith, e))
buyer_most (true ∷ []) e = omega (arith, ints)
buyer_most (false ∷ []) e = omega (arith, ints)
buyer_most (x ∷ y ∷ s) e = absurd (omega (arith, e))

most : (b : ℕ) → b < 2 → (s : NodeSet) → IsSatisfied (tree_of market b) s → excess_net market weighted none eleven (b, s) ≤ℤ pos 0
most = at_each (λ b. (s : NodeSet) → IsSatisfied (tree_of market b) s → excess_net market weighted none eleven (b, s) ≤ℤ pos 0)
    (λ s is. seller_most s is.same_length) (λ s is. buyer_most s is.same_length)

satisfied : AreSatisfied market none
satisfied = at_each (λ b. IsSatisfied (tree_of market b) (set_of none b)) (sells false) (buys false)

within : ArePrices 1 (pos 100) eleven
within = record {
  positive = omega arith;
  same_length = refl;
  low = below_one (λ g. pos 0 ≤ℤ price_of eleven g) (omega (arith, ints));
  high = below_one (λ g. price_of eleven g ≤ℤ pos 100) (omega (arith, ints));
}

violation : IsViolation market weighted none eleven (pos 0)
violation = record {
  attained = ((0, false ∷ []), (omega arith, sells false), refl);
  bound = λ c is. most c.0 is.0 c.1 is.1;
}

accuracy : PassesAccuracy market weighted none 1 (pos 100) eleven (pos 0) no_rows
accuracy = record { proper = omega arith; rows = tt; weights = omega arith; equal = refl }

balance : PassesBalance market weighted none 1 eleven (pos 0) buyer_row
balance = record { proper = omega arith; rows = ((omega arith, omega arith, buys true), tt); weights = omega (arith, ints); equal = refl }

worked : IsBalanced market weighted none 1 (pos 100) eleven
worked = tests_give_balanced market weighted none 1 (pos 100) eleven (pos 0) no_rows buyer_row satisfied within violation accuracy balance
