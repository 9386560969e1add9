-- What feasible sets of an exchange are worth.
use Rattle.std.proofs.Common.{◌≡◌, ◌≤◌, ◌<◌, ℕ, List, [], ◌∷◌, length, map, ℤ, pos, neg_ℤ, refl, subst, arith}
use Rattle.std.specs.Prelude.{sum_by}
use Rattle.std.proofs.lemmas.Int.{ints}
use Rattle.std.proofs.lemmas.List.Sums.{sum_by-append}
use Rattle.ice_defs.specs.Tree.{Tree}
use Rattle.ice_defs.specs.Set.{Weights}
use Rattle.ice_defs.specs.Trade.{Assignment, tree_of, set_of, IsFeasible, total_value}
use Rattle.ice_defs.specs.Exchange.{Bidder, Exchange, trees_of, exact_of, IsBetween}
use Rattle.ice_defs.specs.Lawful.{IsExchange}
use Rattle.ice_defs.specs.Conditions.{AreWeightsOf}
use Rattle.ice_search.proofs.Ranges.{total_low, total_high}
use Rattle.ice_journal.specs.Ranges.{IsTotal}

node_sum : (bidders : List Bidder) → sum_by (λ (t : Tree). length t) (map (λ (b : Bidder). b.tree) bidders) ≡ sum_by (λ (b : Bidder). length b.tree) bidders
node_sum [] = refl
node_sum (b ∷ bidders) =
    omega (arith, sum_by-append (λ (t : Tree). length t) (b.tree ∷ []) (map (λ (x : Bidder). x.tree) bidders), sum_by-append (λ (x : Bidder). length x.tree) (b ∷ []) bidders, node_sum bidders)

abbrev pub IsWorth : ℤ → Type 0
IsWorth = IsBetween (neg_ℤ (pos 200000000000000)) (pos 200000000000000)

pub worth_is : (ex : Exchange) (ws : List Weights) (a : Assignment) (v : ℤ) → IsExchange ex → AreWeightsOf (trees_of ex) ws → IsFeasible (trees_of ex) (exact_of ex) a → total_value a ws ≡ v → IsWorth v
worth_is ex ws a v lawful weights feasible is =
    let few : sum_by length (trees_of ex) ≤ 2000 = omega (arith, node_sum ex.bidders, lawful.nodes) in
    let sizes : (b : ℕ) → b < length (trees_of ex) → length (set_of a b) ≡ length (tree_of (trees_of ex) b) = λ b l. (feasible.satisfied b l).same_length in
    subst IsWorth is (total_low (trees_of ex) ws a weights feasible.same_length sizes few, total_high (trees_of ex) ws a weights feasible.same_length sizes few)

pub worth_is_total : (v : ℤ) → IsWorth v → IsTotal v
worth_is_total v is = (omega (arith, ints, is.0), omega (arith, ints, is.1))
