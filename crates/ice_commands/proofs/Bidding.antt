-- The best sets of all bidders, from one bidder to all.
use Rattle.std.proofs.Common.{◌≡◌, ◌∙◌, sym, subst, ℕ, suc, ◌+◌, ◌<◌, List, [], ◌∷◌, ◌++◌, length, ℤ, append_assoc, arith}
use Rattle.std.specs.List.{flat_map}
use Rattle.ice_defs.specs.Tree.{Tree}
use Rattle.ice_defs.specs.Set.{NodeSet}
use Rattle.ice_defs.specs.Trade.{tree_of, weights_of}
use Rattle.ice_defs.specs.Bounds.{bounds_of}
use Rattle.ice_defs.specs.Prices.{Prices}
use Rattle.ice_defs.specs.Exchange.{Exchange, trees_of, opening_bounds}
use Rattle.ice_defs.specs.Lawful.{IsExchange}
use Rattle.ice_defs.specs.Weighing.{weighted_weights}
use Rattle.ice_tree.proofs.Filling.{weights_of-weighted, length-weighted_list}
use Rattle.ice_best_at_prices.specs.Net.{AreAtMostTrillion}
use Rattle.ice_best_at_prices.specs.Net as net
use Rattle.ice_best_at_prices.proofs.Modest.{weighted-modest}
use Rattle.ice_trade.proofs.Weighted.{bidder_bounds, length-bounds}
use Rattle.ice_commands.specs.declared.best_set.BestSet.{BestSet}
use Rattle.ice_commands.specs.Output.{best_end}
use Rattle.ice_commands.specs.BestServed.{IsBestNet, AreBestLines, ends, goes_on}
use Rattle.ice_commands.specs.Bests.{AreBestSets, lines_of, best_text}

-- ---- one bidder

-- the weighted values of a bidder: one for each node, and modest
pub record AreWeighted (ex : Exchange) (b : ℕ) (w : List ℤ) : Type 0 where
  pub count : length w ≡ length (tree_of (trees_of ex) b)
  pub modest : AreAtMostTrillion w

pub weighted_values : (ex : Exchange) (b : ℕ) → IsExchange ex → b < length ex.bidders → AreWeighted ex b (weights_of (weighted_weights ex.settings.weight (opening_bounds ex)) b)
weighted_values ex b is h =
    let bounds = bounds_of (opening_bounds ex) b in
    let are = bidder_bounds ex b is h in
    let l : b < length (opening_bounds ex) = omega (arith, length-bounds ex, h) in
    subst (AreWeighted ex b) (sym (weights_of-weighted ex.settings.weight (opening_bounds ex) b l)) (record {
      count = length-weighted_list ex.settings.weight bounds.lo bounds.hi (are.hi_count ∙ sym are.lo_count) ∙ are.lo_count;
      modest = weighted-modest ex.settings.weight (length (tree_of (trees_of ex) b)) bounds is.settings.weight are;
    })

pub best_net : (ex : Exchange) (p : Prices) (b : ℕ) (t : Tree) (w : List ℤ) (s : NodeSet) (x : ℤ) → t ≡ tree_of (trees_of ex) b → w ≡ weights_of (weighted_weights ex.settings.weight (opening_bounds ex)) b
    → net.IsBestAtPrices t w 100 p s x → IsBestNet ex p b s x
best_net ex p b t w s x tree weights is =
    let P : Tree → Type 0 = λ u. net.IsBestAtPrices u w 100 p s x in
    let Q : List ℤ → Type 0 = λ v. net.IsBestAtPrices (tree_of (trees_of ex) b) v 100 p s x in
    let best = subst Q weights (subst P tree is) in
    record { satisfied = best.satisfied; has = best.has; greatest = best.greatest }

-- ---- all bidders

pub AreBestSets-append : (ex : Exchange) (p : Prices) (b at : ℕ) (names : List (List ℕ)) (bests : List BestSet) (name : List ℕ) (best : BestSet) → AreBestSets ex p b names bests
    → at ≡ b + length names → best.name ≡ name → IsBestNet ex p at best.set best.net → AreBestSets ex p b (names ++ name ∷ []) (bests ++ best ∷ [])
AreBestSets-append ex p b at [] [] name best are here e is =
    let same : at ≡ b = omega (arith, here) in
    (e, subst (λ k. IsBestNet ex p k best.set best.net) same is, tt)
AreBestSets-append ex p b at [] (x ∷ bests) name best are here e is = absurd are
AreBestSets-append ex p b at (n ∷ names) [] name best are here e is = absurd are
AreBestSets-append ex p b at (n ∷ names) (x ∷ bests) name best are here e is =
    (are.0, are.1, AreBestSets-append ex p (suc b) at names bests name best are.2 (omega (arith, here)) e is)

pub best_lines : (ex : Exchange) (p : Prices) (b : ℕ) (names : List (List ℕ)) (bests : List BestSet) → AreBestSets ex p b names bests → AreBestLines ex p b names (best_text bests)
best_lines ex p b [] [] are = ends
best_lines ex p b [] (x ∷ bests) are = absurd are
best_lines ex p b (n ∷ names) [] are = absurd are
best_lines ex p b (n ∷ names) (x ∷ bests) are =
    let P : List ℕ → Type 0 = λ name. AreBestLines ex p b (name ∷ names) (lines_of x ++ best_text bests) in
    let lines : AreBestLines ex p b (n ∷ names) (lines_of x ++ best_text bests) = subst P are.0 (goes_on are.1 (best_lines ex p (suc b) names bests are.2)) in
    subst (AreBestLines ex p b (n ∷ names)) (sym (append_assoc (lines_of x) (flat_map lines_of bests) best_end)) lines
