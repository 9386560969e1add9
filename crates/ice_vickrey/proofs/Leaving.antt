-- From the search without a bidder to what the market is worth without it, and to its Vickrey
-- discount.
use Rattle.std.proofs.Common.{ℕ, zero, suc, ◌<◌, Bool, List, [], ◌∷◌, length, map, ℤ, pos, ◌≤ℤ◌, subst, arith}
use Rattle.std.specs.List.{AllByRecursion}
use Rattle.ice_defs.specs.Tree.{Tree, IsTree}
use Rattle.ice_defs.specs.Set.{Weights}
use Rattle.ice_defs.specs.Trade.{Assignment, tree_of, set_of, IsFeasible, MeetsAll, IsBest, IsBestOfAll}
use Rattle.ice_defs.specs.Vickrey.{IsEmpty, IsBestWithout}
use Rattle.ice_defs.specs.declared.Group.TheVariants.{Without}
use Rattle.ice_defs.specs.Group.{start_of, empty_sets}
use Rattle.ice_defs.specs.Exchange.{Bidder, Exchange, trees_of}
use Rattle.ice_defs.specs.Lawful.{IsBidder, IsExchange}
use Rattle.ice_defs.proofs.EmptySets.{empty_feasible, empty_sets-are, total_value-empty}
use Rattle.ice_defs.proofs.Starts.{meets_without, left_out}

bidder_tree : (goods : ℕ) (bidders : List Bidder) (b : ℕ) → AllByRecursion (IsBidder goods) bidders → b < length (map (λ (x : Bidder). x.tree) bidders) → IsTree (tree_of (map (λ (x : Bidder). x.tree) bidders) b)
bidder_tree goods [] b all h = absurd (omega (arith, h))
bidder_tree goods (x ∷ bidders) zero all h = all.0.tree.tree
bidder_tree goods (x ∷ bidders) (suc b) all h = bidder_tree goods bidders b all.1 (omega (arith, h))

-- the trees of a lawful exchange are trees
pub exchange_tree : (ex : Exchange) (b : ℕ) → IsExchange ex → b < length (trees_of ex) → IsTree (tree_of (trees_of ex) b)
exchange_tree ex b is h = bidder_tree (length ex.goods) ex.bidders b is.bidders h

-- the empty sets meet the start without a bidder
pub empty_meets : (ts : List Tree) (b : ℕ) → b < length ts → MeetsAll (empty_sets ts) (start_of ts (Without b))
empty_meets ts b there = meets_without ts b (empty_sets ts) there (empty_sets-are ts b there)

-- no best value is below that of the empty sets
pub best_low : (ts : List Tree) (exact : List Bool) (ws : List Weights) (total : ℤ) → IsBestOfAll ts exact ws total → pos 0 ≤ℤ total
best_low ts exact ws total all = subst (λ z. z ≤ℤ total) (total_value-empty ts ws) (all.bound (empty_sets ts) (empty_feasible ts exact))

module _ (ts : List Tree) (exact : List Bool) (ws : List Weights) (b : ℕ) (there : b < length ts) where
  -- a feasible assignment that meets the start without a bidder leaves it out
  pub leaves_out : (a : Assignment) → IsTree (tree_of ts b) → IsFeasible ts exact a → MeetsAll a (start_of ts (Without b)) → IsEmpty (set_of a b)
  leaves_out a tree is meets = left_out ts b a there (omega (arith, there, is.same_length)) tree (is.satisfied b there) meets

  -- the best that meets that start is the best without the bidder
  pub best_without : (v : ℤ) → IsTree (tree_of ts b) → IsBest ts exact ws (start_of ts (Without b)) v → IsBestWithout ts exact ws b v
  best_without v tree best =
      let (a, h, same) = best.attained in
      record {
        attained = (a, (h.0, leaves_out a tree h.0 h.1), same);
        bound = λ other is. best.bound other (is.0, meets_without ts b other there is.1);
      }

  -- it is no less than the empty sets, and no more than the best of all
  pub without_low : (v : ℤ) → IsBest ts exact ws (start_of ts (Without b)) v → pos 0 ≤ℤ v
  without_low v best = subst (λ z. z ≤ℤ v) (total_value-empty ts ws) (best.bound (empty_sets ts) (empty_feasible ts exact, empty_meets ts b there))

  pub without_high : (v total : ℤ) → IsBest ts exact ws (start_of ts (Without b)) v → IsBestOfAll ts exact ws total → v ≤ℤ total
  without_high v total best all =
      let (a, h, same) = best.attained in
      subst (λ z. z ≤ℤ total) same (all.bound a h.0)
