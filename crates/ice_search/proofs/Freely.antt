-- A search that begins with all nodes free, from the empty sets.
use Rattle.std.proofs.Common.{◌≡◌, ◌∙◌, ap}
use Rattle.std.specs.Prelude.{List, ℤ}
use Rattle.ice_defs.specs.Tree.{Tree}
use Rattle.ice_defs.specs.Set.{Weights}
use Rattle.ice_defs.specs.Steps.{Side}
use Rattle.ice_defs.specs.Trade.{Assignment, IsBest, IsBestOfAll}
use Rattle.ice_defs.specs.Group.{free_side, empty_sets}
use Rattle.ice_defs.specs.Exchange.{Exchange, trees_of, exact_of}
use Rattle.ice_defs.proofs.Starts.{meets_free_side}
use Rattle.ice_search.specs.Instance.{Instance, instance_of, empty_search}

-- the marks and the sets that are made of the exchange's trees
pub asked_anew : (ex : Exchange) (ws : List Weights) {ts : List Tree} {start : Side} {first : Assignment} {x : Instance} → ts ≡ trees_of ex → start ≡ free_side ts → first ≡ empty_sets ts
    → x ≡ instance_of ex ws start first → x ≡ empty_search ex ws
asked_anew ex ws trees free empty is =
    let start_is = free ∙ ap free_side trees in
    let first_is = empty ∙ ap empty_sets trees in
    is ∙ (λ i. instance_of ex ws (start_is i) (first_is i))

-- the best of those that meet a side where all nodes are free is the best of all
pub best_of_all : (ex : Exchange) (ws : List Weights) (v : ℤ) → IsBest (trees_of ex) (exact_of ex) ws (free_side (trees_of ex)) v → IsBestOfAll (trees_of ex) (exact_of ex) ws v
best_of_all ex ws v best = record {
  attained = (best.attained.0, best.attained.1.0, best.attained.2);
  bound = λ a feasible. best.bound a (feasible, meets_free_side (trees_of ex) a);
}
