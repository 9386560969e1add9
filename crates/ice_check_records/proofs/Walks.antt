-- The weights, the sides and the sets that a walk of an exchange's logs begins with.
use Rattle.std.proofs.Common.{◌≡◌, ◌<◌, ◌≤◌, ℕ, zero, suc, Bool, List, [], ◌∷◌, length, map, replicate, false, sym, ◌∙◌, ap, subst, arith}
use Rattle.std.specs.List.{AllByRecursion}
use Rattle.std.proofs.lemmas.List.{length-map, get_or-map, length-replicate, get_or-replicate}
use Rattle.ice_defs.specs.declared.Group.{Group}
use Rattle.ice_defs.specs.declared.Group.TheVariants.{Assign, Final, Rival, Provisional, Without}
use Rattle.ice_defs.specs.declared.Mark.TheVariants.{Free}
use Rattle.ice_defs.specs.Tree.{Tree, IsTree}
use Rattle.ice_defs.specs.Set.{Weights}
use Rattle.ice_defs.specs.Fixing.{Fixing, mark_of}
use Rattle.ice_defs.specs.Trade.{Assignment, tree_of, fixing_of}
use Rattle.ice_defs.specs.Bounds.{Bounds}
use Rattle.ice_defs.specs.Exchange.{Bidder, Exchange, trees_of}
use Rattle.ice_defs.specs.Lawful.{IsBidder, IsExchange}
use Rattle.ice_defs.specs.Group.{free_side, group_weights}
use Rattle.ice_tree.specs.Alike.{AreAlike, AreChosen, HasSetPerTree}
use Rattle.ice_defs.specs.Conditions.{AreBoundsOf, AreWeightsOf}
use Rattle.ice_bound.proofs.Fixings.{free_fixings}
use Rattle.ice_bound.proofs.Modest.{lower_modest, weighted_modest, perturbed_modest}
use Rattle.ice_trade.proofs.Weighted.{length-trees}
use Rattle.ice_gap_laws.specs.Gap.{IsThere}
use Rattle.ice_check_records.specs.declared.log.LogWalk.{LogWalk}
use Rattle.ice_check_records.specs.Logs.{IsWalkOf, CanStart}

-- ---- the bidders of an exchange

pub few_trees : (ex : Exchange) → IsExchange ex → (0 < length (trees_of ex)) × (length (trees_of ex) ≤ 40)
few_trees ex lawful = (omega (arith, length-trees ex, lawful.bidders_count.0), omega (arith, length-trees ex, lawful.bidders_count.1))

tree_at : (goods : ℕ) (bidders : List Bidder) → AllByRecursion (IsBidder goods) bidders → (b : ℕ) → b < length (map (λ x. x.tree) bidders) → IsTree (tree_of (map (λ x. x.tree) bidders) b)
tree_at goods [] are b there = absurd (omega arith)
tree_at goods (x ∷ bidders) are zero there = are.0.tree.tree
tree_at goods (x ∷ bidders) are (suc b) there = tree_at goods bidders are.1 b (omega arith)

-- ---- weights

-- sets of the nodes of the trees are sets of the nodes of their bounds
pub sized_chosen : (ts : List Tree) (bounds : List Bounds) (sets : Assignment) → AreBoundsOf ts bounds → HasSetPerTree ts sets → AreChosen sets bounds
sized_chosen ts bounds sets are h = record {
  count = h.count ∙ sym are.same_length;
  nodes = λ b l.
      let there : b < length ts = omega (arith, are.same_length) in
      h.nodes b there ∙ sym (are.each b there).lo_count;
}

-- weights of the trees have one number for each of their bounds
pub weights_alike : (ts : List Tree) (bounds : List Bounds) (ws : List Weights) → AreBoundsOf ts bounds → AreWeightsOf ts ws → AreAlike ws bounds
weights_alike ts bounds ws are weights = record {
  count = weights.same_length ∙ sym are.same_length;
  nodes = λ b l.
      let there : b < length ts = omega (arith, are.same_length) in
      weights.nodes b there ∙ sym (are.each b there).lo_count;
}

-- the weights of each group
pub weights_are : (ts : List Tree) (weight : ℕ) (bounds : List Bounds) (final : Assignment) (group : Group) → weight ≤ 100 → AreBoundsOf ts bounds → AreWeightsOf ts (group_weights weight bounds final group)
weights_are ts weight bounds final Assign few are = lower_modest ts bounds are
weights_are ts weight bounds final Final few are = lower_modest ts bounds are
weights_are ts weight bounds final Rival few are = perturbed_modest final ts bounds are
weights_are ts weight bounds final Provisional few are = weighted_modest weight ts bounds few are
weights_are ts weight bounds final (Without b) few are = lower_modest ts bounds are

-- a walk at the weights of a group
pub reweighed : (ts : List Tree) (exact : List Bool) (weight : ℕ) (bounds : List Bounds) (final : Assignment) (group : Group) (log : LogWalk) (ws : List Weights) → weight ≤ 100 → AreBoundsOf ts bounds → IsWalkOf ts exact log
    → ws ≡ group_weights weight bounds final group → IsWalkOf ts exact (record log { weights = ws })
reweighed ts exact weight bounds final group log ws few are walk is = record {
  weights = subst (AreWeightsOf ts) (sym is) (weights_are ts weight bounds final group few are);
  start = walk.start;
  nodes = walk.nodes;
  flags = walk.flags;
  goods = walk.goods;
}

-- ---- where logs begin

free_at : (ts : List Tree) (b : ℕ) → b < length ts → fixing_of (free_side ts) b ≡ replicate (length (tree_of ts b)) Free
free_at ts b there = get_or-map (λ (t : Tree). replicate (length t) Free) ts b [] [] there

-- the root of a bidder that a group leaves out is there, and free
pub can_start : (ex : Exchange) (group : Group) → IsExchange ex → IsThere (length (trees_of ex)) group → CanStart (free_side (trees_of ex)) group
can_start ex (Without b) lawful there =
    let ts = trees_of ex in
    let tree = tree_at (length ex.goods) ex.bidders lawful.bidders b there in
    let is = free_at ts b there in (
      omega (arith, there, (free_fixings ts).same_length),
      omega (arith, (free_fixings ts).nodes b there, tree.rooted),
      ap (λ (x : Fixing). mark_of x 0) is ∙ get_or-replicate (length (tree_of ts b)) 0 Free Free tree.rooted,
    )
can_start ex Assign lawful there = tt
can_start ex Final lawful there = tt
can_start ex Rival lawful there = tt
can_start ex Provisional lawful there = tt

-- empty sets have the sizes of their trees
pub empty_sized : (ts : List Tree) → HasSetPerTree ts (map (λ t. replicate (length t) false) ts)
empty_sized ts = record {
  count = length-map ts (λ (t : Tree). replicate (length t) false);
  nodes = λ b l. ap length (get_or-map (λ (t : Tree). replicate (length t) false) ts b [] [] l) ∙ length-replicate (length (tree_of ts b)) false;
}
