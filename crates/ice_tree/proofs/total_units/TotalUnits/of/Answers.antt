use Rattle.std.proofs.Common.{arith, ℕ, ◌<◌, ◌≡◌, [], ap, ◌∙◌}
use Rattle.std.proofs.lemmas.List.{get_or_default}
use Rattle.ice_defs.specs.Set.{weight_of, units}
use Rattle.ice_defs.specs.Trade.{tree_of, set_of}
use Rattle.ice_tree.proofs.Summing.{sums_more, within_more}
use Rattle.ice_tree.proofs.total_units.TotalUnits.of.Goals as goal

pub loop-bidder-preserved : goal.loop-bidder-preserved
loop-bidder-preserved c =
    let trees = c.args.trees.now in
    let sets = c.args.sets.now in
    let n = c.loop-bidder.bidder in
    let (sums, within) = c.loop-bidder.invariant in
    let tree : c.index-trees-bidder.result ≡ tree_of trees n = c.index-trees-bidder.is ∙ get_or_default trees n c.index-trees-bidder.result [] (omega arith) in
    let set : c.of.result.now ≡ set_of sets n = c.of.ensures in
    let here : (g : ℕ) → g < 32 → weight_of c.units.result g ≡ units (tree_of trees n) (set_of sets n) g =
    λ g l. c.units.ensures.each g l ∙ ap (λ t. units t c.of.result.now g) tree ∙ ap (λ s. units (tree_of trees n) s g) set in (
      sums_more c.loop-bidder.sums c.add_set.new.sums c.units.result c.add_set.ensures.added (λ b g. units (tree_of trees b) (set_of sets b) g) n sums here,
      within_more c.loop-bidder.sums c.add_set.new.sums c.units.result c.add_set.ensures.added n within c.add_set.ensures.small,
    )
