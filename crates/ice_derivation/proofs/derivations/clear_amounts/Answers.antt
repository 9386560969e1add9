use Rattle.std.proofs.Common.{◌≡◌, ◌<◌, ◌+◌, ◌∙◌, ℕ, List, [], length, replicate, pos, arith, ap, sym, subst}
use Rattle.std.proofs.lemmas.List.{get_or_default}
use Rattle.ice_defs.specs.Tree.{Tree}
use Rattle.ice_defs.specs.Set.{Weights}
use Rattle.ice_defs.specs.Trade.{tree_of, weights_of}
use Rattle.ice_refute.specs.Waiting.{nodes_of}
use Rattle.ice_refute.proofs.NodeCounts.{same_count}
use Rattle.ice_derivation.proofs.Rows.{cleared_more, cleared_nodes, all_cleared}
use Rattle.ice_derivation.proofs.derivations.clear_amounts.Goals as goal

pub clear-requires-clause-bidder : goal.clear-requires-clause-bidder
clear-requires-clause-bidder c =
    let i = c.loop-bidder.invariant in
    omega (arith, same_count c.loop-bidder.amounts c.args.trees.now i.nodes, c.loop-bidder-test.true, c.requires.few)

pub loop-bidder-preserved : goal.loop-bidder-preserved
loop-bidder-preserved c =
    let ts = c.args.trees.now in
    let b = c.loop-bidder.bidder in
    let ws = c.loop-bidder.amounts in
    let i = c.loop-bidder.invariant in
    let n = c.nodes.result in
    let count : c.nodes.result ≡ length (tree_of c.args.trees.now c.loop-bidder.bidder) = c.nodes.ensures.value
    ∙ ap (λ (t : Tree). length t) (c.index-trees-bidder.is ∙ get_or_default ts b c.index-trees-bidder.result [] c.loop-bidder-test.true) in
    record {
      nodes = ap (λ (new : List Weights). nodes_of new) c.clear.ensures ∙ cleared_nodes ts ws b n i.nodes count;
      cleared = subst (λ (new : List Weights). (k : ℕ) → k < b + 1 → weights_of new k ≡ replicate (length (tree_of ts k)) (pos 0)) (sym c.clear.ensures)
          (cleared_more ts ws b n i.nodes c.loop-bidder-test.true count i.cleared);
    }

pub returns : goal.returns
returns c =
    all_cleared c.args.trees.now c.loop-bidder.amounts c.loop-bidder.invariant.nodes
    (λ k h. c.loop-bidder.invariant.cleared k (omega (arith, h, c.loop-bidder-test.false)))
