use Rattle.std.proofs.Common.{ℕ, ◌<◌, ◌≡◌, length, set, get_or, [], pos, arith, ap, sym, ◌∙◌, subst, below_more}
use Rattle.std.proofs.lemmas.List.{get_or-set_same, get_or-set_other, map-set, set-get_or, length-map}
use Rattle.ice_defs.specs.Set.{Weights, weight_of}
use Rattle.ice_defs.specs.Trade.{weights_of}
use Rattle.ice_refute.specs.Waiting.{nodes_of}
use Rattle.ice_derived.proofs.goods.clear_rows.Goals as goal

pub loop-bidder-preserved : goal.loop-bidder-preserved
loop-bidder-preserved c =
    let b = c.loop-bidder.bidder in
    let i = c.loop-bidder.invariant in
    let rows = c.loop-bidder.rows.items in
    let nodes = c.args.packed.now.nodes in
    let inside : c.loop-bidder.bidder < length c.loop-bidder.rows.items
    = omega (arith, length-map rows (λ (w : Weights). length w), ap length i.nodes, length-map c.args.rows.now.items (λ (w : Weights). length w), ap length c.requires) in
    record {
      nodes = map-set (λ (w : Weights). length w) rows b c.clear_row.new.row ∙ ap (λ n. set (nodes_of rows) b n) (c.clear_row.ensures.nodes ∙ c.nodes-nodes.ensures)
          ∙ ap (λ ns. set ns b (get_or nodes b 0)) i.nodes ∙ set-get_or nodes b 0;
      done = λ k n h l. below_more (λ k. (n : ℕ) → n < get_or nodes k 0 → weight_of (weights_of (set rows b c.clear_row.new.row) k) n ≡ pos 0) b
          (λ j g m o. ap (λ (w : Weights). weight_of w m) (get_or-set_other rows b j c.clear_row.new.row [] (omega arith)) ∙ i.done j m g o)
          (λ m o. ap (λ (w : Weights). weight_of w m) (get_or-set_same rows b c.clear_row.new.row [] inside) ∙ c.clear_row.ensures.each m (subst (λ k. m < k) (sym c.nodes-nodes.ensures) o))
          k h n l;
    }
