use Rattle.std.proofs.Common.{◌<◌, ◌∙◌, length, arith, sym}
use Rattle.ice_defs.specs.Exchange.{opening_bounds}
use Rattle.ice_trade.proofs.Weighted.{zero-alike, length-trees, length-bounds, bidder_bounds}
use Rattle.ice_trade.proofs.exchange.Exchange.weighted_values.Goals as goal

pub fill_weighted-requires-clause-alike : goal.fill_weighted-requires-clause-alike
fill_weighted-requires-clause-alike c = rw (c.in_ok-weights.ensures, c.trees.ensures.value, c.bounds.ensures.value) (zero-alike c.args.self.now c.trees.ensures.lawful)

pub returns-clause-nodes : goal.returns-clause-nodes
returns-clause-nodes c =
    let ex = c.args.self.now in
    let alike = rw c.bounds.ensures.value at c.fill_weighted-2.ensures.alike in
    record {
      count = alike.count ∙ length-bounds ex ∙ sym (length-trees ex);
      nodes = λ b h.
          let l : b < length ex.bidders = omega (arith, length-trees ex, h) in
          let m : b < length (opening_bounds ex) = omega (arith, length-bounds ex, l) in
          alike.nodes b m ∙ (bidder_bounds ex b c.trees.ensures.lawful l).lo_count;
    }
