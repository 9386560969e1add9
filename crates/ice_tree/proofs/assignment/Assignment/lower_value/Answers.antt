use Rattle.std.proofs.Common.{◌≡◌, length, ap, arith}
use Rattle.std.proofs.lemmas.Int.{ints}
use Rattle.ice_defs.specs.Sum.{sum_below}
use Rattle.ice_defs.specs.Set.{value}
use Rattle.ice_defs.specs.Trade.{set_of, weights_of}
use Rattle.ice_defs.specs.Weighing.{lower_weights}
use Rattle.ice_defs.proofs.Sums.{sum_below_more}
use Rattle.ice_tree.proofs.assignment.Assignment.lower_value.Goals as goal

pub loop-bidder-preserved : goal.loop-bidder-preserved
loop-bidder-preserved c =
    let more = sum_below_more (λ b. value (set_of c.args.self.now b) (weights_of (lower_weights c.args.bounds.now) b)) c.loop-bidder.bidder in
    let low = c.lower_value_of.ensures.low in
    let high = c.lower_value_of.ensures.high in
    record {
      total = omega (arith, ints, more, c.lower_value_of.ensures.value);
      low = omega (arith, ints, low);
      high = omega (arith, ints, high);
    }

pub returns-clause-value : goal.returns-clause-value
returns-clause-value c =
    let here : c.loop-bidder.bidder ≡ length c.args.self.now = omega (arith, c.requires.nodes.count) in
    let same = ap (sum_below (λ b. value (set_of c.args.self.now b) (weights_of (lower_weights c.args.bounds.now) b))) here in
    omega (arith, ints, same)
