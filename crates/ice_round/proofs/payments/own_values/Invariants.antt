use Rattle.std.proofs.Common.{◌≡◌, map, All}
use Rattle.ice_defs.specs.Sum.{numbers_below}
use Rattle.ice_defs.specs.Set.{value}
use Rattle.ice_defs.specs.Trade.{set_of, weights_of}
use Rattle.ice_defs.specs.Weighing.{lower_weights}
use Rattle.ice_threshold.specs.Limits.{IsValueLimit}
use Rattle.ice_round.proofs.payments.own_values.Given as goal

abbrev pub invariant-loop-bidder : goal.invariant-loop-bidder
invariant-loop-bidder l = record {
  value : l.values.items ≡ map (λ b. value (set_of l.sets b) (weights_of (lower_weights l.bounds) b)) (numbers_below l.bidder);
  limited : All IsValueLimit l.values.items;
}
