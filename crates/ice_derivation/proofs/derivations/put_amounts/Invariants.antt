use Rattle.std.proofs.Common.{◌≡◌, length, set, drop}
use Rattle.ice_defs.specs.Trade.{weights_of}
use Rattle.ice_derivation.specs.Numbers.{changed, AreAmounts}
use Rattle.ice_derivation.proofs.derivations.put_amounts.Given as goal

abbrev pub invariant-loop-stated : goal.invariant-loop-stated
invariant-loop-stated l = record {
  put : l.amounts ≡ set l.initial.amounts l.bidder (weights_of l.amounts l.bidder);
  count : length (weights_of l.amounts l.bidder) ≡ length (weights_of l.initial.amounts l.bidder);
  changed_so : changed (weights_of l.amounts l.bidder) (drop l.stated-index l.numbers) ≡ changed (weights_of l.initial.amounts l.bidder) l.numbers;
  in_range : AreAmounts (drop l.stated-index l.numbers);
}
