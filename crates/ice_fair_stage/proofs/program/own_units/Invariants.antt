use Rattle.std.proofs.Common.{◌≡◌, map, vec_len}
use Rattle.std.specs.Prelude.{All}
use Rattle.ice_defs.specs.Sum.{numbers_below}
use Rattle.ice_lp.specs.Limits.{IsNumber}
use Rattle.ice_fair_stage.proofs.Sets.{unit_of}
use Rattle.ice_fair_stage.proofs.program.own_units.Given as goal

abbrev pub invariant-loop-good : goal.invariant-loop-good
invariant-loop-good l = record {
  value : l.made.items ≡ map (unit_of l.trade l.factor l.bidder) (numbers_below l.good);
  len : vec_len l.made ≡ l.good;
  sized : All IsNumber l.made.items;
}
