-- The bounds of a round are bounds of the exchange's trees.
use Rattle.std.proofs.Common.{◌∙◌, sym, arith}
use Rattle.ice_defs.specs.Exchange.{Exchange, trees_of}
use Rattle.ice_defs.specs.Conditions.{AreBoundsOf}
use Rattle.ice_trade.proofs.Weighted.{length-trees}
use Rattle.ice_verdicts.specs.Judges.{Round, IsRoundOf}

pub round_bounds : (ex : Exchange) (r : Round) → IsRoundOf ex r → AreBoundsOf (trees_of ex) r.bounds
round_bounds ex r is = record {
  same_length = is.bounds_count ∙ sym (length-trees ex);
  each = λ b h. is.bounds b (omega (arith, h, length-trees ex));
}
