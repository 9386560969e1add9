-- What a last settlement is made of.
use Rattle.std.proofs.Common.{List, [], ◌∷◌, arith, ◌∙◌}
use Rattle.std.specs.List.{AllByRecursion}
use Rattle.ice_defs.specs.Bounds.{Bounds}
use Rattle.ice_defs.specs.Conditions.{AreBoundsOf}
use Rattle.ice_defs.specs.Exchange.{Exchange, trees_of}
use Rattle.ice_defs.specs.Fraction.{Fraction}
use Rattle.ice_trade.proofs.Weighted.{length-trees}
use Rattle.ice_journal.specs.Ranges.{IsFractionField}
use Rattle.ice_pricing.specs.Bounding as priced
use Rattle.ice_fair.specs.Lasts.{IsShortPayment}

-- bounds of an exchange's trees are those of its bidders
pub bidders_bounds : (ex : Exchange) (bounds : List Bounds) → AreBoundsOf (trees_of ex) bounds → priced.AreBoundsOf ex bounds
bidders_bounds ex bounds h = record { count = h.same_length ∙ length-trees ex; each = λ b l. h.each b (omega (arith, l, h.same_length)) }

short : (f : Fraction) → IsFractionField f → IsShortPayment f
short f h = record { low = h.num.0; high = h.num.1 }

-- the fractions of records are short
pub all_short : (fs : List Fraction) → AllByRecursion IsFractionField fs → AllByRecursion IsShortPayment fs
all_short [] h = tt
all_short (f ∷ fs) (one, more) = (short f one, all_short fs more)
