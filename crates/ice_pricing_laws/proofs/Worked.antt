-- A run in a market of a seller at -1150 and a buyer at 1100
-- that does not trade, as the definitions reckon it.
use Rattle.std.proofs.Common.{◌≡◌, true, false, List, [], ◌∷◌, pos, negsuc, Some, refl}
use Rattle.ice_defs.specs.declared.NodeKind.TheVariants.{Buy, Sell}
use Rattle.ice_defs.specs.Tree.{Tree}
use Rattle.ice_defs.specs.Set.{Weights}
use Rattle.ice_defs.specs.Trade.{Assignment}
use Rattle.ice_defs.specs.Fraction.{whole_number}
use Rattle.ice_defs.specs.Frac.{gcd, gcd_in}
use Rattle.ice_defs.specs.Trace.{end_from}
use Rattle.ice_defs.specs.PricingRun.{Member, first_stage, solution}
use Rattle.ice_pricing_laws.specs.Laws.{balance_at}
use Rattle.ice_pricing_laws.specs.Ends.{certificate_at}

abbrev market : List Tree
market = (record { kind = Sell 0 1; parent = 0 } ∷ []) ∷ (record { kind = Buy 0 1; parent = 0 } ∷ []) ∷ []

abbrev weighted : List Weights
weighted = (negsuc 1149 ∷ []) ∷ (pos 1100 ∷ []) ∷ []

abbrev none : Assignment
none = (false ∷ []) ∷ (false ∷ []) ∷ []

abbrev buyer : Member
buyer = record { bidder = 1; set = true ∷ [] }

-- over the empty pool the price is 0, and then the buyer violates
starts_free : solution market weighted none 1 (pos 100) first_stage [] ≡ Some (whole_number (pos 0) ∷ whole_number (pos 0) ∷ [])
unfolding end_from gcd gcd_in
starts_free = refl

-- over the buyer's set it is 11, with no violation, and no row is needed
then_accurate : solution market weighted none 1 (pos 100) first_stage (buyer ∷ []) ≡ Some (whole_number (pos 11) ∷ whole_number (pos 0) ∷ [])
unfolding end_from gcd gcd_in
then_accurate = refl

no_rows : certificate_at market weighted none 1 (pos 100) first_stage (buyer ∷ []) ≡ record { den = 1; rows = [] }
unfolding end_from gcd gcd_in
no_rows = refl

-- in the balance stage the buyer's row shows that no lower price is accurate
then_balanced : solution market weighted none 1 (pos 100) (balance_at (pos 0) 1) (buyer ∷ []) ≡ Some (whole_number (pos 11) ∷ whole_number (pos 11) ∷ [])
unfolding end_from gcd gcd_in
then_balanced = refl

one_row : certificate_at market weighted none 1 (pos 100) (balance_at (pos 0) 1) (buyer ∷ []) ≡ record { den = 1; rows = record { bidder = 1; weight = 1; set = true ∷ [] } ∷ [] }
unfolding end_from gcd gcd_in
one_row = refl
