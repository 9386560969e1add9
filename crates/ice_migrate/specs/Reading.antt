-- How many bidders records name.
use Rattle.std.specs.Prelude.{ℕ, suc, List, [], ◌∷◌}
use Rattle.ice_journal.specs.Records.{Record}
use Rattle.ice_journal.specs.Records as line

abbrev pub bidders_in : List Record → ℕ
bidders_in [] = 0
bidders_in (line.bidder name own ∷ rest) = suc (bidders_in rest)
bidders_in (r ∷ rest) = bidders_in rest
