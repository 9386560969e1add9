-- The lines that say a settlement.
use Rattle.std.specs.Prelude.{ℕ, List, [], ◌∷◌, ◌++◌, ℤ, codes, Option, Some, None}
use Rattle.std.specs.Fmt.{signed_decimal}
use Rattle.std.specs.List.{flat_map, join_with_byte}
use Rattle.ice_defs.specs.Bounds.{Bounds}
use Rattle.ice_defs.specs.Prices.{Prices}
use Rattle.ice_journal.specs.Records as line
use Rattle.ice_journal.specs.Spelling.{line_of}
use Rattle.ice_replay.specs.declared.settlement.BidderBounds.{BidderBounds}
use Rattle.ice_replay.specs.declared.settlement.Replay.{Replay}

-- the lower and the upper value of each node
abbrev pub pairs : List ℤ → List ℤ → List (List ℕ)
pairs (lo ∷ los) (hi ∷ his) = signed_decimal lo ∷ signed_decimal hi ∷ pairs los his
pairs los his = []

abbrev pub bounds_fields : List ℕ → Bounds → List (List ℕ)
bounds_fields name bounds = codes "bounds" ∷ name ∷ pairs bounds.lo bounds.hi

abbrev pub bidder_line : BidderBounds → List ℕ
bidder_line b = join_with_byte 32 (bounds_fields b.name b.bounds) ++ 10 ∷ []

abbrev pub bidder_lines : List BidderBounds → List ℕ
bidder_lines bidders = flat_map bidder_line bidders

abbrev pub opening_lines : Replay → List ℕ
opening_lines x = line_of (line.settle x.number) ++ bidder_lines x.bidders.items

abbrev pub amount_lines : Replay → List ℕ
amount_lines x = line_of (line.final x.final_value) ++ line_of (line.regret x.regret)

abbrev pub price_lines : Option Prices → List ℕ
price_lines None = []
price_lines (Some p) = line_of (line.prices p)

abbrev pub last_line : List ℕ
last_line = codes "end replay" ++ 10 ∷ []

-- the number, the bounds of each bidder, the final value, the regret, the prices where they stand,
-- and an end
abbrev pub replay_lines : Replay → List ℕ
replay_lines x = opening_lines x ++ amount_lines x ++ price_lines x.prices ++ last_line
