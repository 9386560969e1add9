-- A part of the code as a part of the definitions.
use Rattle.std.specs.Prelude.{Bool, List, map, Option, Some, None, ℤ}
use Rattle.std.specs.Option.{option_map}
use Rattle.ice_defs.specs.Steps.{Step, branch, leaf, dead}
use Rattle.ice_bound.specs.Multipliers.{AreInRange}
use Rattle.ice_search_log.specs.Parts as parts
use Rattle.ice_search_log.specs.Parts.{never_stops, is_closed}
use Rattle.ice_search_log.specs.declared.part.Split.{Split}
use Rattle.ice_search_log.specs.declared.part.Part.{Part}

abbrev pub split_of : Split → parts.Split
split_of s = record { bidder = s.bidder; node = s.node; must = s.must }

abbrev pub part_of : Part → parts.Part
part_of p = record {
  put = record { above = p.above; bidder = p.bidder; node = p.node; mark = p.mark };
  m = p.m;
  key = p.key;
  swept = p.swept;
  split = option_map split_of p.split;
}

abbrev pub parts_of : List Part → List parts.Part
parts_of list = map part_of list

-- a part whose bound is at most the value is written as a leaf, and without a value none is
abbrev pub stops_at : Option ℤ → parts.Part → Bool
stops_at None = never_stops
stops_at (Some value) = is_closed value

-- the multipliers of a leaf are inside their range
abbrev pub IsRangedStep : Step → Type 0
IsRangedStep (branch bidder node) = Unit {0}
IsRangedStep (leaf m) = AreInRange m
IsRangedStep (dead bidder) = Unit {0}
