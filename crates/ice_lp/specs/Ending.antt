-- How a trace ends.
use Rattle.std.specs.Prelude.{ℕ, zero, suc, ◌≡◌, Option, Some, None}
use Rattle.ice_defs.specs.Dictionary.{Dictionary, Spot, Choice, pivots, first_dictionary, choice, pivot_dictionary}
use Rattle.ice_defs.specs.Program.{Program}
use Rattle.ice_defs.specs.Trace.{TraceEnd, least_end, infeasible_end, wide_end, pivots_end}
use Rattle.ice_lp.specs.declared.ends.LpEnd.{LpEnd}
use Rattle.ice_lp.specs.declared.ends.LpEnd.TheVariants.{Wide, Pivots, NoMemory}

-- with an entering variable that nothing bounds, or none
abbrev pub end_of : ℕ → Dictionary → Option Spot → TraceEnd
end_of count d None = least_end count d
end_of count d (Some k) = infeasible_end count d k

-- the cause of no answer; want of memory has none
abbrev pub IsEnd : TraceEnd → LpEnd → Type 0
IsEnd t Wide = t ≡ wide_end
IsEnd t Pivots = t ≡ pivots_end
IsEnd t NoMemory = Unit {0}

-- ---- how many pivots are made

-- one that is too wide isn't made
abbrev pub made_by : ℕ → (Dictionary → ℕ) → Option Dictionary → ℕ
made_by count next None = count
made_by count next (Some d) = next d

abbrev pub made_at : ℕ → (Dictionary → ℕ) → Dictionary → Choice → ℕ
made_at count next d (pivots l k) = made_by count next (pivot_dictionary d l k)
made_at count next d other = count

-- with those made so far, where so many are left
unfoldable pub made_from : ℕ → ℕ → Dictionary → ℕ
made_from zero count d = count
made_from (suc left) count d = made_at count (made_from left (suc count)) d (choice d)

-- by the whole trace of a program, to whatever end it comes
abbrev pub pivots_made : Program → ℕ
pivots_made p = made_from 2000 0 (first_dictionary p)
