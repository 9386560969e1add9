-- How the trace of a program ends, as a turn gives it.
use Rattle.std.specs.Prelude.{ℕ, ◌≡◌, List}
use Rattle.ice_defs.specs.Dictionary.{Dictionary}
use Rattle.ice_defs.specs.Fraction.{Fraction}
use Rattle.ice_defs.specs.Program.{Program}
use Rattle.ice_defs.specs.Trace.{least_end, wide_end, pivots_end, trace_end, point_of, duals_of}
use Rattle.ice_defs.specs.declared.LimitKind.TheVariants.{Wide, Pivots, Rows, Den}
use Rattle.ice_turns.specs.declared.ends.Stop.{Stop}
use Rattle.ice_turns.specs.declared.ends.Stop.TheVariants.{AtLimit, WithoutMemory}

-- the point and the duals are those of the dictionary at which the trace ends
pub record IsAtEnd (p : Program) (point duals : List Fraction) : Type 0 where
  pub count : ℕ
  pub last : Dictionary
  pub ends : trace_end p ≡ least_end count last
  pub point_is : point ≡ point_of p last
  pub duals_are : duals ≡ duals_of p last

-- the trace is stopped; want of memory has no cause
abbrev pub IsStopOf : Program → Stop → Type 0
IsStopOf p (AtLimit Wide) = trace_end p ≡ wide_end
IsStopOf p (AtLimit Pivots) = trace_end p ≡ pivots_end
IsStopOf p (AtLimit Rows) = ⊥
IsStopOf p (AtLimit Den) = ⊥
IsStopOf p WithoutMemory = Unit {0}
