-- What the trace of a stage's program ends at.
use Rattle.std.specs.Prelude.{ℕ, ◌≡◌, List, ℤ, Some}
use Rattle.ice_defs.specs.Tree.{Tree}
use Rattle.ice_defs.specs.Set.{Weights}
use Rattle.ice_defs.specs.Trade.{Assignment}
use Rattle.ice_defs.specs.Fraction.{Fraction}
use Rattle.ice_defs.specs.Program.{IsLeast, AreDuals}
use Rattle.ice_defs.specs.Trace.{trace_end}
use Rattle.ice_defs.specs.PricingRun.{Member, StageAt, stage_program, solution, duals_at}

-- the solution of a stage at a pool is a least point of
-- its program, and the trace's end states its duals
abbrev pub TracesSolve : Type 0
TracesSolve = (ts : List Tree) (ws : List Weights) (sets : Assignment) (goods : ℕ) (cap : ℤ) (at : StageAt) (pool : List Member)
    (x : List Fraction)
    → solution ts ws sets goods cap at pool ≡ Some x
    → IsLeast (stage_program ts ws sets goods cap at pool) x
    × AreDuals (stage_program ts ws sets goods cap at pool) x
    (duals_at ts ws sets goods cap (stage_program ts ws sets goods cap at pool) (trace_end (stage_program ts ws sets goods cap at pool)))
