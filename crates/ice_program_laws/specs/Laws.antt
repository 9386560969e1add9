-- Laws of linear programs.
use Rattle.std.specs.Prelude.{ℕ, ◌≡◌, ◌≢◌, ◌↔◌, List, length, Some, pos, negsuc, ◌≤ℤ◌}
use Rattle.std.specs.List.{AllByRecursion}
use Rattle.ice_defs.specs.Fraction.{Fraction, whole_number, IsFraction, negation, fraction_at}
use Rattle.ice_defs.specs.Frac.{add, mul, div, reciprocal}
use Rattle.ice_defs.specs.Program.{Program, IsPoint, IsLeast, AreDuals, IsMix, IsInfeasible}
use Rattle.ice_defs.specs.Dictionary.{Left, Dictionary, Spot, other_row, pivot_dictionary}
use Rattle.ice_defs.specs.Trace.{least_end, infeasible_end, trace_end, point_of, duals_of, mix_of}
use Rattle.ice_frac.specs.Lowest.{IsLowest}
use Rattle.ice_program_laws.specs.Solutions.{Holds, IsDictionary, IsPivot, AreLowest}

-- a feasible point with duals is least
abbrev pub DualsGiveLeast : Type 0
DualsGiveLeast = (p : Program) (x y : List Fraction) → IsPoint p x → AreDuals p x y → IsLeast p x

-- a mix shows that there is no feasible point
abbrev pub MixGivesInfeasible : Type 0
MixGivesInfeasible = (p : Program) (y : List Fraction) → IsMix p y → IsInfeasible p

-- a pivot that isn't too wide keeps the solutions
abbrev pub PivotKeepsSolutions : Type 0
PivotKeepsSolutions = (d after : Dictionary) (l : ℕ) (k : Spot) → IsDictionary d → IsPivot d l k → pivot_dictionary d l k ≡ Some after
    → IsDictionary after × ((value : ℕ → Fraction) (total : Fraction) → ((v : ℕ) → IsFraction (value v)) → IsFraction total
    → Holds d value total ↔ Holds after value total)

-- costs at least 0
abbrev pub AreCosts : Program → Type 0
AreCosts p = AllByRecursion (λ c. pos 0 ≤ℤ c) p.costs

-- where costs are at least 0 and the trace ends with the least, the
-- stated point is feasible and the stated duals are its duals
abbrev pub LeastEndGivesDuals : Type 0
LeastEndGivesDuals = (p : Program) (count : ℕ) (d : Dictionary) → AreCosts p → trace_end p ≡ least_end count d
    → IsPoint p (point_of p d) × AreDuals p (point_of p d) (duals_of p d)

-- so it is least
abbrev pub LeastEndGivesLeast : Type 0
LeastEndGivesLeast = (p : Program) (count : ℕ) (d : Dictionary) → AreCosts p → trace_end p ≡ least_end count d → IsLeast p (point_of p d)

-- where the trace ends with no leaving variable, the stated mix is a mix
abbrev pub InfeasibleEndGivesMix : Type 0
InfeasibleEndGivesMix = (p : Program) (count : ℕ) (d : Dictionary) (k : Spot) → trace_end p ≡ infeasible_end count d k
    → IsMix p (mix_of p d k)

-- what is never too wide for fractions in lowest terms: a product by
-- 0, by 1 or by -1, a sum with 0, a quotient of 0 and one of 1
pub record NeverWide (a : Fraction) : Type 0 where
  pub by_zero : mul (whole_number (pos 0)) a ≡ Some (whole_number (pos 0))
  pub by_one : mul (whole_number (pos 1)) a ≡ Some a
  pub by_minus_one : mul (whole_number (negsuc 0)) a ≡ Some (negation a)
  pub sum_with_zero : add a (whole_number (pos 0)) ≡ Some a
  pub zero_over : a.num ≢ pos 0 → div (whole_number (pos 0)) a ≡ Some (whole_number (pos 0))
  pub one_over : a.num ≢ pos 0 → div (whole_number (pos 1)) a ≡ Some (reciprocal a)

abbrev pub SomeAreNeverWide : Type 0
SomeAreNeverWide = (a : Fraction) → IsLowest a → NeverWide a

-- the order of the factors doesn't matter, also for what is too wide
abbrev pub ProductsCommute : Type 0
ProductsCommute = (a b : Fraction) → mul a b ≡ mul b a

-- a pivot leaves a row whose coefficient of the entering variable is 0 as it is
abbrev pub ZeroRowStays : Type 0
ZeroRowStays = (k : ℕ) (new row : Left) → AreLowest new → AreLowest row → length new.coeffs ≡ length row.coeffs
    → (fraction_at row.coeffs k).num ≡ pos 0 → other_row k new row ≡ Some row
