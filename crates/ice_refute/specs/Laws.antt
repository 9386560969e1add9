-- Laws of logs, as statements.
use Rattle.std.specs.Prelude.{ℕ, ◌+◌, ◌<◌, ◌≤◌, ◌≡◌, ◌^◌, ◌↔◌, Bool, List, [], ◌∷◌, ◌++◌, length, map, ℤ, ◌≤ℤ◌}
use Rattle.std.specs.List.{AllByRecursion}
use Rattle.ice_defs.specs.Tree.{Tree}
use Rattle.ice_defs.specs.Set.{Weights}
use Rattle.ice_defs.specs.Trade.{Assignment, IsFeasible, MeetsAll, total_value}
use Rattle.ice_defs.specs.Derived.{Derived, Means, with_derived}
use Rattle.ice_defs.specs.Steps.{Step, branch, leaf, dead, Side, branch_count, sides_after, steps_with_sides}
use Rattle.ice_defs.specs.Log.{Passes, PassesBy}
use Rattle.ice_defs.specs.Follows.{Follows, AreLawful, IsLawful}
use Rattle.ice_defs.specs.Conditions.{AreFixingsOf}
use Rattle.ice_bound.specs.Laws.{IsCounted, KeepsLimits, in_4096ths}
use Rattle.ice_refute.specs.Code.{CountsGoods}
use Rattle.ice_refute.specs.Waiting.{free_count}

-- a log that passes refutes every greater assignment
abbrev pub LogRefutes : Type 0
LogRefutes = (ts : List Tree) (exact : List Bool) (ws : List Weights) (target : ℤ) (start : Side) (log : List Step) (a : Assignment)
    → AllByRecursion (CountsGoods (length exact)) log → Passes ts exact ws target start log → IsFeasible ts exact a → MeetsAll a start
    → total_value a ws ≤ℤ target

-- over n free nodes a passing log has fewer than 2^n
-- branch steps, and fewer than twice that many steps
abbrev pub LogIsShort : Type 0
LogIsShort = (means : Means) (ts : List Tree) (exact : List Bool) (ws : List Weights) (target : ℤ) (start : Side) (log : List Step)
    → AreFixingsOf ts start → PassesBy means ts exact ws target start log
    → (branch_count log < 2 ^ free_count start) × (length log < 2 ^ (free_count start + 1))

-- the open sides after these steps
abbrev pub open_after : List Side → List Step → List Side
open_after sides [] = sides
open_after sides (step ∷ rest) = open_after (sides_after sides step) rest

-- a passing log closes all sides, and each of its steps stands in one
abbrev pub LogCloses : Type 0
LogCloses = (means : Means) (ts : List Tree) (exact : List Bool) (ws : List Weights) (target : ℤ) (start : Side) (log : List Step)
    → PassesBy means ts exact ws target start log
    → (open_after (start ∷ []) log ≡ []) × (length (steps_with_sides (start ∷ []) log) ≡ length log)

-- ---- derived goods

-- a leaf has as many numbers as its bound wants
abbrev pub CountsBy : Means → List Bool → Step → Type 0
CountsBy means exact (branch b n) = Unit {0}
CountsBy means exact (leaf m) = IsCounted means exact m
CountsBy means exact (dead b) = Unit {0}

-- a log by lawful derived goods that passes refutes every greater assignment
abbrev pub LogByRefutes : Type 0
LogByRefutes = (means : Means) (ts : List Tree) (exact : List Bool) (ws : List Weights) (target : ℤ) (start : Side) (log : List Step)
    (a : Assignment)
    → IsLawful ts exact means → AllByRecursion (CountsBy means exact) log → PassesBy means ts exact ws target start log
    → IsFeasible ts exact a → MeetsAll a start → total_value a ws ≤ℤ target

-- every feasible assignment keeps the limits of lawful derived goods
abbrev pub LimitsAreKept : Type 0
LimitsAreKept = (means : Means) (ts : List Tree) (exact : List Bool) (a : Assignment)
    → IsLawful ts exact means → IsFeasible ts exact a → KeepsLimits a means

-- a lawful list has no derived good, or one that follows from a lawful list of the others
abbrev pub LawfulGrows : Type 0
LawfulGrows = (ts : List Tree) (exact : List Bool)
    → AreLawful ts exact []
    × ((ds : List Derived) (d : Derived) → AreLawful ts exact (ds ++ d ∷ []) ↔ (AreLawful ts exact ds × Follows ts exact ds d))

-- a step with its multipliers in 4096ths
abbrev pub step_in_4096ths : Step → Step
step_in_4096ths (branch b n) = branch b n
step_in_4096ths (leaf m) = leaf (in_4096ths m)
step_in_4096ths (dead b) = dead b

-- a log by goods alone passes exactly where the same in 4096ths passes by any derived goods
abbrev pub PlainPasses : Type 0
PlainPasses = (ds : List Derived) (ts : List Tree) (exact : List Bool) (ws : List Weights) (target : ℤ) (start : Side) (log : List Step)
    → AllByRecursion (CountsGoods (length exact)) log
    → Passes ts exact ws target start log ↔ PassesBy (with_derived ds) ts exact ws target start (map step_in_4096ths log)

-- a leaf has at most so many numbers
abbrev pub CountsUpTo : ℕ → Step → Type 0
CountsUpTo most (branch b n) = Unit {0}
CountsUpTo most (leaf m) = length m ≤ most
CountsUpTo most (dead b) = Unit {0}

-- a log with no tolls past some derived goods passes by these exactly where it passes by more
abbrev pub LogStays : Type 0
LogStays = (ds more : List Derived) (ts : List Tree) (exact : List Bool) (ws : List Weights) (target : ℤ) (start : Side) (log : List Step)
    → AllByRecursion (CountsUpTo (length exact + length ds)) log
    → PassesBy (with_derived ds) ts exact ws target start log ↔ PassesBy (with_derived (ds ++ more)) ts exact ws target start log
