-- What a record makes of a log.
use Rattle.std.specs.Prelude.{◌≡◌, ◌<◌, Bool, List, length, ℤ, Option, Some, None}
use Rattle.std.specs.List.{AllByRecursion}
use Rattle.ice_defs.specs.Tree.{Tree}
use Rattle.ice_defs.specs.Bound.{Multipliers}
use Rattle.ice_defs.specs.Steps.{Step, Side, with_mark}
use Rattle.ice_defs.specs.Fixing.{mark_of}
use Rattle.ice_defs.specs.declared.Mark.TheVariants.{Free, Never}
use Rattle.ice_defs.specs.Group.{free_side}
use Rattle.ice_defs.specs.declared.Group.{Group}
use Rattle.ice_defs.specs.declared.Group.TheVariants.{Without}
use Rattle.ice_defs.specs.Trade.{fixing_of}
use Rattle.ice_defs.specs.Conditions.{AreWeightsOf}
use Rattle.ice_bound.specs.Multipliers.{IsInRange}
use Rattle.ice_refute.specs.Waiting.{nodes_of, first_side}
use Rattle.ice_refute.specs.Passing.{PassesAt}
use Rattle.ice_refute.specs.Code.{step_of, CountsGoods}
use Rattle.ice_refute.specs.declared.step.Step as code
use Rattle.ice_journal.specs.Records.{Record, Version}
use Rattle.ice_journal.specs.declared.line.Change.{Change}
use Rattle.ice_journal_laws.specs.declared.rule.Rule.{Rule}
use Rattle.ice_check_records.specs.declared.log.LogWalk.{LogWalk}
use Rattle.ice_journal_laws.specs.Fields.{step_in}
use Rattle.ice_journal_laws.specs.Stepping.{FailsAt, PassesStep, FailsStep}

-- a walk for these trees and goods, with weights and a start of them
pub record IsWalkOf (ts : List Tree) (exact : List Bool) (log : LogWalk) : Type 0 where
  pub weights : AreWeightsOf ts log.weights
  pub start : log.start ≡ free_side ts
  pub nodes : log.walk.nodes ≡ nodes_of ts
  pub flags : log.desk.room ≡ exact
  pub goods : length log.before ≡ length exact

-- where a log begins: at the side where all nodes are free, but for the root of a bidder that
-- is left out
abbrev pub start_side : Side → Group → Side
start_side free (Without b) = with_mark free b 0 Never
start_side free other = free

-- the root of a bidder that a group leaves out is there, and free
abbrev pub CanStart : Side → Group → Type 0
CanStart free (Without b) = (b < length free) × (0 < length (fixing_of free b)) × (mark_of (fixing_of free b) 0 ≡ Free)
CanStart free other = Unit {0}

-- only the open sides and the multipliers differ
pub record HasSameWalk (old new : LogWalk) : Type 0 where
  pub weights : new.weights ≡ old.weights
  pub start : new.start ≡ old.start
  pub nodes : new.walk.nodes ≡ old.walk.nodes
  pub exact : new.desk.room ≡ old.desk.room

-- the step that a record is, with one multiplier per good in a leaf
abbrev pub IsStepOf : Option code.Step → Version → Multipliers → Record → Type 0
IsStepOf None version m r = step_in version (length m) m r ≡ None
IsStepOf (Some x) version m r = (step_in version (length m) m r ≡ Some (step_of x)) × CountsGoods (length m) (step_of x)

abbrev pub AreChangesInRange : List Change → Type 0
AreChangesInRange changes = AllByRecursion (λ (c : Change). IsInRange c.multiplier) changes

-- a step passes at the first open side of a log, or has this rule's fault there
abbrev pub PassesThere : List Tree → ℤ → LogWalk → Step → Type 0
PassesThere ts target log x = PassesAt ts log.desk.room log.weights target (first_side log.walk.sides) x

abbrev pub FailsThere : List Tree → ℤ → LogWalk → Step → Rule → Type 0
FailsThere ts target log x y = FailsAt ts log.desk.room log.weights target (first_side log.walk.sides) x y

-- a record takes a log on, of a journal of this version and with this target
abbrev pub GoesOn : List Tree → ℤ → Version → LogWalk → Record → LogWalk → Type 0
GoesOn ts target version old r new =
    PassesStep ts old.desk.room old.weights target version old.walk.sides old.before r new.walk.sides new.before

-- or it fails this test first
abbrev pub BreaksOff : List Tree → ℤ → Version → LogWalk → Record → Rule → Type 0
BreaksOff ts target version old r y = FailsStep ts old.desk.room old.weights target version old.walk.sides old.before r y
