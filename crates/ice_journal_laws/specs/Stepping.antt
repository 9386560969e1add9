-- What a record makes of the open sides of a log.
use Rattle.std.specs.Prelude.{◌≡◌, Bool, List, length, ℤ, Any, IsSomeAnd, Some, None}
use Rattle.ice_defs.specs.Tree.{Tree}
use Rattle.ice_defs.specs.Set.{Weights}
use Rattle.ice_defs.specs.Bound.{Multipliers}
use Rattle.ice_defs.specs.Steps.{Step, Side, sides_after}
use Rattle.ice_refute.specs.Waiting.{first_side}
use Rattle.ice_refute.specs.Passing.{PassesAt, HasFault}
use Rattle.ice_refute.specs.declared.fault.StepFault.{StepFault}
use Rattle.ice_refute.specs.declared.fault.StepFault.TheVariants as fault
use Rattle.ice_journal.specs.Records.{Record, Version}
use Rattle.ice_journal_laws.specs.declared.rule.Rule.{Rule}
use Rattle.ice_journal_laws.specs.declared.rule.Rule.TheVariants as rule
use Rattle.ice_journal_laws.specs.Fields.{step_in, changes_in, multipliers_after}
use Rattle.ice_journal_laws.specs.Tests.{IsNoChange}

-- the rule of a step's fault
abbrev pub rule_of_fault : StepFault → Rule
rule_of_fault fault.Fixed = rule.Fixed
rule_of_fault fault.Sign = rule.Sign
rule_of_fault (fault.Above v) = rule.Above
rule_of_fault fault.NotDead = rule.Alive

-- a change names a good that isn't there, or the number that the good has
abbrev pub IsMisstating : Version → Multipliers → Record → Type 0
IsMisstating version m r = IsSomeAnd (changes_in version r) (Any (IsNoChange (length m) m))

-- the rule of the fault that a step has at its side
pub record FailsAt (ts : List Tree) (exact : List Bool) (ws : List Weights) (target : ℤ) (side : Side) (x : Step) (y : Rule) : Type 0 where
  pub why : StepFault
  pub fault : HasFault ts exact ws target side x why
  pub rule_is : y ≡ rule_of_fault why

module _ (ts : List Tree) (exact : List Bool) (ws : List Weights) (target : ℤ) (version : Version) where
  -- a record is a step that passes, with these sides open and these multipliers in the leaf before
  -- it
  pub record PassesStep (sides : List Side) (m : Multipliers) (r : Record) (sides_then : List Side) (m_then : Multipliers) : Type 0 where
    pub step : Step
    pub stated : step_in version (length m) m r ≡ Some step
    pub near : ¬ IsMisstating version m r
    pub passes : PassesAt ts exact ws target (first_side sides) step
    pub sides_are : sides_then ≡ sides_after sides step
    pub multipliers_are : m_then ≡ multipliers_after m step

  -- a record is no step, or one that fails this test first
  pub data FailsStep (sides : List Side) (m : Multipliers) (r : Record) : Rule → Type 0 where
    no_step : step_in version (length m) m r ≡ None → FailsStep sides m r rule.Order
    is_misstated : {x : Step} → step_in version (length m) m r ≡ Some x → IsMisstating version m r → FailsStep sides m r rule.Near
    has_fault : {x : Step} (why : StepFault) → step_in version (length m) m r ≡ Some x → ¬ IsMisstating version m r
        → HasFault ts exact ws target (first_side sides) x why → FailsStep sides m r (rule_of_fault why)
