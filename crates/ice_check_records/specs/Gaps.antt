-- What a checker of gaps stands for.
use Rattle.std.specs.Prelude.{ℕ, suc, int_lt, if◌then◌else◌, ◌≡◌, Bool, true, false, IsTrue, ◌↔◌, [], ℤ}
use Rattle.std.specs.Prelude.{Option, None, Result, Ok, Err}
use Rattle.ice_defs.specs.declared.Group.{Group}
use Rattle.ice_defs.specs.Exchange.{trees_of, exact_of}
use Rattle.ice_journal.specs.Records.{Record}
use Rattle.ice_journal_laws.specs.declared.answer.Answer.{Answer}
use Rattle.ice_journal_laws.specs.declared.answer.Answer.TheVariants as answer
use Rattle.ice_journal_laws.specs.declared.answer.CheckEnd.{CheckEnd}
use Rattle.ice_journal_laws.specs.declared.rule.Rule.{Rule}
use Rattle.ice_journal_laws.specs.declared.rule.Rule.TheVariants as rule
use Rattle.ice_journal_laws.specs.State.{State}
use Rattle.ice_journal_laws.specs.Checks.{Failure}
use Rattle.ice_journal_laws.specs.Progress.{Progress, passing, failed}
use Rattle.ice_journal_laws.specs.Stepping.{PassesStep, FailsStep}
use Rattle.ice_journal_laws.specs.Tests.{is_valued}
use Rattle.ice_check_offer.specs.declared.fault.Fault.{Fault}
use Rattle.ice_check_offer.specs.declared.fault.Fault.TheVariants.{Here}
use Rattle.ice_gap_laws.specs.declared.answer.GapAnswer.{GapAnswer}
use Rattle.ice_gap_laws.specs.declared.answer.GapAnswer.TheVariants as gap_answer
use Rattle.ice_gap_laws.specs.Gap.{Gap, next_group, with_target}
use Rattle.ice_gap_laws.specs.Gap.{GapProgress, checking, in_group, at_close, ended, no_gap, IsGapAfter}
use Rattle.ice_check_records.specs.declared.gap.Spent.{Spent}
use Rattle.ice_check_records.specs.declared.gap.GapStage.{GapStage}
use Rattle.ice_check_records.specs.declared.gap.GapStage.TheVariants as gap
use Rattle.ice_check_records.specs.declared.groups.Groups.{Groups}
use Rattle.ice_check_records.specs.declared.next.Next.{Next}
use Rattle.ice_check_records.specs.declared.next.Next.TheVariants as next
use Rattle.ice_check_records.specs.declared.stage.Stage.{Stage}
use Rattle.ice_check_records.specs.declared.stage.Stage.TheVariants as stage
use Rattle.ice_check_records.specs.Heads.{version_of_head}
use Rattle.ice_check_records.specs.Logs.{IsWalkOf}
use Rattle.ice_check_records.specs.Groups.{StandsFor, AreKept, IsReady}
use Rattle.ice_check_records.specs.Stages.{IsProgress, IsAtLine}

abbrev pub stated_gap : Spent → Gap
stated_gap spent = record { group = spent.group; value = spent.value; bound = spent.bound }

-- ---- the group whose head comes next

abbrev pub TellsAwaited : Option Group → Progress → Type 0
TellsAwaited found (passing s) = next_group s.kind s.place ≡ found
TellsAwaited found p = found ≡ None

abbrev pub AwaitsGroup : Stage → Option Group → Type 0
AwaitsGroup s found = (n : ℕ) (p : Progress) → IsProgress n s p → TellsAwaited found p

-- ---- the stages

-- the sets or the log of this group come next
abbrev pub IsInGroup : Group → Next → Type 0
IsInGroup group (next.Set other) = other ≡ group
IsInGroup group (next.Step other) = other ≡ group
IsInGroup group other = ⊥

-- they come next in this line, in a state of which this is known
pub record IsInside (line : ℕ) (g : Gap) (groups : Groups) (p : GapProgress) : Type 0 where
  pub state : State
  pub come : p ≡ in_group g (with_target g.bound state)
  pub line_is : state.line ≡ line
  pub stands : StandsFor groups state
  pub next_is : IsInGroup g.group groups.next
  pub valued : is_valued g.group ≡ true

-- at this stage the tests have come so far, where this line is next
abbrev pub IsGapProgress : ℕ → GapStage → GapProgress → Type 0
IsGapProgress line (gap.Before before) p = (q : Progress) × (p ≡ checking q) × IsProgress line before q
IsGapProgress line (gap.Inside groups spent) p = IsInside line (stated_gap spent) groups.value p
IsGapProgress line (gap.Close spent) p = p ≡ at_close (stated_gap spent) line
IsGapProgress line (gap.Ended spent) p = p ≡ ended (stated_gap spent) line
IsGapProgress line (gap.NoGap there) p = p ≡ no_gap there
IsGapProgress line (gap.Failed there test) p = p ≡ checking (failed (record { line = there; rule = test }))

-- a stop is no failed test
abbrev pub is_no_stop : Rule → Bool
is_no_stop rule.Closed = false
is_no_stop other = true

abbrev pub IsOpen : Stage → Type 0
IsOpen (stage.Failed line rule) = is_no_stop rule ≡ true
IsOpen other = Unit {0}

-- what each stage keeps
abbrev pub IsGapKept : ℕ → GapStage → Type 0
IsGapKept line (gap.Before before) = IsAtLine line before × IsOpen before
IsGapKept line (gap.Inside groups spent) = AreKept groups.value × IsReady groups.value groups.value.next
IsGapKept line other = Unit {0}

-- a stop that states no gap
abbrev pub gap_stage : Stage → GapStage
gap_stage (stage.Failed line rule.Closed) = gap.NoGap line
gap_stage s = gap.Before s

-- where the head of a gap's group was read, in this line
abbrev pub opened_stage : ℕ → Spent → Stage → GapStage
opened_stage line spent (stage.Behind groups) = if int_lt spent.value spent.bound then gap.Inside groups spent else gap.NoGap line
opened_stage line spent s = gap_stage s

-- a record takes the tests on, from this line to the next
pub record TakesGapFurther (n : ℕ) (next : GapStage) (p : GapProgress) (r : Record) : Type 0 where
  pub after : GapProgress
  pub leads : IsGapAfter p r after
  pub stands : IsGapProgress (suc n) next after

-- the same in the sets or the log of a gap
abbrev pub LeadsInside : ℕ → Spent → Groups → Record → GapStage → Type 0
LeadsInside n spent groups r next = (p : GapProgress) → IsInside n (stated_gap spent) groups p → TakesGapFurther n next p r

abbrev pub LeadsGapOn : ℕ → GapStage → Record → GapStage → Type 0
LeadsGapOn n s r next = (p : GapProgress) → IsGapProgress n s p → TakesGapFurther n next p r

-- the same from where the tests have come to no stop
abbrev pub LeadsFrom : ℕ → Stage → Record → GapStage → Type 0
LeadsFrom n s r next = (p : Progress) → IsProgress n s p → TakesGapFurther n next (checking p) r

-- ---- the log of a gap

-- a record is a step that passes with this target, or it fails this test first
pub record WalksOn (target : ℤ) (g : Groups) (r : Record) (closed : Bool) (after : Groups) : Type 0 where
  pub same : after ≡ record g { log = after.log }
  pub walk : IsWalkOf (trees_of g.stated.exchange) (exact_of g.stated.exchange) after.log
  pub weights : after.log.weights ≡ g.log.weights
  pub closed_is : IsTrue closed ↔ (after.log.walk.sides ≡ [])
  pub passes : PassesStep (trees_of g.stated.exchange) (exact_of g.stated.exchange) g.log.weights target (version_of_head g.head)
      g.log.walk.sides g.log.before r after.log.walk.sides after.log.before

abbrev pub StopsAt : ℤ → Groups → Record → Fault → Type 0
StopsAt target g r fault = (y : Rule) × (fault ≡ Here y)
    × FailsStep (trees_of g.stated.exchange) (exact_of g.stated.exchange) g.log.weights target (version_of_head g.head)
    g.log.walk.sides g.log.before r y

abbrev pub TakesAimed : ℤ → Groups → Record → Result Bool Fault → Groups → Type 0
TakesAimed target g r (Ok closed) after = WalksOn target g r closed after
TakesAimed target g r (Err fault) after = StopsAt target g r fault

-- the stage of the first failed test
abbrev pub failed_gap : Failure → GapStage
failed_gap failure = gap.Failed failure.line failure.rule

-- what is found where the tests of `check` find this, with no stop
abbrev pub gapless_answer : ℕ → Result Answer CheckEnd → Result GapAnswer CheckEnd
gapless_answer line (Ok (answer.No there test)) = Ok (gap_answer.No there test)
gapless_answer line (Ok other) = Ok (gap_answer.NoGap line)
gapless_answer line (Err end) = Err end
