-- What the stages of the checker stand for.
use Rattle.std.specs.Prelude.{ℕ, suc, ◌≡◌, Bool, true, false, Option, Some, None, Result, Ok, Err}
use Rattle.ice_journal.specs.Records.{Record}
use Rattle.ice_check_records.specs.declared.stage.Stage.{Stage}
use Rattle.ice_check_records.specs.declared.stage.Stage.TheVariants as stage
use Rattle.ice_check_records.specs.declared.halt.Halt.{Halt}
use Rattle.ice_check_records.specs.declared.halt.Halt.TheVariants as halt
use Rattle.ice_journal_laws.specs.declared.rule.Rule.TheVariants as rule
use Rattle.ice_section.specs.declared.faults.SectionFault.{SectionFault}
use Rattle.ice_section.specs.declared.faults.SectionFault.TheVariants as fault
use Rattle.ice_journal_laws.specs.State.{State}
use Rattle.ice_journal_laws.specs.Checks.{Failure}
use Rattle.ice_check_offer.specs.declared.fault.Fault.TheVariants.{Here}
use Rattle.ice_journal_laws.specs.Progress.{Progress, nothing, other_kind, passing, failed, out_of_memory, IsAfter}
use Rattle.ice_journal_laws.specs.Assigning.{section_state}
use Rattle.ice_check_records.specs.Stating.{HasSettings}
use Rattle.ice_check_records.specs.Heads.{version_of_head, kind_of_head}
use Rattle.ice_check_records.specs.Groups.{StandsFor, AreKept, IsReady}
use Rattle.ice_check_records.specs.Taking.{failure_at}
use Rattle.ice_trade.specs.Fault.{make_fault_number}

-- at this stage the tests have come so far, where this line is next
abbrev pub IsProgress : ℕ → Stage → Progress → Type 0
IsProgress line stage.Begin p = p ≡ nothing
IsProgress line stage.OtherKind p = p ≡ other_kind
IsProgress line (stage.Describing head section) p =
    p ≡ passing (section_state (version_of_head head) (kind_of_head head) line section.value)
IsProgress line (stage.Behind groups) p = (s : State) × (p ≡ passing s) × (s.line ≡ line) × StandsFor groups.value s
IsProgress line (stage.Failed number rule) p = p ≡ failed (record { line = number; rule = rule })
IsProgress line stage.OutOfMemory p = p ≡ out_of_memory

-- the first line is next where none is read
abbrev pub IsNumber : ℕ → Stage → Type 0
IsNumber line stage.Begin = line ≡ 1
IsNumber line other = Unit {0}

-- what each stage keeps
abbrev pub IsKept : Stage → Type 0
IsKept (stage.Describing head section) = HasSettings section.value
IsKept (stage.Behind groups) = AreKept groups.value × IsReady groups.value groups.value.next
IsKept other = Unit {0}

abbrev pub IsAtLine : ℕ → Stage → Type 0
IsAtLine line s = IsNumber line s × IsKept s

-- the exchange and the record after it are read, or no record matters any more
abbrev pub is_ready_stage : Stage → Bool
is_ready_stage stage.Begin = false
is_ready_stage stage.OtherKind = true
is_ready_stage (stage.Describing head section) = false
is_ready_stage (stage.Behind groups) = true
is_ready_stage (stage.Failed number rule) = true
is_ready_stage stage.OutOfMemory = false

-- a record takes the tests on, from this line to the next
pub record TakesFurther (n : ℕ) (next : Stage) (p : Progress) (r : Record) : Type 0 where
  pub after : Progress
  pub leads : IsAfter p r after
  pub stands : IsProgress (suc n) next after

-- a record leads from one stage to the next, whichever line it stands in
pub record LeadsTo (s : Stage) (r : Record) (next : Stage) : Type 0 where
  pub after : (n : ℕ) (p : Progress) → IsNumber n s → IsProgress n s p → TakesFurther n next p r
  pub number : (n : ℕ) → IsNumber (suc n) next
  pub kept : IsKept next

-- it fails this test first, whichever line it stands in; want of memory is free
abbrev pub Halts : (ℕ → Progress → Type 0) → Record → Halt → Type 0
Halts At r (halt.Fails fault) = (n : ℕ) (p : Progress) → At n p → IsAfter p r (failed (failure_at n fault))
Halts At r halt.NoMemory = Unit {0}

abbrev pub LeadsOn : Stage → Record → Result Stage Halt → Type 0
LeadsOn s r (Ok next) = LeadsTo s r next
LeadsOn s r (Err why) = Halts (λ n p. IsProgress n s p) r why

-- the stage of the first failed test
abbrev pub failed_stage : Failure → Stage
failed_stage failure = stage.Failed failure.line failure.rule

-- want of memory alone has no number
abbrev pub numbered_halt : Option ℕ → Halt
numbered_halt (Some number) = halt.Fails (Here rule.Exchange)
numbered_halt None = halt.NoMemory

-- why the tests don't go on where the section refuses a record
abbrev pub section_halt : SectionFault → Halt
section_halt fault.Order = halt.Fails (Here rule.Order)
section_halt fault.Count = halt.Fails (Here rule.Exchange)
section_halt fault.NoGood = halt.Fails (Here rule.Exchange)
section_halt (fault.Tree refusal) = halt.Fails (Here rule.Exchange)
section_halt (fault.Make refusal) = numbered_halt (make_fault_number refusal)
section_halt fault.NoMemory = halt.NoMemory
