-- What a record makes of a journal behind its exchange.
use Rattle.std.specs.Prelude.{ℕ, suc, ◌-◌, ◌≡◌, ◌≢◌, ◌==◌, Bool, if◌then◌else◌, IsTrue, [], ◌∷◌, length, ℤ}
use Rattle.std.specs.Prelude.{Option, Some, None, Result, Ok, Err}
use Rattle.ice_defs.specs.declared.Group.{Group}
use Rattle.ice_defs.specs.declared.Group.TheVariants.{Assign, Final, Provisional, Without}
use Rattle.ice_defs.specs.Exchange.{Exchange, trees_of, exact_of}
use Rattle.ice_defs.specs.Group.{start_of}
use Rattle.ice_defs.specs.Trade.{total_value}
use Rattle.ice_journal.specs.Plain.{all_zero}
use Rattle.ice_journal.specs.Records.{Record}
use Rattle.ice_journal_laws.specs.declared.answer.Answer.{Answer}
use Rattle.ice_journal_laws.specs.declared.rule.Rule.{Rule}
use Rattle.ice_journal_laws.specs.declared.rule.Rule.TheVariants as rule
use Rattle.ice_journal_laws.specs.State.{done, State}
use Rattle.ice_journal_laws.specs.Next.{to_line, go_to, after_log, after_step}
use Rattle.ice_journal_laws.specs.Tests.{is_valued}
use Rattle.ice_journal_laws.specs.Checks.{Failure}
use Rattle.ice_journal_laws.specs.Assigning.{exchange_state, AreBalanced, AreShort}
use Rattle.ice_journal_laws.specs.Progress.{passing, failed, TakesOn}
use Rattle.ice_journal_laws.specs.Answers.{EndsWith}
use Rattle.ice_check_charge.specs.Charging.{paid}
use Rattle.ice_check_offer.specs.declared.fault.Fault.{Fault}
use Rattle.ice_check_offer.specs.declared.fault.Fault.TheVariants.{Here, List as OfList}
use Rattle.ice_check_records.specs.declared.head.Head.{Head}
use Rattle.ice_check_records.specs.declared.head.Head.TheVariants.{Session}
use Rattle.ice_check_records.specs.declared.next.Next.{Next}
use Rattle.ice_check_records.specs.declared.next.Next.TheVariants as next
use Rattle.ice_check_records.specs.declared.opening.Opening.{Opening}
use Rattle.ice_check_records.specs.declared.groups.Groups.{Groups}
use Rattle.ice_check_records.specs.Heads.{version_of_head, kind_of_head}
use Rattle.ice_check_records.specs.Openings.{opened_place}
use Rattle.ice_check_records.specs.Logs.{IsWalkOf}
use Rattle.ice_check_records.specs.Groups.{at_hand, known_in, IsOffering, StandsFor, weights_for, AreKept, IsReady}

-- ---- a record passes or fails

-- the record passes, and all that is then known of the state holds
pub record Goes (s : State) (r : Record) (after : Groups) : Type 0 where
  pub state : State
  pub passes : TakesOn s r (passing state)
  pub line : state.line ≡ suc s.line
  pub stands : StandsFor after state

-- a fault at this line; that of a list of rows is at the line before
abbrev pub failure_at : ℕ → Fault → Failure
failure_at line (Here rule) = record { line = line; rule = rule }
failure_at line (OfList rule) = record { line = line - 1; rule = rule }

-- in each state of which this is known it passes, and what comes next is ready
pub record IsTaken (now : Next) (g : Groups) (r : Record) (after : Groups) : Type 0 where
  pub goes : (s : State) → IsOffering g now (known_in g now s) → Goes (known_in g now s) r after
  pub kept : AreKept after
  pub ready : IsReady after after.next

-- in each it fails this test first
abbrev pub Fails : Next → Groups → Record → Fault → Type 0
Fails now g r fault = (s : State) → IsOffering g now (known_in g now s) → TakesOn (known_in g now s) r (failed (failure_at s.line fault))

abbrev pub Takes : Next → Groups → Record → Result (Unit {0}) Fault → Groups → Type 0
Takes now g r (Ok unit) after = IsTaken now g r after
Takes now g r (Err fault) after = Fails now g r fault

-- ---- what comes next

abbrev pub behind_without : ℕ → ℕ → Next
behind_without bidders b = if suc b == bidders then next.Threshold else next.Head (Without (suc b))

-- behind the regret a session closes or goes on
abbrev pub behind_regret : Head → Bool → Next
behind_regret (Session version) closes = if closes then next.Head (Without 0) else next.Head Provisional
behind_regret other closes = next.End

abbrev pub behind_payment : ℕ → ℕ → Next
behind_payment bidders b = if suc b == bidders then next.End else next.Payment (suc b)

abbrev pub moved_on : Groups → Groups
moved_on g = record g { number = suc g.number; next = next.Head Final }

-- the payment of this bidder passes, or fails this test first
abbrev pub Pays : ℕ → Groups → Record → Result (Unit {0}) Rule → Type 0
Pays b g r (Ok unit) = (s : State) → TakesOn (known_in g (next.Payment b) s) r (passing (paid (known_in g (next.Payment b) s) b))
Pays b g r (Err rule) = Fails (next.Payment b) g r (Here rule)

-- what stands behind the exchange begins
pub record Begins (h : Head) (ex : Exchange) (opening : Opening) (g : Groups) : Type 0 where
  pub kept : AreKept g
  pub ready : IsReady g g.next
  pub stands : (n : ℕ) → StandsFor g (go_to (opened_place opening) (exchange_state (version_of_head h) (kind_of_head h) n ex))

-- ---- groups

-- a group begins with this value: its sets come, at its weights
pub record HasOpened (group : Group) (value : ℤ) (g after : Groups) : Type 0 where
  pub same : after ≡ record g { next = next.Set group; value = value; log = after.log }
  pub weights : after.log.weights ≡ weights_for g group
  pub walk : IsWalkOf (trees_of g.stated.exchange) (exact_of g.stated.exchange) after.log

-- the sets of a group are all there, and its log begins
pub record HasBegun (group : Group) (g after : Groups) : Type 0 where
  pub valued : total_value g.stated.sets (weights_for g group) ≡ g.value
  pub same : after ≡ record g { next = next.Step group; log = after.log }
  pub sides : after.log.walk.sides ≡ start_of (trees_of g.stated.exchange) group ∷ []
  pub before : after.log.before ≡ all_zero (length (exact_of g.stated.exchange))
  pub weights : after.log.weights ≡ g.log.weights
  pub walk : IsWalkOf (trees_of g.stated.exchange) (exact_of g.stated.exchange) after.log

-- the final group is complete: its sets are kept, and this is next
abbrev pub with_final : Next → Groups → Groups
with_final now g =
    record g { next = now; stated = record { exchange = g.stated.exchange; sets = [] }; final_sets = g.stated.sets; final_value = g.value }

pub record HasKeptFinal (now : Next) (g after : Groups) : Type 0 where
  pub same : after ≡ with_final now g
  pub kept : AreKept after

-- the sets of a group are all there and balanced: those of an assignment are the final ones, and
-- a log follows any others
abbrev pub FollowsSets : Group → Groups → Groups → Type 0
FollowsSets Assign g after = HasKeptFinal next.End g after
FollowsSets group g after = HasBegun group g after

-- or they are short of a good, or have another value
pub data FailsAsWhole (group : Group) (g : Groups) : Fault → Type 0 where
  are_short : AreShort g.stated.exchange g.stated.sets → FailsAsWhole group g (Here rule.Excess)
  are_misvalued : AreBalanced g.stated.exchange g.stated.sets → IsTrue (is_valued group)
      → total_value g.stated.sets (weights_for g group) ≢ g.value → FailsAsWhole group g (Here rule.Value)

abbrev pub Closes : Group → Groups → Result (Unit {0}) Fault → Groups → Type 0
Closes group g (Ok unit) after = AreBalanced g.stated.exchange g.stated.sets × FollowsSets group g after
Closes group g (Err fault) after = FailsAsWhole group g fault

-- the sets have the value that the group states, and its log begins; or they have another
abbrev pub LogFollows : Group → Groups → Result (Unit {0}) Fault → Groups → Type 0
LogFollows group g (Ok unit) after = HasBegun group g after
LogFollows group g (Err y) after = (y ≡ Here rule.Value) × (total_value g.stated.sets (weights_for g group) ≢ g.value)

-- what is known behind a complete group, or behind a step of its log, in whichever line
pub record HasLeft (now : State → State) (group : Group) (g after : Groups) : Type 0 where
  pub stands : (n : ℕ) (s : State) → StandsFor after (to_line n (now (known_in g (next.Step group) s)))
  pub kept : AreKept after
  pub ready : IsReady after after.next

abbrev pub LeavesGroup : Group → Groups → Groups → Type 0
LeavesGroup group g after = HasLeft (λ s. after_log s group (at_hand g)) group g after

abbrev pub LeavesStep : Group → Groups → Groups → Type 0
LeavesStep group g after = HasLeft (λ s. after_step s group (at_hand g) g.log.walk.sides g.log.before) group g after

-- ---- the answer

-- what is answered where the journal ends here
abbrev pub AnswersHere : Groups → Answer → Type 0
AnswersHere g answer = (s : State) → EndsWith (passing (known_in g next.Nothing s)) (Ok answer)

-- the journal has ended, and this is answered; or it has not
abbrev pub IsAnswer : Groups → Option Answer → Type 0
IsAnswer g None = (s : State) → StandsFor g s → s.place ≢ done
IsAnswer g (Some answer) = (s : State) → StandsFor g s → EndsWith (passing s) (Ok answer)
