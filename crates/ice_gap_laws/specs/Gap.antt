-- A journal that stops at a search that spent its branches: how far the tests have come, where
-- they go on behind the `spent` record. Its sets and its log are tested as those of the group in
-- whose place it stands, but for the target of the log, which is the stated bound.
use Rattle.std.specs.Prelude.{ℕ, suc, ◌<◌, Bool, true, false, if◌then◌else◌, int_lt, ◌≡◌, List, [], ◌∷◌, ℤ, Option, Some, None, option_map}
use Rattle.ice_defs.specs.declared.Group.{Group}
use Rattle.ice_defs.specs.declared.Group.TheVariants.{Assign, Final, Without}
use Rattle.ice_journal.specs.Records.{Record, Kind, regret_kind, spent_end}
use Rattle.ice_journal.specs.Records as line
use Rattle.ice_journal_laws.specs.declared.rule.Rule.{Rule}
use Rattle.ice_journal_laws.specs.declared.rule.Rule.TheVariants as rule
use Rattle.ice_journal_laws.specs.Fields.{is_end}
use Rattle.ice_journal_laws.specs.State.{Place, at_section, at_group, at_sets, at_log, State}
use Rattle.ice_journal_laws.specs.Next.{go_to, to_line, past_section}
use Rattle.ice_journal_laws.specs.Progress.{Progress, passing, failed, TakesOn, IsAfter}

-- what a `spent` record says, and the group in whose place it stands
pub record Gap : Type 0 where
  pub group : Group
  pub value : ℤ
  pub bound : ℤ

-- the group whose head may stand here; the first one of a regret journal comes behind its exchange,
-- and the sets of an assignment have no head
abbrev pub next_group : Kind → Place → Option Group
next_group kind (at_group Assign) = None
next_group kind (at_group g) = Some g
next_group regret_kind at_section = Some Final
next_group kind place = None

abbrev pub gap_in : State → Record → Option Gap
gap_in s (line.spent value bound) = option_map (λ g. record { group = g; value = value; bound = bound }) (next_group s.kind s.place)
gap_in s other = None

-- a record states no gap there
abbrev pub StatesNone : Progress → Record → Type 0
StatesNone (passing s) r = gap_in s r ≡ None
StatesNone p r = Unit {0}

-- a group that leaves out a bidder leaves out one of so many
abbrev pub IsThere : ℕ → Group → Type 0
IsThere bidders (Without b) = b < bidders
IsThere bidders other = Unit {0}

-- the state in which that head is awaited
abbrev pub before_head : Place → State → State
before_head at_section s = past_section s
before_head place s = s

-- the sets of the group come next, as behind its head with this value
abbrev pub at_gap_sets : Gap → State → State
at_gap_sets gap s = to_line (suc s.line) (go_to (at_sets gap.group (record { value = gap.value; sets = [] })) (before_head s.place s))

-- the target of a log is this
abbrev pub aimed_place : ℤ → Place → Place
aimed_place target (at_log g found sides m) = at_log g (record found { value = target }) sides m
aimed_place target place = place

abbrev pub with_target : ℤ → State → State
with_target target s = go_to (aimed_place target s.place) s

-- in the sets or in the log of a group
abbrev pub is_in_group : Place → Bool
is_in_group (at_sets g found) = true
is_in_group (at_log g found sides m) = true
is_in_group place = false

-- before the stop the tests have come as far as those of `check`, and so behind the first failed
-- test; then come the sets and the log of the gap, then its end in this line, and nothing behind
-- that; or no gap is stated in this line
pub data GapProgress : Type 0 where
  checking : Progress → GapProgress
  in_group : Gap → State → GapProgress
  at_close : Gap → (line : ℕ) → GapProgress
  ended : Gap → (line : ℕ) → GapProgress
  no_gap : (line : ℕ) → GapProgress

abbrev pub is_closed : Rule → Bool
is_closed rule.Closed = true
is_closed other = false

-- a stop: it states a gap or none
abbrev pub from_stop : State → Option Gap → GapProgress
from_stop s None = no_gap s.line
from_stop s (Some gap) = if int_lt gap.value gap.bound then in_group gap (at_gap_sets gap s) else no_gap s.line

-- what `check` makes of a record, but at a stop
abbrev pub unless_stopped : Progress → Record → Progress → GapProgress
unless_stopped (passing s) r (failed failure) = if is_closed failure.rule then from_stop s (gap_in s r) else checking (failed failure)
unless_stopped p r q = checking q

-- what the tests of the group make of a record; behind its last step the gap is to end
abbrev pub in_its_group : Gap → Progress → GapProgress
in_its_group gap (passing s) = if is_in_group s.place then in_group gap (with_target gap.bound s) else at_close gap s.line
in_its_group gap q = checking q

abbrev pub out_of_order : ℕ → GapProgress
out_of_order line = checking (failed (record { line = line; rule = rule.Order }))

-- what the next record makes of it
abbrev pub IsGapAfter : GapProgress → Record → GapProgress → Type 0
IsGapAfter (checking p) r after = (q : Progress) × IsAfter p r q × (after ≡ unless_stopped p r q)
IsGapAfter (in_group gap s) r after = (q : Progress) × TakesOn s r q × (after ≡ in_its_group gap q)
IsGapAfter (at_close gap line) r after = after ≡ (if is_end spent_end r then ended gap (suc line) else out_of_order line)
IsGapAfter (ended gap line) r after = after ≡ out_of_order line
IsGapAfter (no_gap line) r after = after ≡ no_gap line

-- these records lead from one to the other
pub data GapLeads : GapProgress → List Record → GapProgress → Type 0 where
  stays : {p : GapProgress} → GapLeads p [] p
  goes : {p q end : GapProgress} {r : Record} {rest : List Record} → IsGapAfter p r q → GapLeads q rest end → GapLeads p (r ∷ rest) end
