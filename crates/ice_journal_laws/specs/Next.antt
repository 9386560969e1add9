-- The order of records: what a record makes of the state, and nothing where it may not stand there.
use Rattle.std.specs.Prelude.{ℕ, suc, ◌+◌, ◌-◌, ◌==◌, nat_lt, Bool, if◌then◌else◌, List, [], ◌∷◌, ◌++◌, length, ℤ, pos, Option, Some, None}
use Rattle.std.specs.Prelude.{option_map, option_and_then, Result, Ok, Err}
use Rattle.std.specs.Str.{bytes_eq}
use Rattle.ice_defs.specs.Set.{NodeSet}
use Rattle.ice_defs.specs.Bound.{Multipliers}
use Rattle.ice_defs.specs.Steps.{Step, branch, leaf, dead, Side, sides_after}
use Rattle.ice_defs.specs.Rows.{Row}
use Rattle.ice_defs.specs.Round.{Submission, next_bounds}
use Rattle.ice_defs.specs.Exchange.{opening_bounds, names_of}
use Rattle.std.specs.Prelude.{slice_index_or}
use Rattle.ice_journal.specs.Records.{Record, Kind, assign_kind, regret_kind, session_kind, exchange_kind, prices_kind, EndWord, assign_end}
use Rattle.ice_journal.specs.Records.{regret_end, closed_end, spent_end, limit_end}
use Rattle.ice_journal.specs.Plain.{all_zero}
use Rattle.ice_section.specs.Section.{Section, SectionFault, order, count, no_good, maker, take_record, may_end}
use Rattle.ice_defs.specs.declared.Group.{Group}
use Rattle.ice_defs.specs.declared.Group.TheVariants.{Assign, Final, Rival, Provisional, Without}
use Rattle.ice_defs.specs.Group.{start_of}
use Rattle.ice_journal_laws.specs.Fields.{head_value, set_in, is_assign, settlement_in, is_spent, step_in, multipliers_after, amount_in}
use Rattle.ice_journal_laws.specs.Fields.{prices_in, is_limit, is_pool, accuracy_in, balance_in, row_in, submission_in, verdict_in}
use Rattle.ice_journal_laws.specs.Fields.{threshold_in, payment_in, is_end, is_round_stop}
use Rattle.ice_defs.specs.Session.{closes, standings}
use Rattle.ice_journal_laws.specs.State.{Stated, Place, at_section, at_group, at_sets, at_log, at_regret, at_prices, at_accuracy}
use Rattle.ice_journal_laws.specs.State.{at_accuracy_rows, at_balance_rows, at_round, at_verdict, at_threshold, at_payment, at_spent_sets}
use Rattle.ice_journal_laws.specs.State.{at_spent_log, at_pool, at_end, done, State, exchange_at, settings_at, trees_at, goods_at}

-- the state at another place
abbrev pub go_to : Place → State → State
go_to place s = record s { place = place }

-- the number of bidders
abbrev pub bidder_count : State → ℕ
bidder_count s = length (trees_at s)

-- a thing where the test is true, and else nothing
abbrev pub if_true : {X : Type 0} → Bool → X → Option X
if_true {X} test x = if test then Some x else None

-- one more row may stand in a list: it has at most 200
abbrev pub may_have_row : List Row → Bool
may_have_row rows = nat_lt (length rows) 200

-- ---- groups

-- the sets of a group follow its head; in the place of the head a stop may stand
abbrev pub from_head : State → Group → Record → Option ℤ → Option State
from_head s g r (Some value) = Some (go_to (at_sets g (record { value = value; sets = [] })) s)
from_head s g r None = if_true (is_spent r) (go_to (at_spent_sets 0) s)

-- the record that stands where the head of a group is due
abbrev pub from_group : State → Group → Record → Option State
from_group s g r = from_head s g r (head_value g r)

-- the sets of a group are all there: its log follows, and in an assign journal the end
abbrev pub after_sets : State → Group → Stated → State
after_sets s Assign found = go_to (at_end assign_end) (record s { final = found })
after_sets s Final found = go_to (at_log Final found (start_of (trees_at s) Final ∷ []) (all_zero (goods_at s))) s
after_sets s Rival found = go_to (at_log Rival found (start_of (trees_at s) Rival ∷ []) (all_zero (goods_at s))) s
after_sets s Provisional found = go_to (at_log Provisional found (start_of (trees_at s) Provisional ∷ []) (all_zero (goods_at s))) s
after_sets s (Without b) found = go_to (at_log (Without b) found (start_of (trees_at s) (Without b) ∷ []) (all_zero (goods_at s))) s

-- one more set of a group
abbrev pub with_set : Stated → NodeSet → Stated
with_set found x = record { value = found.value; sets = found.sets ++ x ∷ [] }

-- the record that stands where a set of a group is due
abbrev pub from_sets : State → Group → Stated → Record → Option State
from_sets s g found r =
    option_map (λ x. if suc (length found.sets) == bidder_count s then after_sets s g (with_set found x)
    else go_to (at_sets g (with_set found x)) s) (set_in r)

-- a group is complete: what the tests look back at is kept of it, and this is due next
abbrev pub after_log : State → Group → Stated → State
after_log s Assign found = s
after_log s Final found = go_to (at_group Rival) (record s { final = found })
after_log s Rival found = go_to at_regret (record s { rival = found.value })
after_log s Provisional found = go_to at_prices (record s { offered = found.sets })
after_log s (Without b) found =
    go_to (if suc b == bidder_count s then at_threshold else at_group (Without (suc b)))
    (record s { withouts = s.withouts ++ found.value ∷ [] })

-- a step follows while sides are open, and else the group is complete
abbrev pub after_step : State → Group → Stated → List Side → Multipliers → State
after_step s g found [] m = after_log s g found
after_step s g found (side ∷ open_sides) m = go_to (at_log g found (side ∷ open_sides) m) s

-- the record that stands where a step of a log is due
abbrev pub from_log : State → Group → Stated → List Side → Multipliers → Record → Option State
from_log s g found open_sides m r =
    option_map (λ x. after_step s g found (sides_after open_sides x) (multipliers_after m x)) (step_in s.version (goods_at s) m r)

-- ---- settlements

-- the close test decides how a session goes on after a regret; a regret journal ends
abbrev pub after_regret : State → Kind → State
after_regret s session_kind = go_to (if closes (settings_at s) s.number s.regret then at_group (Without 0) else at_group Provisional) s
after_regret s other = go_to (at_end regret_end) s

-- the record that stands where the regret is due
abbrev pub from_regret : State → Record → Option State
from_regret s r = option_map (λ amount. after_regret (record s { regret = amount }) s.kind) (amount_in r)

-- the state that follows, and where none does the stop's, if the record is one
abbrev pub or_stop : Bool → State → Option State → Option State
or_stop is_stop stopped (Some s) = Some s
or_stop is_stop stopped None = if_true is_stop stopped

-- the record that stands where prices are due, or the limit in their place
abbrev pub from_prices : State → Record → Option State
from_prices s r =
    or_stop (is_limit r) (go_to at_pool s) (option_map (λ p. go_to at_accuracy (record s { prices = p })) (prices_in (goods_at s) r))

-- the record that stands where the violation is due
abbrev pub from_accuracy : State → Record → Option State
from_accuracy s r = option_map (λ a. go_to (at_accuracy_rows a.den []) (record s { violation = a.violation })) (accuracy_in r)

-- a `balance` record ends the rows of accuracy
abbrev pub to_balance : State → Record → Option State
to_balance s r = option_map (λ den. go_to (at_balance_rows den []) s) (balance_in r)

-- the state that follows, and where none does the one with one more row, if the record is one
abbrev pub with_row : List Row → (List Row → Place) → State → Record → Option State → Option State
with_row rows place s r (Some after) = Some after
with_row rows place s r None = option_and_then (λ row. if_true (may_have_row rows) (go_to (place (rows ++ row ∷ [])) s)) (row_in r)

-- the record that stands after the rows of accuracy so far: `balance` or one more row
abbrev pub from_accuracy_rows : State → ℕ → List Row → Record → Option State
from_accuracy_rows s den rows r = with_row rows (at_accuracy_rows den) s r (to_balance s r)

-- the next settlement, with the bounds that the round leaves
abbrev pub next_settlement : State → State
next_settlement s = go_to (at_group Final)
    (record s {
      number = suc s.number;
      bounds = next_bounds (standings (exchange_at s) s.bounds s.offered) s.judged;
      judged = [];
      withouts = [];
    })

-- a `settle` record of the next number ends the round
abbrev pub to_settlement : State → Record → Option State
to_settlement s r = option_and_then (λ number. if_true (number == suc s.number) (next_settlement s)) (settlement_in r)

-- a submission, or the next settlement
abbrev pub from_round : State → Record → Option State
from_round s r = submitted (submission_in r)
  where
    submitted : Option Submission → Option State
    submitted (Some x) = Some (go_to (at_verdict x) s)
    submitted None = to_settlement s r

-- the record that stands where the verdict on a submission is due
abbrev pub from_verdict : State → Submission → Record → Option State
from_verdict s x r =
    option_map (λ v. go_to at_round (record s { judged = s.judged ++ record { submission = x; verdict = v } ∷ [] })) (verdict_in r)

-- the record that stands after the rows of balance so far: one more row, the first record of the
-- round, the next settlement, or a stop for want of a round file
abbrev pub from_balance_rows : State → ℕ → List Row → Record → Option State
from_balance_rows s den rows r =
    or_stop (is_round_stop (s.number + 2) r) (go_to done s) (with_row rows (at_balance_rows den) s r (from_round s r))

-- ---- the closing

-- the record that stands where the cut and the surplus are due
abbrev pub from_threshold : State → Record → Option State
from_threshold s r = option_map (λ c. go_to (at_payment 0) (record s { cut = c.cut; surplus = c.surplus })) (threshold_in r)

-- the record that stands where the payment of bidder b is due, under its name
abbrev pub from_payment : State → ℕ → Record → Option State
from_payment s b r =
    option_and_then (λ p. if_true (bytes_eq p.name (slice_index_or (names_of (exchange_at s)) b []))
    (go_to (if suc b == bidder_count s then at_end closed_end else at_payment (suc b)) s)) (payment_in r)

-- the record that stands where `end` is due with this word
abbrev pub from_end : State → EndWord → Record → Option State
from_end s word r = if_true (is_end word r) (go_to done s)

-- ---- stops

-- the record that stands where a set of a spent search is due
abbrev pub from_spent_sets : State → ℕ → Record → Option State
from_spent_sets s taken r =
    option_map (λ x. go_to (if suc taken == bidder_count s then at_spent_log 1 else at_spent_sets (suc taken)) s) (set_in r)

-- how many sides are open after a step
abbrev pub open_after : Step → ℕ → ℕ
open_after (branch b n) open_sides = suc open_sides
open_after (leaf m) open_sides = open_sides - 1
open_after (dead b) open_sides = open_sides - 1

-- the record that stands where a step of a spent search is due
abbrev pub from_spent_log : State → ℕ → Record → Option State
from_spent_log s open_sides r =
    option_map (λ x. go_to (if open_after x open_sides == 0 then at_end spent_end else at_spent_log (open_after x open_sides)) s)
    (step_in s.version (goods_at s) (all_zero (goods_at s)) r)

-- the record that stands after the pool so far: one more set, or the end
abbrev pub from_pool : State → Record → Option State
from_pool s r = if is_pool r then Some s else from_end s limit_end r

-- ---- the section of the exchange, and what comes after it

-- the first record behind the section of the exchange, by the kind of the journal
abbrev pub after_section : State → Kind → Record → Option State
after_section s assign_kind r = if_true (is_assign r) (go_to (at_sets Assign (record { value = pos 0; sets = [] })) s)
after_section s regret_kind r = from_group s Final r
after_section s session_kind r = option_and_then (λ number. if_true (number == 0) (go_to (at_group Final) s)) (settlement_in r)
after_section s exchange_kind r = None
after_section s prices_kind r = None

-- the section of the exchange is complete: its bounds are those of settlement 0
abbrev pub past_section : State → State
past_section s = record s { bounds = opening_bounds (exchange_at s) }

-- the record that stands in the section of the exchange or ends it; where a maker refuses, the
-- order is not at fault
abbrev pub from_section : State → Record → Result Section SectionFault → Option State
from_section s r (Ok section) = Some (record s { section = section })
from_section s r (Err order) = if may_end s.section then after_section (past_section s) s.kind r else None
from_section s r (Err count) = Some s
from_section s r (Err no_good) = Some s
from_section s r (Err (maker number)) = Some s

-- what a record makes of the state at this place, but for the line
abbrev pub next_at : State → Place → Record → Option State
next_at s at_section r = from_section s r (take_record s.section r)
next_at s (at_group g) r = from_group s g r
next_at s (at_sets g found) r = from_sets s g found r
next_at s (at_log g found open_sides m) r = from_log s g found open_sides m r
next_at s at_regret r = from_regret s r
next_at s at_prices r = from_prices s r
next_at s at_accuracy r = from_accuracy s r
next_at s (at_accuracy_rows den rows) r = from_accuracy_rows s den rows r
next_at s (at_balance_rows den rows) r = from_balance_rows s den rows r
next_at s at_round r = from_round s r
next_at s (at_verdict x) r = from_verdict s x r
next_at s at_threshold r = from_threshold s r
next_at s (at_payment b) r = from_payment s b r
next_at s (at_spent_sets taken) r = from_spent_sets s taken r
next_at s (at_spent_log open_sides) r = from_spent_log s open_sides r
next_at s at_pool r = from_pool s r
next_at s (at_end word) r = from_end s word r
next_at s done r = None

-- the state with this line as the next one
abbrev pub to_line : ℕ → State → State
to_line n s = record s { line = n }

-- what the next record makes of the state
abbrev pub next : State → Record → Option State
next s r = option_map (to_line (suc s.line)) (next_at s s.place r)

-- what these records make of the state, where each may stand in its place
abbrev pub after_all : State → List Record → Option State
after_all s [] = Some s
after_all s (r ∷ rest) = option_and_then (λ after. after_all after rest) (next s r)
