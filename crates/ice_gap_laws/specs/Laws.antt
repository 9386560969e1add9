-- What the answers of `gap` mean, as statements.
use Rattle.std.specs.Prelude.{ℕ, ℤ, length, ◌<◌, true, ◌≡◌, ◌≢◌, List, [], ◌∷◌, ◌++◌, map, ◌≤ℤ◌, ◌<ℤ◌, Some, Result, Ok, Err}
use Rattle.std.specs.List.{AllByRecursion}
use Rattle.ice_defs.specs.Trade.{Assignment, IsFeasible, MeetsAll, IsBestOfAll, total_value}
use Rattle.ice_defs.specs.Set.{Weights}
use Rattle.ice_defs.specs.Bounds.{Bounds}
use Rattle.ice_defs.specs.Group.{start_of, group_weights}
use Rattle.ice_defs.specs.Exchange.{Exchange, trees_of, exact_of, opening_bounds}
use Rattle.ice_defs.specs.Weighing.{lower_weights}
use Rattle.ice_headline_laws.specs.Right.{bounds_after_rounds}
use Rattle.ice_journal_laws.specs.Stops.{AreGoing}
use Rattle.ice_defs.specs.declared.Group.TheVariants.{Rival}
use Rattle.ice_defs.specs.Lawful.{IsExchange}
use Rattle.ice_defs.specs.declared.Group.{Group}
use Rattle.ice_defs.specs.Log.{Passes}
use Rattle.ice_defs.specs.Session.{Proved, Going}
use Rattle.ice_refute.specs.Code.{CountsGoods}
use Rattle.ice_section.specs.Section.{may_end}
use Rattle.ice_journal.specs.Plain.{all_zero}
use Rattle.ice_journal.specs.Records.{Record, Version, Kind, spent_end}
use Rattle.ice_journal.specs.Records as line
use Rattle.ice_journal.specs.Journal.{IsJournal}
use Rattle.ice_journal_laws.specs.declared.answer.CheckEnd.{CheckEnd}
use Rattle.ice_journal_laws.specs.declared.answer.CheckEnd.TheVariants.{NoMemory}
use Rattle.ice_journal_laws.specs.State.{Place, at_section, State, begun, exchange_at, trees_at, exact_at, goods_at, weights_at}
use Rattle.ice_journal_laws.specs.Checks.{is_checked}
use Rattle.ice_journal_laws.specs.Carrying.{Carries}
use Rattle.ice_journal_laws.specs.Showing.{LeavesOut, step_records}
use Rattle.ice_journal_laws.specs.Progress.{nothing, passing, Leads}
use Rattle.ice_journal_laws.specs.Answers.{OfJournal}
use Rattle.ice_gap_laws.specs.declared.answer.GapAnswer.{GapAnswer}
use Rattle.ice_gap_laws.specs.declared.answer.GapAnswer.TheVariants as answer
use Rattle.ice_gap_laws.specs.Gap.{Gap, next_group, before_head, GapProgress, checking, GapLeads}
use Rattle.ice_gap_laws.specs.Answers.{gap_answer, GivesGap, AnswersGap}

-- ---- in words of the market

-- the values of the group at these bounds, with these final sets where they matter
abbrev pub values_of : Exchange → List Bounds → Assignment → Gap → List Weights
values_of ex bounds final gap = group_weights ex.settings.weight bounds final gap.group

-- an assignment that can be done, and that leaves out whom the group leaves out
abbrev pub Competes : Exchange → Gap → Assignment → Type 0
Competes ex gap sets = IsFeasible (trees_of ex) (exact_of ex) sets × MeetsAll sets (start_of (trees_of ex) gap.group)

-- the sets are such an assignment and have the value, and no such assignment is worth more than
-- the bound
pub record IsGap (ex : Exchange) (bounds : List Bounds) (final : Assignment) (gap : Gap) (sets : Assignment) : Type 0 where
  pub exchange : IsExchange ex
  pub below : gap.value <ℤ gap.bound
  pub competes : Competes ex gap sets
  pub worth : total_value sets (values_of ex bounds final gap) ≡ gap.value
  pub bound_is : (a : Assignment) → Competes ex gap a → total_value a (values_of ex bounds final gap) ≤ℤ gap.bound

-- the final sets are best at lower values, where they matter
abbrev pub HasFinal : Group → Exchange → List Bounds → Assignment → Type 0
HasFinal Rival ex bounds final = IsFeasible (trees_of ex) (exact_of ex) final
    × IsBestOfAll (trees_of ex) (exact_of ex) (lower_weights bounds) (total_value final (lower_weights bounds))
HasFinal g ex bounds final = Unit {0}

-- right settlements that go on lead to these bounds, from those of the exchange
pub record IsReached (g : Group) (ex : Exchange) (bounds : List Bounds) (final : Assignment) : Type 0 where
  pub past : List Going
  pub earlier : AreGoing ex 0 (opening_bounds ex) past
  pub bounds_are : bounds_after_rounds ex (opening_bounds ex) past ≡ bounds
  pub final_is : HasFinal g ex bounds final

-- ---- of a journal

-- of the exchange, the bounds and the final sets of a state
abbrev pub IsGapAt : State → Gap → Assignment → Type 0
IsGapAt s gap sets = IsGap (exchange_at s) s.bounds s.final.sets gap sets

abbrev pub IsReachedAt : State → Group → Type 0
IsReachedAt s g = IsReached g (exchange_at s) s.bounds s.final.sets

-- its records pass every test of `check` up to the place of a group's head; there it states a gap,
-- its sets and the steps of its log
pub record StatesGap (journal : List Record) (gap : Gap) : Type 0 where
  pub before : List Record
  pub sets : Assignment
  pub steps : List Record
  pub says : journal ≡ before ++ line.spent gap.value gap.bound ∷ map line.set sets ++ steps ++ line.end spent_end ∷ []
  pub state : State
  pub leads : Leads nothing before (passing state)
  pub awaits : next_group state.kind state.place ≡ Some gap.group
  pub reached : IsReachedAt (before_head state.place state) gap.group
  pub is : IsGapAt (before_head state.place state) gap sets

abbrev pub GapIsRight : Type 0
GapIsRight = (bytes : List ℕ) (gap : Gap) → AnswersGap bytes (Ok (answer.Gap gap.group gap.value gap.bound))
    → OfJournal bytes (λ journal. StatesGap journal gap)

-- but for want of memory, bytes have one answer
abbrev pub OneGapAnswer : Type 0
OneGapAnswer = (bytes : List ℕ) (one other : Result GapAnswer CheckEnd) → AnswersGap bytes one → AnswersGap bytes other → one ≢ Err NoMemory
    → other ≢ Err NoMemory → one ≡ other

-- what is answered where the records end is the answer to their bytes
abbrev pub GapEndIsAnswer : Type 0
GapEndIsAnswer = (bytes : List ℕ) (journal : List Record) (p : GapProgress) → IsJournal bytes journal
    → GapLeads (checking nothing) journal p → AnswersGap bytes (gap_answer p)

-- ---- what a writer writes

-- the sets of a search that spent its branches: they compete, and have a value below the bound, at
-- which its log passes
pub record IsShownGap (s : State) (g : Group) (p : Proved) (bound : ℤ) : Type 0 where
  pub feasible : IsFeasible (trees_at s) (exact_at s) p.sets
  pub value : total_value p.sets (weights_at s g) ≡ p.value
  pub left_out : LeavesOut g p.sets
  pub counts : AllByRecursion (CountsGoods (goods_at s)) p.log
  pub passes : Passes (trees_at s) (exact_at s) (weights_at s g) bound (start_of (trees_at s) g) p.log
  pub below : p.value <ℤ bound

-- a section that awaits a group may end
abbrev pub EndsThere : State → Place → Type 0
EndsThere s at_section = may_end s.section ≡ true
EndsThere s place = Unit {0}

-- the records of a gap
abbrev pub gap_records : State → Proved → ℤ → List Record
gap_records s p bound = line.spent p.value bound
    ∷ (map line.set p.sets ++ (step_records s.version (all_zero (goods_at s)) p.log ++ line.end spent_end ∷ []))

-- where records lead to the head of a group, and a gap stands in its place, the gap is answered
abbrev pub GapIsWritten : Type 0
GapIsWritten = (kind : Kind) (v : Version) (before : List Record) (s : State) (g : Group) (p : Proved) (bound : ℤ)
    → is_checked v kind ≡ true → Carries (begun v kind) before s → next_group s.kind s.place ≡ Some g → EndsThere s s.place
    → 0 < length (trees_at (before_head s.place s)) → IsShownGap (before_head s.place s) g p bound
    → GivesGap (line.head v kind ∷ (before ++ gap_records (before_head s.place s) p bound)) (answer.Gap g p.value bound)
