-- A `spent` record stands where the head of its group may
-- stand, and is read as that head with its value.
use Rattle.std.proofs.Common.{◌≡◌, suc, Bool, true, false, cond, ℤ, refl, sym, ◌∙◌, ap, subst, arith, ◌⊎◌, inl, inr}
use Rattle.std.specs.Prelude.{Option, Some, None, option_map, int_lt, IsSome, if◌then◌else◌}
use Rattle.std.proofs.lemmas.Bool.{false≢true}
use Rattle.std.proofs.lemmas.Option.{none-some, same_Some}
use Rattle.ice_defs.specs.declared.Group.{Group}
use Rattle.ice_defs.specs.declared.Group.TheVariants.{Assign, Final}
use Rattle.ice_journal.specs.Records.{Record, Kind, regret_kind}
use Rattle.ice_journal.specs.Records as line
use Rattle.ice_section.specs.Section.{may_end}
use Rattle.ice_journal_laws.specs.declared.rule.Rule.{Rule}
use Rattle.ice_journal_laws.specs.declared.rule.Rule.TheVariants as rule
use Rattle.ice_journal_laws.specs.State.{Place, at_section, at_group, State, begun}
use Rattle.ice_journal_laws.specs.Checks.{is_checked}
use Rattle.ice_journal_laws.specs.Next.{next, to_line, after_section, past_section}
use Rattle.ice_journal_laws.specs.Tests.{Fails, is_valued}
use Rattle.ice_journal_laws.specs.Progress.{Progress, nothing, other_kind, passing, failed, out_of_memory, after_head, TakesOn, passes_on, fails_at, list_fails_at, IsAfter}
use Rattle.ice_journal_laws.specs.Showing.{head_of_group}
use Rattle.ice_journal_laws.proofs.CarriedGroup.{head_says}
use Rattle.ice_journal_laws.proofs.Places.{fails_order}
use Rattle.ice_journal_laws.proofs.Settling.{head_opens, head_spent}
use Rattle.ice_gap_laws.specs.Gap.{Gap, next_group, gap_in, at_gap_sets, GapProgress, checking, in_group, no_gap, is_closed, from_stop, unless_stopped, IsGapAfter, StatesNone}
use Rattle.ice_gap_laws.proofs.Single.{takes_same}
use Rattle.ice_gap_laws.proofs.Right.{no_list}

abbrev pub group_gap : Group → ℤ → ℤ → Gap
group_gap g value bound = record { group = g; value = value; bound = bound }

abbrev pub order_at : State → Progress
order_at s = failed (record { line = s.line; rule = rule.Order })

abbrev pub closed_at : State → Progress
closed_at s = failed (record { line = s.line; rule = rule.Closed })

-- either both may stand there, or neither
abbrev StandAlike : State → Group → ℤ → ℤ → Type 0
StandAlike s g value bound =
    (TakesOn s (head_of_group g value) (passing (at_gap_sets (group_gap g value bound) s)) × TakesOn s (line.spent value bound) (closed_at s))
    ⊎ (TakesOn s (head_of_group g value) (order_at s) × TakesOn s (line.spent value bound) (order_at s))

-- behind the exchange of a regret journal
module _ (s : State) (value bound : ℤ) where
  abbrev At : State
  At = record s { place = at_section; kind = regret_kind }

  behind_section : (ended : Bool) → may_end s.section ≡ ended
      → (TakesOn At (line.final value) (passing (at_gap_sets (group_gap Final value bound) At)) × TakesOn At (line.spent value bound) (closed_at At))
      ⊎ (TakesOn At (line.final value) (order_at At) × TakesOn At (line.spent value bound) (order_at At))
  behind_section true e = inl (
    passes_on (λ z f. absurd (none-some z f)) quiet (record { leaf = tt; violation = tt; list = tt; verdict = tt }) is,
    fails_at (λ z f. absurd (none-some z f)) ((refl, subst (λ (b : Bool). Stands b) (sym e) refl), λ z l f. absurd (omega (arith, l))),
  )
    where
      Stands : Bool → Type 0
      Stands b = IsSome (option_map (to_line (suc s.line)) (cond b (after_section (past_section At) regret_kind (line.spent value bound)) None))

      is : next At (line.final value) ≡ Some (at_gap_sets (group_gap Final value bound) At)
      is = ap (λ (b : Bool). option_map (to_line (suc s.line)) (cond b (after_section (past_section At) regret_kind (line.final value)) None)) e

      quiet : (z : Rule) → ¬ Fails z At (line.final value)
      quiet rule.Closed h = false≢true h.0
      quiet rule.Order h = none-some _ (sym h ∙ is)
      quiet rule.Exchange h = false≢true h.1
      quiet other h = h
  behind_section false e = inr (
    fails_order At (line.final value) refl (ap (λ (b : Bool). option_map (to_line (suc s.line)) (cond b (after_section (past_section At) regret_kind (line.final value)) None)) e),
    fails_order At (line.spent value bound) refl (ap (λ (b : Bool). option_map (to_line (suc s.line)) (cond b (after_section (past_section At) regret_kind (line.spent value bound)) None)) e),
  )

at_place : (s : State) (kind : Kind) (place : Place) (g : Group) (value bound : ℤ) → is_valued g ≡ true → next_group kind place ≡ Some g
    → StandAlike (record s { place = place; kind = kind }) g value bound
at_place s kind (at_group Assign) g value bound v e = absurd (none-some g e)
at_place s kind (at_group mine) g value bound v e =
    subst (λ (x : Group). is_valued x ≡ true → StandAlike (record s { place = at_group mine; kind = kind }) x value bound) (same_Some mine g e)
    (λ w. inl (head_opens (record s { kind = kind }) mine (head_of_group mine value) value (head_says mine value w), head_spent (record s { kind = kind }) mine (line.spent value bound) refl)) v
at_place s regret_kind at_section g value bound v e =
    subst (λ (x : Group). StandAlike (record s { place = at_section; kind = regret_kind }) x value bound) (same_Some Final g e) (behind_section s value bound (may_end s.section) refl)
at_place s kind other g value bound v e = absurd (none-some g e)

stand_alike : (s : State) (g : Group) (value bound : ℤ) → is_valued g ≡ true → next_group s.kind s.place ≡ Some g → StandAlike s g value bound
stand_alike s g value bound v e = at_place s s.kind s.place g value bound v e

-- what the head made of the tests, and what the `spent` record makes of them
abbrev pub AsHead : State → Group → ℤ → ℤ → Progress → Type 0
AsHead s g value bound after =
    ((after ≡ passing (at_gap_sets (group_gap g value bound) s))
    × IsGapAfter (checking (passing s)) (line.spent value bound)
    (cond (int_lt value bound) (in_group (group_gap g value bound) (at_gap_sets (group_gap g value bound) s)) (no_gap s.line)))
    ⊎ ((after ≡ order_at s) × IsGapAfter (checking (passing s)) (line.spent value bound) (checking (order_at s)))

pub read_as_head : (s : State) (g : Group) (value bound : ℤ) (after : Progress) → is_valued g ≡ true → next_group s.kind s.place ≡ Some g → TakesOn s (head_of_group g value) after
    → AsHead s g value bound after
read_as_head s g value bound after v e takes = by (stand_alike s g value bound v e)
  where
    stops : from_stop s (gap_in s (line.spent value bound)) ≡ from_stop s (Some (group_gap g value bound))
    stops = ap (λ (o : Option Group). from_stop s (option_map (λ x. record { group = x; value = value; bound = bound }) o)) e

    by : StandAlike s g value bound → AsHead s g value bound after
    by (inl (head, stop)) = inl (takes_same s (head_of_group g value) after _ takes head, (closed_at s, stop, sym stops))
    by (inr (head, order)) = inr (takes_same s (head_of_group g value) after _ takes head, (order_at s, order, refl))

-- ---- a record that states no gap

abbrev pub is_stopped : Progress → Bool
is_stopped (failed failure) = is_closed failure.rule
is_stopped p = false

-- what the tests make of it, where a stop is one that states none
abbrev pub usual : Progress → GapProgress
usual (failed failure) = if is_closed failure.rule then no_gap failure.line else checking (failed failure)
usual p = checking p

first_usual : (r : Record) → checking (after_head r) ≡ usual (after_head r)
first_usual (line.head version kind) = by (is_checked version kind)
  where
    by : (b : Bool) → checking (cond b (passing (begun version kind)) other_kind) ≡ usual (cond b (passing (begun version kind)) other_kind)
    by true = refl
    by false = refl
first_usual other = refl

passing_usual : (s : State) (r : Record) (after : Progress) → TakesOn s r after → gap_in s r ≡ None → unless_stopped (passing s) r after ≡ usual after
passing_usual s r after (passes_on {after = t} list none holds is) e = refl
passing_usual s r after (fails_at {x = rule.Closed} list first) e = ap (from_stop s) e
passing_usual s r after (fails_at {x = other} list first) e = refl
passing_usual s r after (list_fails_at {x = rule.Closed} f fails) e = absurd (no_list s.place r f)
passing_usual s r after (list_fails_at {x = other} f fails) e = refl

pub usual_on : (p : Progress) (r : Record) (after : Progress) → IsAfter p r after → is_stopped p ≡ false → StatesNone p r → IsGapAfter (checking p) r (usual after)
usual_on nothing r after is open_end none = (after, is, ap usual is ∙ sym (first_usual r) ∙ ap checking (sym is))
usual_on other_kind r after is open_end none = (after, is, ap usual is ∙ ap checking (sym is))
usual_on (passing s) r after is open_end none = (after, is, sym (passing_usual s r after is none))
usual_on (failed failure) r after is open_end none =
    (after, is, ap usual is ∙ ap (λ (b : Bool). cond b (no_gap failure.line) (checking (failed failure))) open_end ∙ ap checking (sym is))
usual_on out_of_memory r after is open_end none = absurd is
