-- What the stages of a checker of gaps stand for.
use Rattle.std.proofs.Common.{◌≡◌, ◌<◌, ℕ, suc, Bool, true, false, cond, List, [], ◌∷◌, length, ℤ, refl, sym, ◌∙◌, ap, subst, arith, inl, inr}
use Rattle.std.specs.Prelude.{◌≢◌, int_lt, Option, Some, None, Result, Ok, Err}
use Rattle.std.proofs.lemmas.Bool.{true≢false, false≢true}
use Rattle.std.proofs.lemmas.Option.{none-some, same_Some}
use Rattle.ice_defs.specs.declared.Group.{Group}
use Rattle.ice_defs.specs.declared.Group.TheVariants.{Assign, Final, Rival, Provisional, Without}
use Rattle.ice_defs.specs.Set.{Weights}
use Rattle.ice_defs.specs.Steps.{Side}
use Rattle.ice_defs.specs.Exchange.{trees_of, exact_of}
use Rattle.std.proofs.Common.{eqb}
use Rattle.ice_journal.specs.Records.{Record}
use Rattle.ice_journal.specs.Records as line
use Rattle.ice_journal_laws.specs.declared.answer.Answer.{Answer}
use Rattle.ice_journal_laws.specs.declared.answer.Answer.TheVariants as answer
use Rattle.ice_journal_laws.specs.declared.answer.CheckEnd.{CheckEnd}
use Rattle.ice_journal_laws.specs.declared.rule.Rule.{Rule}
use Rattle.ice_journal_laws.specs.declared.rule.Rule.TheVariants as rule
use Rattle.ice_journal_laws.specs.State.{Stated, Place, at_sets, at_log, done, State, weights_at}
use Rattle.ice_journal_laws.specs.Next.{next, to_line, go_to, with_set, after_sets, after_log, after_step, bidder_count}
use Rattle.ice_journal_laws.specs.Tests.{is_valued}
use Rattle.ice_journal_laws.specs.Progress.{Progress, nothing, other_kind, passing, failed, out_of_memory, TakesOn, passes_on}
use Rattle.ice_journal_laws.specs.Answers.{EndsWith}
use Rattle.ice_journal_laws.specs.Showing.{head_of_group}
use Rattle.ice_journal_laws.specs.Stepping.{PassesStep, FailsStep}
use Rattle.ice_journal_laws.specs.Assigning.{section_state}
use Rattle.ice_journal_laws.proofs.Walking.{record_fails, record_passes}
use Rattle.ice_check_offer.specs.declared.fault.Fault.{Fault}
use Rattle.ice_defs.specs.Rows.{Row}
use Rattle.ice_defs.specs.Exchange.{Exchange}
use Rattle.ice_check_offer.specs.declared.offer.Offer.{Offer}
use Rattle.ice_check_offer.specs.declared.place.Place.{Place as Offering}
use Rattle.ice_check_offer.specs.declared.place.Place.TheVariants as offering
use Rattle.ice_check_offer.specs.declared.place.CertificateList.{CertificateList}
use Rattle.ice_check_offer.specs.declared.place.CertificateList.TheVariants as list
use Rattle.ice_check_offer.specs.Offers as offers
use Rattle.ice_gap_laws.specs.declared.answer.GapAnswer.{GapAnswer}
use Rattle.ice_gap_laws.specs.declared.answer.GapAnswer.TheVariants as gap_is
use Rattle.ice_gap_laws.specs.Gap.{at_gap_sets, is_in_group, aimed_place, with_target, GapProgress, checking, in_group, at_close, no_gap, in_its_group, is_closed, IsGapAfter, StatesNone, IsThere}
use Rattle.ice_gap_laws.specs.Answers.{answer_at_end, gap_answer}
use Rattle.ice_gap_laws.proofs.Right.{log_leaves}
use Rattle.ice_gap_laws.proofs.Written.{awaited_valued}
use Rattle.ice_gap_laws.proofs.Heading.{is_stopped, usual, usual_on, AsHead, read_as_head, order_at}
use Rattle.ice_check_records.specs.declared.gap.Spent.{Spent}
use Rattle.ice_check_records.specs.declared.gap.GapStage.TheVariants as gap
use Rattle.ice_check_records.specs.declared.groups.Groups.{Groups}
use Rattle.ice_check_records.specs.declared.log.LogWalk.{LogWalk}
use Rattle.ice_check_records.specs.declared.next.Next.{Next}
use Rattle.ice_check_records.specs.declared.next.Next.TheVariants as coming
use Rattle.ice_check_records.specs.declared.stage.Stage.{Stage}
use Rattle.ice_check_records.specs.declared.stage.Stage.TheVariants as stage
use Rattle.ice_check_records.specs.Heads.{version_of_head, kind_of_head, HasLog}
use Rattle.ice_journal.specs.Ranges.{IsRecord}
use Rattle.ice_check_records.specs.Groups.{at_hand, place_at, known_in, IsOffering, StandsFor, weights_for, AreKept, HasOpen, IsReady}
use Rattle.ice_check_records.specs.Taking.{failure_at, Goes, IsTaken, Fails}
use Rattle.ice_check_records.specs.Stages.{IsProgress, TakesFurther}
use Rattle.ice_check_records.specs.Gaps.{stated_gap, TellsAwaited, AwaitsGroup, IsInGroup, IsInside, IsGapProgress, is_no_stop, IsOpen, gap_stage, opened_stage, failed_gap, gapless_answer, TakesGapFurther, LeadsFrom, LeadsInside, WalksOn}
use Rattle.ice_check_records.proofs.Knowing.{IsQuiet, stands_known, stands_goes, stands_fails}

-- ---- before a stop

open_rule : (x : Rule) → is_no_stop x ≡ true → is_closed x ≡ false
open_rule rule.Closed e = absurd (false≢true e)
open_rule other e = refl

open_progress : (n : ℕ) (s : Stage) (p : Progress) → IsOpen s → IsProgress n s p → is_stopped p ≡ false
open_progress n stage.Begin p h is = ap is_stopped is
open_progress n stage.OtherKind p h is = ap is_stopped is
open_progress n (stage.Describing head section) p h is = ap is_stopped is
open_progress n (stage.Behind groups) p h (s, is, at, stands) = ap is_stopped is
open_progress n (stage.Failed there x) p h is = ap is_stopped is ∙ open_rule x h
open_progress n stage.OutOfMemory p h is = ap is_stopped is

usual_stands : (n : ℕ) (s : Stage) (q : Progress) → IsProgress n s q → IsGapProgress n (gap_stage s) (usual q)
usual_stands n stage.Begin q is = (nothing, ap usual is, refl)
usual_stands n stage.OtherKind q is = (other_kind, ap usual is, refl)
usual_stands n (stage.Describing head section) q is = (passing (section_state (version_of_head head) (kind_of_head head) n section.value), ap usual is, refl)
usual_stands n (stage.Behind groups) q (s, is, at, stands) = (passing s, ap usual is, (s, refl, at, stands))
usual_stands n (stage.Failed there rule.Closed) q is = ap usual is
usual_stands n (stage.Failed there other) q is = (failed (record { line = there; rule = other }), ap usual is, refl)
usual_stands n stage.OutOfMemory q is = (out_of_memory, ap usual is, refl)

pub usual_leads : (n : ℕ) (before after : Stage) (r : Record) → IsOpen before → ((m : ℕ) (p : Progress) → IsProgress m before p → StatesNone p r)
    → ((p : Progress) → IsProgress n before p → TakesFurther n after p r) → LeadsFrom n before r (gap_stage after)
usual_leads n before after r open_end none takes p is =
    let x = takes p is in
    record {
      after = usual x.after;
      leads = usual_on p r x.after x.leads (open_progress n before p open_end is) (none n p is);
      stands = usual_stands (suc n) after x.after x.stands;
    }

-- ---- at a stop

same_passing : (s t : State) → passing s ≡ passing t → s ≡ t
same_passing s t e = cc

line_at : (n : ℕ) (x : Stage) (s : State) → IsProgress n x (passing s) → s.line ≡ n
line_at n stage.Begin s is = absurd cc
line_at n stage.OtherKind s is = absurd cc
line_at n (stage.Describing head section) s is = ap (λ (t : State). t.line) (same_passing s _ is)
line_at n (stage.Behind groups) s (t, is, at, stands) = ap (λ (u : State). u.line) (same_passing s t is) ∙ at
line_at n (stage.Failed there x) s is = absurd cc
line_at n stage.OutOfMemory s is = absurd cc

-- the group in whose sets or log a place is
abbrev GroupOf : Place → Option Group
GroupOf (at_sets g found) = Some g
GroupOf (at_log g found sides m) = Some g
GroupOf other = None

rows_no_group : (of : CertificateList) (den : ℕ) (rows : List Row) → GroupOf (offers.rows_place of den rows) ≡ None
rows_no_group list.Accuracy den rows = refl
rows_no_group list.Balance den rows = refl

offer_no_group : (ex : Exchange) (o : Offer) (s : State) (p : Offering) → offers.IsAt ex o p s → GroupOf s.place ≡ None
offer_no_group ex o s offering.Prices h = ap GroupOf h.0
offer_no_group ex o s offering.Accuracy h = ap GroupOf h.0
offer_no_group ex o s (offering.Rows of) h = ap GroupOf h.0.place ∙ rows_no_group of o.den h.0.rows
offer_no_group ex o s offering.Round h = ap GroupOf h.0
offer_no_group ex o s (offering.Verdict due) h = ap GroupOf h.0.place

offered_no_group : (ex : Exchange) (o : Offer) (s : State) → offers.IsOfferOf ex o s → GroupOf s.place ≡ None
offered_no_group ex o s is = offer_no_group ex o s o.place is.at

next_in : (g : Groups) (s : State) (group : Group) → StandsFor g s → GroupOf s.place ≡ Some group → IsInGroup group g.next
next_in g s group stands e = by g.next (subst (λ (t : State). GroupOf t.place ≡ Some group) stands.known e) stands.offer
  where
    by : (now : Next) → GroupOf (place_at g now s.place) ≡ Some group → IsOffering g now s → IsInGroup group now
    by (coming.Set other) e h = same_Some other group e
    by (coming.Step other) e h = same_Some other group e
    by coming.Offer e h = absurd (none-some group (sym (offered_no_group g.stated.exchange g.offer s h) ∙ e))
    by (coming.Head other) e h = absurd (none-some group e)
    by coming.Amount e h = absurd (none-some group e)
    by coming.Threshold e h = absurd (none-some group e)
    by (coming.Payment b) e h = absurd (none-some group e)
    by coming.End e h = absurd (none-some group e)
    by coming.Nothing e h = absurd (none-some group e)

opens_in : (n : ℕ) (after : Stage) (s : State) (spent : Spent) (q : Progress) → s.line ≡ n → is_valued spent.group ≡ true → q ≡ passing (at_gap_sets (stated_gap spent) s) → IsProgress (suc n) after q
    → IsGapProgress (suc n) (opened_stage n spent after) (cond (int_lt spent.value spent.bound) (in_group (stated_gap spent) (at_gap_sets (stated_gap spent) s)) (no_gap s.line))
opens_in n (stage.Behind groups) s spent q at v e (t, is, line_is, stands) = by (int_lt spent.value spent.bound)
  where
    here : t ≡ at_gap_sets (stated_gap spent) s
    here = same_passing t (at_gap_sets (stated_gap spent) s) (sym is ∙ e)

    known : StandsFor groups.value (at_gap_sets (stated_gap spent) s)
    known = subst (StandsFor groups.value) here stands

    by : (b : Bool) → IsGapProgress (suc n) (cond b (gap.Inside groups spent) (gap.NoGap n)) (cond b (in_group (stated_gap spent) (at_gap_sets (stated_gap spent) s)) (no_gap s.line))
    by true = record {
      state = at_gap_sets (stated_gap spent) s;
      come = refl;
      line_is = ap suc at;
      stands = known;
      next_is = next_in groups.value (at_gap_sets (stated_gap spent) s) spent.group known refl;
      valued = v;
    }
    by false = ap no_gap at
opens_in n stage.Begin s spent q at v e is = absurd (let f : nothing ≡ passing (at_gap_sets (stated_gap spent) s) = sym is ∙ e in cc)
opens_in n stage.OtherKind s spent q at v e is = absurd (let f : other_kind ≡ passing (at_gap_sets (stated_gap spent) s) = sym is ∙ e in cc)
opens_in n (stage.Describing head section) s spent q at v e is =
    absurd (none-some spent.group (ap (λ (t : State). GroupOf t.place) (same_passing _ (at_gap_sets (stated_gap spent) s) (sym is ∙ e))))
opens_in n (stage.Failed there x) s spent q at v e is = absurd (let f : failed (record { line = there; rule = x }) ≡ passing (at_gap_sets (stated_gap spent) s) = sym is ∙ e in cc)
opens_in n stage.OutOfMemory s spent q at v e is = absurd (let f : out_of_memory ≡ passing (at_gap_sets (stated_gap spent) s) = sym is ∙ e in cc)

misplaced_in : (n : ℕ) (after : Stage) (s : State) (spent : Spent) (q : Progress) → q ≡ order_at s → IsProgress (suc n) after q
    → IsGapProgress (suc n) (opened_stage n spent after) (checking (order_at s))
misplaced_in n (stage.Behind groups) s spent q e (t, is, line_is, stands) = absurd (let f : passing t ≡ order_at s = sym is ∙ e in cc)
misplaced_in n stage.Begin s spent q e is = subst (IsGapProgress (suc n) (gap_stage stage.Begin)) (ap usual e) (usual_stands (suc n) stage.Begin q is)
misplaced_in n stage.OtherKind s spent q e is = subst (IsGapProgress (suc n) (gap_stage stage.OtherKind)) (ap usual e) (usual_stands (suc n) stage.OtherKind q is)
misplaced_in n (stage.Describing head section) s spent q e is =
    subst (IsGapProgress (suc n) (gap_stage (stage.Describing head section))) (ap usual e) (usual_stands (suc n) (stage.Describing head section) q is)
misplaced_in n (stage.Failed there x) s spent q e is = subst (IsGapProgress (suc n) (gap_stage (stage.Failed there x))) (ap usual e) (usual_stands (suc n) (stage.Failed there x) q is)
misplaced_in n stage.OutOfMemory s spent q e is = subst (IsGapProgress (suc n) (gap_stage stage.OutOfMemory)) (ap usual e) (usual_stands (suc n) stage.OutOfMemory q is)

pub stated_leads : (n : ℕ) (before after : Stage) (spent : Spent) → AwaitsGroup before (Some spent.group)
    → ((p : Progress) → IsProgress n before p → TakesFurther n after p (head_of_group spent.group spent.value)) → LeadsFrom n before (line.spent spent.value spent.bound) (opened_stage n spent after)
stated_leads n before after spent awaits takes p is = by p is (awaits n p is) (takes p is)
  where
    by : (p : Progress) → IsProgress n before p → TellsAwaited (Some spent.group) p → TakesFurther n after p (head_of_group spent.group spent.value)
        → TakesGapFurther n (opened_stage n spent after) (checking p) (line.spent spent.value spent.bound)
    by (passing s) is tells x =
        let v = awaited_valued s.kind s.place spent.group tells in
        on (read_as_head s spent.group spent.value spent.bound x.after v tells x.leads)
      where
        on : AsHead s spent.group spent.value spent.bound x.after → TakesGapFurther n (opened_stage n spent after) (checking (passing s)) (line.spent spent.value spent.bound)
        on (inl (e, leads)) = record {
          after = cond (int_lt spent.value spent.bound) (in_group (stated_gap spent) (at_gap_sets (stated_gap spent) s)) (no_gap s.line);
          leads = leads;
          stands = opens_in n after s spent x.after (line_at n before s is) (awaited_valued s.kind s.place spent.group tells) e x.stands;
        }
        on (inr (e, leads)) = record { after = checking (order_at s); leads = leads; stands = misplaced_in n after s spent x.after e x.stands }
    by nothing is tells x = absurd (none-some spent.group (sym tells))
    by other_kind is tells x = absurd (none-some spent.group (sym tells))
    by (failed failure) is tells x = absurd (none-some spent.group (sym tells))
    by out_of_memory is tells x = absurd (none-some spent.group (sym tells))

-- ---- in a gap

pub record GoesInside (n : ℕ) (spent : Spent) (groups : Groups) (p : GapProgress) (r : Record) : Type 0 where
  pub after : GapProgress
  pub leads : IsGapAfter p r after
  pub stands : IsInside (suc n) (stated_gap spent) groups after

in_group_of : (place : Place) (g : Group) → GroupOf place ≡ Some g → is_in_group place ≡ true
in_group_of (at_sets h found) g e = refl
in_group_of (at_log h found sides m) g e = refl
in_group_of other g e = absurd (none-some g e)

aimed_same : (target : ℤ) (s : State) (g : Group) (found : Stated) → s.place ≡ at_sets g found → with_target target s ≡ s
aimed_same target s g found e = ap (λ (p : Place). go_to (aimed_place target p) s) e ∙ sym (ap (λ (p : Place). go_to p s) e)

takes_next : (s : State) (r : Record) (t : State) → TakesOn s r (passing t) → next s r ≡ Some t
takes_next s r t (passes_on list none holds is) = is

log_group : (s : State) (g : Group) (found : Stated) → is_valued g ≡ true → GroupOf (after_sets s g found).place ≡ Some g
log_group s Assign found v = absurd (false≢true v)
log_group s Final found v = refl
log_group s Rival found v = refl
log_group s Provisional found v = refl
log_group s (Without b) found v = refl

set_stays : (s after : State) (g : Group) (found : Stated) (r : Record) → is_valued g ≡ true → next (go_to (at_sets g found) s) r ≡ Some after → GroupOf after.place ≡ Some g
set_stays s after g found (line.set x) v e = by (eqb (suc (length found.sets)) (bidder_count s)) e
  where
    by : (b : Bool) → Some (to_line (suc s.line) (cond b (after_sets (go_to (at_sets g found) s) g (with_set found x)) (go_to (at_sets g (with_set found x)) (go_to (at_sets g found) s)))) ≡ Some after
        → GroupOf after.place ≡ Some g
    by true h = subst (λ (t : State). GroupOf t.place ≡ Some g) (same_Some _ after h) (log_group (go_to (at_sets g found) s) g (with_set found x) v)
    by false h = subst (λ (t : State). GroupOf t.place ≡ Some g) (same_Some _ after h) refl
set_stays s after g found other v e = absurd (none-some after e)

sets_place : (g : Groups) (s : State) (group : Group) → StandsFor g s → g.next ≡ coming.Set group → s.place ≡ at_sets group (at_hand g)
sets_place g s group stands now = ap (λ (t : State). t.place) stands.known ∙ ap (λ (m : Next). place_at g m s.place) now

pub sets_pass : (n : ℕ) (spent : Spent) (g after : Groups) (r : Record) (group : Group) → g.next ≡ coming.Set group → IsTaken g.next g r after → (p : GapProgress) → IsInside n (stated_gap spent) g p
    → GoesInside n spent after p r
sets_pass n spent g after r group now taken p is = record {
  after = in_group (stated_gap spent) (with_target spent.bound x.state);
  leads = subst (λ (q : GapProgress). IsGapAfter q r (in_group (stated_gap spent) (with_target spent.bound x.state)))
      (sym (is.come ∙ ap (in_group (stated_gap spent)) (aimed_same spent.bound is.state group (at_hand g) place)))
      (passing x.state, x.passes, sym (ap (λ (b : Bool). cond b (in_group (stated_gap spent) (with_target spent.bound x.state)) (at_close (stated_gap spent) x.state.line)) (in_group_of x.state.place spent.group stays)));
  stands = record {
    state = x.state;
    come = refl;
    line_is = x.line ∙ ap suc is.line_is;
    stands = x.stands;
    next_is = next_in after x.state spent.group x.stands stays;
    valued = is.valued;
  };
}
  where
    x : Goes is.state r after
    x = stands_goes g r after taken is.state is.stands

    place : is.state.place ≡ at_sets group (at_hand g)
    place = sets_place g is.state group is.stands now

    same : group ≡ spent.group
    same = subst (IsInGroup spent.group) now is.next_is

    stays : GroupOf x.state.place ≡ Some spent.group
    stays =
        set_stays is.state x.state group (at_hand g) r (subst (λ (h : Group). is_valued h ≡ true) (sym same) is.valued)
        (subst (λ (p : Place). next (go_to p is.state) r ≡ Some x.state) place (takes_next is.state r x.state x.passes))
        ∙ ap (λ (h : Group). (let o : Option Group = Some h in o)) same

pub sets_fail : (n : ℕ) (spent : Spent) (g : Groups) (r : Record) (fault : Fault) (group : Group) → g.next ≡ coming.Set group → Fails g.next g r fault → LeadsInside n spent g r (failed_gap (failure_at n fault))
sets_fail n spent g r fault group now fails p is = record {
  after = checking (failed (failure_at n fault));
  leads = subst (λ (q : GapProgress). IsGapAfter q r (checking (failed (failure_at n fault))))
      (sym (is.come ∙ ap (in_group (stated_gap spent)) (aimed_same spent.bound is.state group (at_hand g) (sets_place g is.state group is.stands now))))
      (failed (failure_at n fault), subst (λ (k : ℕ). TakesOn is.state r (failed (failure_at k fault))) is.line_is (stands_fails g r fault fails is.state is.stands), refl);
  stands = refl;
}

-- ---- in its log

module _ (n : ℕ) (spent : Spent) (g : Groups) (r : Record) (group : Group) (now : g.next ≡ coming.Step group) (kept : AreKept g) (holds : HasOpen g group) (opened_sides : 0 < length g.log.walk.sides)
    (p : GapProgress) (is : IsInside n (stated_gap spent) g p) where
  abbrev Known : State
  Known = known_in g (coming.Step group) is.state

  abbrev Target : Stated
  Target = record { value = spent.bound; sets = g.stated.sets }

  abbrev Aimed : State
  Aimed = go_to (at_log group (record { value = spent.bound; sets = g.stated.sets }) g.log.walk.sides g.log.before) (known_in g (coming.Step group) is.state)

  state_is : is.state ≡ known_in g (coming.Step group) is.state
  state_is = is.stands.known ∙ ap (λ (m : Next). known_in g m is.state) now

  come : p ≡ in_group (stated_gap spent) Aimed
  come = is.come ∙ ap (λ (s : State). in_group (stated_gap spent) (with_target spent.bound s)) state_is

  same_group : group ≡ spent.group
  same_group = subst (IsInGroup spent.group) now is.next_is

  is_one : is_valued group ≡ true
  is_one = subst (λ (h : Group). is_valued h ≡ true) (sym same_group) is.valued

  weights_there : weights_at (known_in g (coming.Step group) is.state) group ≡ g.log.weights
  weights_there = by group ∙ sym holds.weights
    where
      by : (h : Group) → weights_at (known_in g (coming.Step h) is.state) h ≡ weights_for g h
      by Assign = refl
      by Final = refl
      by Rival = refl
      by Provisional = refl
      by (Without b) = refl

  module _ (after : Groups) (closed : Bool) (w : WalksOn spent.bound g r closed after) where
    takes : TakesOn Aimed r (passing (to_line (suc is.state.line) (after_step Aimed group Target after.log.walk.sides after.log.before)))
    takes =
        record_passes (known_in g (coming.Step group) is.state) group Target g.log.walk.sides after.log.walk.sides g.log.before after.log.before r opened_sides kept.walk.goods
        (subst
        (λ (ws : List Weights). PassesStep (trees_of g.stated.exchange) (exact_of g.stated.exchange) ws spent.bound (version_of_head g.head) g.log.walk.sides g.log.before r after.log.walk.sides after.log.before)
        (sym weights_there) w.passes)

    leads : (q : GapProgress) → q ≡ in_its_group (stated_gap spent) (passing (to_line (suc is.state.line) (after_step Aimed group Target after.log.walk.sides after.log.before))) → IsGapAfter p r q
    leads q e = subst (λ (o : GapProgress). IsGapAfter o r q) (sym come) (passing (to_line (suc is.state.line) (after_step Aimed group Target after.log.walk.sides after.log.before)), takes, e)

    -- the log is complete
    pub log_closes : closed ≡ true → TakesGapFurther n (gap.Close spent) p r
    log_closes e = record {
      after = at_close (stated_gap spent) (suc n);
      leads = leads (at_close (stated_gap spent) (suc n)) (
          ap (at_close (stated_gap spent)) (ap suc (sym is.line_is))
          ∙ sym (ap (λ (b : Bool). cond b (in_group (stated_gap spent) (with_target spent.bound (to_line (suc is.state.line) (after_log Aimed group Target)))) (at_close (stated_gap spent) (suc is.state.line)))
          (log_leaves Aimed group Target is_one))
          ∙ ap (λ (sides : List Side). in_its_group (stated_gap spent) (passing (to_line (suc is.state.line) (after_step Aimed group Target sides after.log.before)))) (sym (w.closed_is.0 e))
          );
      stands = refl;
    }

    next_same : after.next ≡ coming.Step group
    next_same = ap (λ (x : Groups). x.next) w.same ∙ now

    abbrev Then : State
    Then = to_line (suc is.state.line) (known_in after after.next (known_in g (coming.Step group) is.state))

    then_stands : StandsFor after Then
    then_stands = stands_known after (suc is.state.line) (known_in g (coming.Step group) is.state) (subst IsQuiet (sym next_same) tt)

    -- the same state, but for the target of its log
    aimed_then : (h : Group) (log : LogWalk) → HasLog h
        → with_target spent.bound (to_line (suc is.state.line) (known_in (record g { log = log }) (coming.Step h) (known_in g (coming.Step h) is.state)))
        ≡ to_line (suc is.state.line) (go_to (at_log h Target log.walk.sides log.before) (known_in g (coming.Step h) is.state))
    aimed_then Assign log has = absurd has
    aimed_then Final log has = refl
    aimed_then Rival log has = refl
    aimed_then Provisional log has = refl
    aimed_then (Without b) log has = refl

    then_is : with_target spent.bound Then ≡ to_line (suc is.state.line) (go_to (at_log group Target after.log.walk.sides after.log.before) (known_in g (coming.Step group) is.state))
    then_is =
        ap (λ (x : Groups). with_target spent.bound (to_line (suc is.state.line) (known_in x x.next (known_in g (coming.Step group) is.state)))) w.same
        ∙ ap (λ (m : Next). with_target spent.bound (to_line (suc is.state.line) (known_in (record g { log = after.log }) m (known_in g (coming.Step group) is.state)))) now
        ∙ aimed_then group after.log holds.log

    -- sides are open
    pub log_goes : closed ≡ false → GoesInside n spent after p r
    log_goes e = by after.log.walk.sides refl
      where
        by : (sides : List Side) → after.log.walk.sides ≡ sides → GoesInside n spent after p r
        by [] none = absurd (true≢false (sym (w.closed_is.1 none) ∙ e))
        by (first ∷ others) some = record {
          after = in_group (stated_gap spent) (with_target spent.bound Then);
          leads = leads (in_group (stated_gap spent) (with_target spent.bound Then)) (
              ap (in_group (stated_gap spent)) (then_is ∙ ap (λ (sides : List Side). to_line (suc is.state.line) (go_to (at_log group Target sides after.log.before) (known_in g (coming.Step group) is.state))) some)
              ∙ ap (λ (sides : List Side). in_its_group (stated_gap spent) (passing (to_line (suc is.state.line) (after_step Aimed group Target sides after.log.before)))) (sym some)
              );
          stands = record {
            state = Then;
            come = refl;
            line_is = ap suc is.line_is;
            stands = then_stands;
            next_is = subst (IsInGroup spent.group) (sym next_same) same_group;
            valued = is.valued;
          };
        }

  pub log_fails : (y : Rule) → FailsStep (trees_of g.stated.exchange) (exact_of g.stated.exchange) g.log.weights spent.bound (version_of_head g.head) g.log.walk.sides g.log.before r y
      → TakesGapFurther n (gap.Failed n y) p r
  log_fails y h = record {
    after = checking (failed (record { line = n; rule = y }));
    leads = subst (λ (o : GapProgress). IsGapAfter o r (checking (failed (record { line = n; rule = y })))) (sym come) (
      failed (record { line = n; rule = y }),
      subst (λ (k : ℕ). TakesOn Aimed r (failed (record { line = k; rule = y }))) is.line_is
          (record_fails (known_in g (coming.Step group) is.state) group Target g.log.walk.sides g.log.before r y opened_sides kept.walk.goods
          (subst (λ (ws : List Weights). FailsStep (trees_of g.stated.exchange) (exact_of g.stated.exchange) ws spent.bound (version_of_head g.head) g.log.walk.sides g.log.before r y) (sym weights_there) h)),
      refl,
    );
    stands = refl;
  }

pub log_kept : (target : ℤ) (g after : Groups) (r : Record) (group : Group) → g.next ≡ coming.Step group → AreKept g → HasOpen g group → WalksOn target g r false after
    → AreKept after × IsReady after after.next
log_kept target g after r group now kept holds w =
    subst (λ (x : Groups). AreKept x × IsReady x x.next) (sym w.same) (
      record { lawful = kept.lawful; walk = w.walk; room = kept.room; offer = kept.offer; number = kept.number },
      subst (IsReady (record g { log = after.log })) (sym now) (
        record {
          at = record { of = holds.at.of; there = holds.at.there; withouts = holds.at.withouts; round = holds.at.round; fresh = holds.at.fresh };
          log = holds.log;
          full = holds.full;
          weights = w.weights ∙ holds.weights;
        },
        some after.log.walk.sides refl,
      ),
    )
  where
    some : (sides : List Side) → after.log.walk.sides ≡ sides → 0 < length sides
    some [] e = absurd (false≢true (w.closed_is.1 e))
    some (side ∷ sides) e = omega arith

-- what is ready at a step
pub step_ready : (g : Groups) (group : Group) → g.next ≡ coming.Step group → IsReady g g.next → HasOpen g group × (0 < length g.log.walk.sides)
step_ready g group now ready = subst (IsReady g) now ready

-- ---- the head

pub head_lawful : (g : Group) (value bound : ℤ) → IsThere 40 g → IsRecord (line.spent value bound) → IsRecord (head_of_group g value)
head_lawful Assign value bound there is = tt
head_lawful Final value bound there is = is.0
head_lawful Rival value bound there is = is.0
head_lawful Provisional value bound there is = is.0
head_lawful (Without b) value bound there is = (omega (arith, there), is.0)

-- ---- what is answered

short_at : (s : State) (place : Place) → place ≢ done → answer_at_end s place ≡ gap_is.No s.line rule.Short
short_at s done ne = absurd (ne refl)
short_at s other ne = refl

abbrev found_so : GapAnswer → Result GapAnswer CheckEnd
found_so a = Ok a

passing_gives : (n : ℕ) (s : State) (a : Result Answer CheckEnd) → s.line ≡ n → EndsWith (passing s) a → gap_answer (checking (passing s)) ≡ gapless_answer n a
passing_gives n s (Ok (answer.Assign value)) at h = ap (λ (p : Place). found_so (answer_at_end s p)) h.0 ∙ ap (λ (k : ℕ). found_so (gap_is.NoGap k)) at
passing_gives n s (Ok (answer.Regret amount)) at h = ap (λ (p : Place). found_so (answer_at_end s p)) h.0 ∙ ap (λ (k : ℕ). found_so (gap_is.NoGap k)) at
passing_gives n s (Ok (answer.Closed regret surplus)) at h = ap (λ (p : Place). found_so (answer_at_end s p)) h.0 ∙ ap (λ (k : ℕ). found_so (gap_is.NoGap k)) at
passing_gives n s (Ok (answer.No there test)) at h =
    ap found_so (short_at s s.place h.0) ∙ ap (λ (k : ℕ). found_so (gap_is.No k rule.Short)) (sym h.1) ∙ ap (λ (x : Rule). found_so (gap_is.No there x)) (sym h.2)
passing_gives n s (Err end) at h = absurd h

found_gives : (n : ℕ) (x : Stage) (p : Progress) (a : Result Answer CheckEnd) → IsProgress n x p → EndsWith p a → gap_answer (checking p) ≡ gapless_answer n a
found_gives n x nothing a is e = sym (ap (gapless_answer n) e)
found_gives n x other_kind a is e = sym (ap (gapless_answer n) e)
found_gives n x (passing s) a is e = passing_gives n s a (line_at n x s is) e
found_gives n x (failed failure) a is e = sym (ap (gapless_answer n) e)
found_gives n x out_of_memory a is e = sym (ap (gapless_answer n) e)

pub before_gives : (n : ℕ) (x : Stage) (a : Result Answer CheckEnd) (p : GapProgress) → ((q : Progress) → IsProgress n x q → EndsWith q a) → (q : Progress) × (p ≡ checking q) × IsProgress n x q
    → gap_answer p ≡ gapless_answer n a
before_gives n x a p ends (q, e, is) = ap gap_answer e ∙ found_gives n x q a is (ends q is)
