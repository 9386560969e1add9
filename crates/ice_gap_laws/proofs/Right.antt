-- What a gap says is right.
use Rattle.std.proofs.Common.{◌≡◌, ◌<◌, ℕ, suc, Bool, true, false, cond, eqb, List, [], ◌∷◌, ◌++◌, length, map, ℤ, pos, refl, sym, ◌∙◌, ap, subst, arith, length-append}
use Rattle.std.specs.Prelude.{◌&&◌, is_none, ◌≢◌, Option, Some, None, option_map, IsTrue, IsSome, IfSome, IsSomeAnd, int_lt, ◌<ℤ◌, Result, Ok}
use Rattle.std.specs.List.{AllByRecursion}
use Rattle.std.proofs.lemmas.Bool.{eqb-true, eqb-false, false≢true}
use Rattle.std.proofs.lemmas.Option.{none-some, same_Some}
use Rattle.std.proofs.lemmas.Int.{ints}
use Rattle.std.proofs.lemmas.List.{append-nil, append_assoc, length-replicate, length-map}
use Rattle.ice_defs.proofs.Lists.{all_push}
use Rattle.ice_defs.proofs.Starts.{meets_free_side, meets_without}
use Rattle.ice_defs.specs.Set.{NodeSet}
use Rattle.ice_defs.specs.Trade.{Assignment, total_value, total_units, is_exact, IsCovered, IsFeasible, MeetsAll}
use Rattle.ice_defs.specs.Tree.{Tree}
use Rattle.ice_defs.specs.Bound.{Multipliers}
use Rattle.ice_defs.specs.Derived.{goods_alone}
use Rattle.ice_defs.specs.Steps.{Step, branch, leaf, dead, Side, sides_after}
use Rattle.ice_defs.specs.Log.{Passes}
use Rattle.ice_defs.specs.declared.Group.{Group}
use Rattle.ice_defs.specs.declared.Group.TheVariants.{Assign, Final, Rival, Provisional, Without}
use Rattle.ice_defs.specs.Group.{start_of}
use Rattle.ice_defs.specs.Exchange.{Bidder}
use Rattle.ice_journal.specs.Records.{Record, Version, version_1, version_2, assign_end, exchange_end, prices_end, regret_end, closed_end, open_end, spent_end, limit_end}
use Rattle.ice_journal.specs.Records as line
use Rattle.ice_journal.specs.Plain.{all_zero, after_changes}
use Rattle.ice_journal.specs.Ranges.{IsRecord}
use Rattle.ice_refute.specs.Code.{CountsGoods}
use Rattle.ice_refute.specs.Passing.{PassesAt}
use Rattle.ice_refute.proofs.Reading.{Stands, stands_at_start, stands_more, stands_closed}
use Rattle.ice_refute.proofs.Refutes.{log_refutes}
use Rattle.ice_section.specs.Section.{may_end}
use Rattle.ice_journal_laws.specs.declared.answer.CheckEnd.{CheckEnd}
use Rattle.ice_journal_laws.specs.declared.rule.Rule.{Rule}
use Rattle.ice_journal_laws.specs.declared.rule.Rule.TheVariants as rule
use Rattle.ice_journal_laws.specs.Fields.{is_end, row_in, counted_step, unchanged_step, step_in, multipliers_after}
use Rattle.ice_journal_laws.specs.State.{Stated, Place, at_section, at_group, at_threshold, at_sets, at_log, at_accuracy_rows, at_balance_rows, done, State, exchange_at, trees_at, exact_at, goods_at, weights_at}
use Rattle.ice_journal_laws.specs.Next.{next, next_at, may_have_row, go_to, to_line, bidder_count, with_set, after_sets, after_log, after_step, after_section, past_section}
use Rattle.ice_journal_laws.specs.Tests.{Fails, Complete, is_valued, Taken, IsClosing, HasSign, IsFixed, IsAlive, IsStop, ended_list, Holds}
use Rattle.ice_journal_laws.specs.Progress.{Progress, nothing, other_kind, passing, failed, out_of_memory, TakesOn, passes_on, fails_at, list_fails_at, IsAfter, Leads}
use Rattle.ice_journal_laws.specs.Progress as progress
use Rattle.ice_journal_laws.proofs.Assigning.{AreSatisfied, set_passes}
use Rattle.ice_journal_laws.proofs.CarriedGroup.{begins_log}
use Rattle.ice_journal_laws.proofs.Faultless.{covered}
use Rattle.ice_journal_laws.proofs.Grouping.{IsLeftOut, left_more, step_passes, of_same, set_text}
use Rattle.ice_journal_laws.proofs.Leading.{leads_more}
use Rattle.ice_journal_laws.proofs.Plaining.{length_after, changed_length}
use Rattle.ice_journal_laws.proofs.Heads.{all_left}
use Rattle.ice_gap_laws.specs.declared.answer.GapAnswer.{GapAnswer}
use Rattle.ice_gap_laws.specs.declared.answer.GapAnswer.TheVariants as answer
use Rattle.ice_gap_laws.specs.Gap.{Gap, next_group, gap_in, before_head, at_gap_sets, is_in_group, with_target, GapProgress, checking, in_group, at_close, ended, no_gap, from_stop, unless_stopped, in_its_group, out_of_order, IsGapAfter, GapLeads, stays, goes, IsThere}
use Rattle.ice_gap_laws.specs.Answers.{answer_at_end, gap_answer}
use Rattle.ice_gap_laws.specs.Laws.{EndsThere, IsGap, StatesGap, GapIsRight}
use Rattle.ice_gap_laws.proofs.Ready.{IsAwaited, is_awaited}

abbrev spent_record : Gap → Record
spent_record gap = line.spent gap.value gap.bound

abbrev stated : ℤ → Assignment → Stated
stated value sets = record { value = value; sets = sets }

-- ---- what is known in a gap

module _ (gap : Gap) (now : State) where
  -- the sets so far
  record SetsSaid (sets : Assignment) : Type 0 where
    pub room : length sets < length (trees_at now)
    pub satisfied : AreSatisfied (trees_at now) sets
    pub left : IsLeftOut gap.group sets

  -- all sets are there, and the log so far leaves these sides open
  record LogSaid (sets : Assignment) (sides : List Side) (m : Multipliers) : Type 0 where
    pub log : List Step
    pub count : length m ≡ goods_at now
    pub feasible : IsFeasible (trees_at now) (exact_at now) sets
    pub valued : total_value sets (weights_at now gap.group) ≡ gap.value
    pub left : IsLeftOut gap.group sets
    pub counts : AllByRecursion (CountsGoods (goods_at now)) log
    pub stands : (rest : List Step) → Stands goods_alone (trees_at now) (exact_at now) (weights_at now gap.group) gap.bound (start_of (trees_at now) gap.group) (log ++ rest) sides rest

  -- and the log passes
  record GapSaid (sets : Assignment) : Type 0 where
    pub log : List Step
    pub feasible : IsFeasible (trees_at now) (exact_at now) sets
    pub valued : total_value sets (weights_at now gap.group) ≡ gap.value
    pub left : IsLeftOut gap.group sets
    pub counts : AllByRecursion (CountsGoods (goods_at now)) log
    pub passes : Passes (trees_at now) (exact_at now) (weights_at now gap.group) gap.bound (start_of (trees_at now) gap.group) log

  data InGap (front : List Record) : List Record → State → Type 0 where
    in_sets : (n : ℕ) (sets : Assignment) → SetsSaid sets
        → InGap front (front ++ spent_record gap ∷ map line.set sets) (to_line n (go_to (at_sets gap.group (stated gap.value sets)) now))
    in_log : (n : ℕ) (sets : Assignment) (steps : List Record) (side : Side) (sides : List Side) (m : Multipliers) → LogSaid sets (side ∷ sides) m
        → InGap front (front ++ spent_record gap ∷ map line.set sets ++ steps) (to_line n (go_to (at_log gap.group (stated gap.bound sets) (side ∷ sides) m) now))

-- the records before the stop pass, and the head of its group is awaited
record Stopped (front : List Record) (gap : Gap) (s : State) : Type 0 where
  pub leads : Leads nothing front (passing s)
  pub awaits : next_group s.kind s.place ≡ Some gap.group
  pub is : IsAwaited gap.group (before_head s.place s)
  pub below : gap.value <ℤ gap.bound

-- what is known where the tests have come so far
abbrev Known : List Record → GapProgress → Type 0
Known before (checking (failed failure)) = Unit {0}
Known before (checking out_of_memory) = Unit {0}
Known before (checking p) = Leads nothing before p
Known before (in_group gap s) = (front : List Record) × (t : State) × Stopped front gap t × InGap gap (before_head t.place t) front before s
Known before (at_close gap n) = (front : List Record) × (t : State) × (sets : Assignment) × (steps : List Record) × Stopped front gap t
    × (before ≡ front ++ spent_record gap ∷ map line.set sets ++ steps) × GapSaid gap (before_head t.place t) sets
Known before (ended gap n) = StatesGap before gap
Known before (no_gap n) = Unit {0}

-- ---- the sets

no_steps : (front : List Record) (first : Record) (sets : Assignment) → front ++ first ∷ map line.set sets ≡ front ++ first ∷ map line.set sets ++ []
no_steps front first sets = sym (append-nil (front ++ first ∷ map line.set sets))

-- a step counts the goods
counts_1 : (goods : ℕ) (s x : Step) → counted_step goods s ≡ Some x → CountsGoods goods x
counts_1 goods (branch b n) x e = subst (CountsGoods goods) (same_Some (branch b n) x e) tt
counts_1 goods (leaf new) x e = by (eqb (length new) goods) refl e
  where
    by : (t : Bool) → eqb (length new) goods ≡ t → cond t (Some (leaf new)) None ≡ Some x → CountsGoods goods x
    by true same f = subst (CountsGoods goods) (same_Some (leaf new) x f) (eqb-true (length new) goods same)
    by false same f = absurd (none-some x f)
counts_1 goods (dead b) x e = subst (CountsGoods goods) (same_Some (dead b) x e) tt

counts_2 : (goods : ℕ) (s x : Step) → unchanged_step s ≡ Some x → CountsGoods goods x
counts_2 goods (branch b n) x e = subst (CountsGoods goods) (same_Some (branch b n) x e) tt
counts_2 goods (leaf new) x e = absurd (none-some x e)
counts_2 goods (dead b) x e = subst (CountsGoods goods) (same_Some (dead b) x e) tt

step_counts : (v : Version) (goods : ℕ) (m : Multipliers) (r : Record) (x : Step) → length m ≡ goods → step_in v goods m r ≡ Some x → CountsGoods goods x
step_counts version_1 goods m (line.step s) x count e = counts_1 goods s x e
step_counts version_2 goods m (line.step s) x count e = counts_2 goods s x e
step_counts version_2 goods m (line.near changes) x count e =
    subst (CountsGoods goods) (same_Some (leaf (after_changes m changes)) x e) (changed_length m changes ∙ count)
step_counts version_1 goods m other x count e = absurd (none-some x e)
step_counts version_2 goods m other x count e = absurd (none-some x e)

-- a log follows the sets
-- behind the log the group is left
pub log_leaves : (s : State) (g : Group) (found : Stated) → is_valued g ≡ true → is_in_group (after_log s g found).place ≡ false
log_leaves s Assign found v = absurd (false≢true v)
log_leaves s Final found v = refl
log_leaves s Rival found v = refl
log_leaves s Provisional found v = refl
log_leaves s (Without b) found v = by (eqb (suc b) (bidder_count s))
  where
    by : (t : Bool) → is_in_group (cond t at_threshold (at_group (Without (suc b)))) ≡ false
    by true = refl
    by false = refl

module _ (front : List Record) (gap : Gap) (t : State) (from : Stopped front gap t) where
  abbrev Now : State
  Now = before_head t.place t

  abbrev AtSets : ℕ → Assignment → State
  AtSets n sets = to_line n (go_to (at_sets gap.group (stated gap.value sets)) (before_head t.place t))

  abbrev AtLog : ℕ → Assignment → List Side → Multipliers → State
  AtLog n sets sides m = to_line n (go_to (at_log gap.group (stated gap.bound sets) sides m) (before_head t.place t))

  -- the state of a record that passes
  abbrev Then : List Record → State → Type 0
  Then before s = Known before (in_its_group gap (passing s))

  set_on : (n : ℕ) (sets : Assignment) (x : NodeSet) (after : State) → SetsSaid gap (before_head t.place t) sets → next (AtSets n sets) (line.set x) ≡ Some after
      → ((k : Rule) → ¬ Fails k (AtSets n sets) (line.set x)) → Then ((front ++ spent_record gap ∷ map line.set sets) ++ line.set x ∷ []) after
  set_on n sets x after is e pass = by (eqb (suc (length sets)) (bidder_count Now)) refl e
    where
      each : AreSatisfied (trees_at Now) (sets ++ x ∷ [])
      each = set_passes (AtSets n sets) gap.group (stated gap.value sets) x is.room is.satisfied pass

      left : IsLeftOut gap.group (sets ++ x ∷ [])
      left = left_more (AtSets n sets) gap.group (stated gap.value sets) x is.left (pass rule.Fixing)

      mine : Complete
      mine = record { group = gap.group; stated = with_set (stated gap.value sets) x }

      unbalanced : Bool → Type 0
      unbalanced b = IsSomeAnd (cond b (Some mine) None) (λ (c : Complete). (k : ℕ) × (k < goods_at Now) × ¬ IsCovered (is_exact (exact_at Now) k) (total_units (trees_at Now) c.stated.sets k) (pos 0))

      misvalued : Bool → Type 0
      misvalued b = IsSomeAnd (cond b (Some mine) None) (λ (c : Complete). IsTrue (is_valued c.group) × (total_value c.stated.sets (weights_at Now c.group) ≢ c.stated.value))

      by : (b : Bool) → eqb (suc (length sets)) (bidder_count Now) ≡ b
          → Some (to_line (suc n) (cond b (after_sets (AtSets n sets) gap.group (with_set (stated gap.value sets) x)) (go_to (at_sets gap.group (with_set (stated gap.value sets) x)) (AtSets n sets)))) ≡ Some after
          → Then ((front ++ spent_record gap ∷ map line.set sets) ++ line.set x ∷ []) after
      by true last h =
          of_same (to_line (suc n) (go_to (at_log gap.group (stated gap.value (sets ++ x ∷ [])) (start_of (trees_at Now) gap.group ∷ []) (all_zero (goods_at Now))) Now)) after
          (ap (λ (s : State). Some (to_line (suc n) s)) (sym (begins_log (AtSets n sets) gap.group (with_set (stated gap.value sets) x) from.is.valued)) ∙ h)
          (Then ((front ++ spent_record gap ∷ map line.set sets) ++ line.set x ∷ [])) (
            front,
            t,
            from,
            subst (λ (rs : List Record). InGap gap Now front rs (AtLog (suc n) (sets ++ x ∷ []) (start_of (trees_at Now) gap.group ∷ []) (all_zero (goods_at Now))))
                (sym (set_text front (spent_record gap) sets x ∙ no_steps front (spent_record gap) (sets ++ x ∷ [])))
                (in_log (suc n) (sets ++ x ∷ []) [] (start_of (trees_at Now) gap.group) [] (all_zero (goods_at Now)) (record {
                  log = [];
                  count = length-replicate (goods_at Now) (pos 0);
                  feasible = record {
                    same_length = length-append sets (x ∷ []) ∙ omega (arith, eqb-true (suc (length sets)) (bidder_count Now) last);
                    satisfied = λ b l. each b (omega (arith, length-append sets (x ∷ []), eqb-true (suc (length sets)) (bidder_count Now) last));
                    balanced = λ k l. covered _ _ _ (λ no. subst (λ b. ¬ unbalanced b) last (pass rule.Excess) (k, l, no));
                  };
                  valued = covered true _ _ (λ no. subst (λ b. ¬ misvalued b) last (pass rule.Value) (from.is.valued, no));
                  left = left;
                  counts = tt;
                  stands = λ rest. stands_at_start goods_alone _ _ _ _ (start_of (trees_at Now) gap.group) rest;
                })),
          )
      by false open_set h =
          of_same (AtSets (suc n) (sets ++ x ∷ [])) after h (Then ((front ++ spent_record gap ∷ map line.set sets) ++ line.set x ∷ [])) (
            front,
            t,
            from,
            subst (λ (rs : List Record). InGap gap Now front rs (AtSets (suc n) (sets ++ x ∷ []))) (sym (set_text front (spent_record gap) sets x))
                (in_sets (suc n) (sets ++ x ∷ []) (record {
                  room = omega (arith, length-append sets (x ∷ []), eqb-false (suc (length sets)) (bidder_count Now) open_set, is.room);
                  satisfied = each;
                  left = left;
                })),
          )

  sets_on : (n : ℕ) (sets : Assignment) (r : Record) (after : State) → SetsSaid gap (before_head t.place t) sets → next (AtSets n sets) r ≡ Some after
      → ((k : Rule) → ¬ Fails k (AtSets n sets) r) → Then ((front ++ spent_record gap ∷ map line.set sets) ++ r ∷ []) after
  sets_on n sets (line.set x) after is e pass = set_on n sets x after is e pass
  sets_on n sets other after is e pass = absurd (none-some after e)

  -- ---- the log

  log_closed : (sets : Assignment) (m : Multipliers) → LogSaid gap (before_head t.place t) sets [] m → GapSaid gap (before_head t.place t) sets
  log_closed sets m is = record {
    log = is.log;
    feasible = is.feasible;
    valued = is.valued;
    left = is.left;
    counts = is.counts;
    passes =
        stands_closed goods_alone (trees_at Now) (exact_at Now) (weights_at Now gap.group) gap.bound (start_of (trees_at Now) gap.group) is.log
        (subst (λ (log : List Step). Stands goods_alone (trees_at Now) (exact_at Now) (weights_at Now gap.group) gap.bound (start_of (trees_at Now) gap.group) log [] []) (append-nil is.log) (is.stands []));
  }

  log_on : (n : ℕ) (sets : Assignment) (steps : List Record) (side : Side) (sides : List Side) (m : Multipliers) (r : Record) (after : State) → LogSaid gap (before_head t.place t) sets (side ∷ sides) m
      → next (AtLog n sets (side ∷ sides) m) r ≡ Some after → ((k : Rule) → ¬ Fails k (AtLog n sets (side ∷ sides) m) r) → Holds (AtLog n sets (side ∷ sides) m) r
      → Then ((front ++ spent_record gap ∷ map line.set sets ++ steps) ++ r ∷ []) after
  log_on n sets steps side sides m r after is e pass holds = by (step_in Now.version (goods_at Now) m r) refl e
    where
      taken : Step → Taken
      taken x = record { group = gap.group; target = gap.bound; side = side; before = m; step = x }

      passes : (x : Step) → step_in Now.version (goods_at Now) m r ≡ Some x → PassesAt (trees_at Now) (exact_at Now) (weights_at Now gap.group) gap.bound side x
      passes x f =
          step_passes (AtLog n sets (side ∷ sides) m) gap.group (stated gap.bound sets) side m x
          (subst (λ (o : Option Step). ¬ IsSomeAnd (option_map taken o) (λ u. HasSign Now u.step)) f (pass rule.Sign))
          (subst (λ (o : Option Step). ¬ IsSomeAnd (option_map taken o) (λ u. IsFixed Now u.side u.step)) f (pass rule.Fixed))
          (subst (λ (o : Option Step). ¬ IsSomeAnd (option_map taken o) (λ u. IsAlive Now u.side u.step)) f (pass rule.Alive))
          (subst (λ (o : Option Step). IfSome (option_map taken o) (λ u. IsClosing Now u u.step)) f holds.leaf)

      added : (x : Step) → step_in Now.version (goods_at Now) m r ≡ Some x → LogSaid gap Now sets (sides_after (side ∷ sides) x) (multipliers_after m x)
      added x f = record {
        log = is.log ++ x ∷ [];
        count = length_after (goods_at Now) m x is.count (step_counts Now.version (goods_at Now) m r x is.count f);
        feasible = is.feasible;
        valued = is.valued;
        left = is.left;
        counts = all_push (CountsGoods (goods_at Now)) is.log x is.counts (step_counts Now.version (goods_at Now) m r x is.count f);
        stands = λ rest.
            subst (λ (log : List Step). Stands goods_alone (trees_at Now) (exact_at Now) (weights_at Now gap.group) gap.bound (start_of (trees_at Now) gap.group) log (sides_after (side ∷ sides) x) rest) (sym (append_assoc is.log (x ∷ []) rest))
            (stands_more goods_alone (trees_at Now) (exact_at Now) (weights_at Now gap.group) gap.bound (start_of (trees_at Now) gap.group) (is.log ++ x ∷ rest) side sides x rest (passes x f) (is.stands (x ∷ rest)));
      }

      Behind : List Record
      Behind = (front ++ spent_record gap ∷ map line.set sets ++ steps) ++ r ∷ []

      text : (front ++ spent_record gap ∷ map line.set sets ++ steps) ++ r ∷ [] ≡ front ++ spent_record gap ∷ map line.set sets ++ (steps ++ r ∷ [])
      text = append_assoc (front ++ spent_record gap ∷ map line.set sets) steps (r ∷ [])

      on : (x : Step) (open_sides : List Side) → LogSaid gap Now sets open_sides (multipliers_after m x)
          → Some (to_line (suc n) (after_step (AtLog n sets (side ∷ sides) m) gap.group (stated gap.bound sets) open_sides (multipliers_after m x))) ≡ Some after
          → Then ((front ++ spent_record gap ∷ map line.set sets ++ steps) ++ r ∷ []) after
      on x [] said h =
          of_same (to_line (suc n) (after_log (AtLog n sets (side ∷ sides) m) gap.group (stated gap.bound sets))) after h (Then ((front ++ spent_record gap ∷ map line.set sets ++ steps) ++ r ∷ []))
          (subst
          (λ (b : Bool). Known ((front ++ spent_record gap ∷ map line.set sets ++ steps) ++ r ∷ [])
          (cond b (in_group gap (with_target gap.bound (to_line (suc n) (after_log (AtLog n sets (side ∷ sides) m) gap.group (stated gap.bound sets))))) (at_close gap (suc n))))
          (sym (log_leaves (AtLog n sets (side ∷ sides) m) gap.group (stated gap.bound sets) from.is.valued))
          (front, t, sets, steps ++ r ∷ [], from, text, log_closed sets (multipliers_after m x) said))
      on x (first ∷ others) said h =
          of_same (AtLog (suc n) sets (first ∷ others) (multipliers_after m x)) after h (Then ((front ++ spent_record gap ∷ map line.set sets ++ steps) ++ r ∷ [])) (
            front,
            t,
            from,
            subst (λ (rs : List Record). InGap gap Now front rs (AtLog (suc n) sets (first ∷ others) (multipliers_after m x))) (sym text)
                (in_log (suc n) sets (steps ++ r ∷ []) first others (multipliers_after m x) said),
          )

      by : (o : Option Step) → step_in Now.version (goods_at Now) m r ≡ o
          → option_map (to_line (suc n)) (option_map (λ x. after_step (AtLog n sets (side ∷ sides) m) gap.group (stated gap.bound sets) (sides_after (side ∷ sides) x) (multipliers_after m x)) o) ≡ Some after
          → Then ((front ++ spent_record gap ∷ map line.set sets ++ steps) ++ r ∷ []) after
      by (Some x) f h = on x (sides_after (side ∷ sides) x) (added x f) h
      by None f h = absurd (none-some after h)

  gap_on : (before : List Record) (s : State) (r : Record) (q : Progress) → InGap gap (before_head t.place t) front before s → TakesOn s r q → Known (before ++ r ∷ []) (in_its_group gap q)
  gap_on before s r q (in_sets n sets is) (passes_on {after = after} list none holds e) = sets_on n sets r after is e none
  gap_on before s r q (in_log n sets steps side sides m is) (passes_on {after = after} list none holds e) = log_on n sets steps side sides m r after is e none holds
  gap_on before s r q is (fails_at list first) = tt
  gap_on before s r q is (list_fails_at e fails) = tt

-- ---- the end

is_spent_end : (r : Record) → is_end spent_end r ≡ true → r ≡ line.end spent_end
is_spent_end (line.end spent_end) e = refl
is_spent_end (line.end assign_end) e = absurd (false≢true e)
is_spent_end (line.end exchange_end) e = absurd (false≢true e)
is_spent_end (line.end prices_end) e = absurd (false≢true e)
is_spent_end (line.end regret_end) e = absurd (false≢true e)
is_spent_end (line.end closed_end) e = absurd (false≢true e)
is_spent_end (line.end open_end) e = absurd (false≢true e)
is_spent_end (line.end limit_end) e = absurd (false≢true e)
is_spent_end other e = absurd (false≢true e)

-- whom the group leaves out has nothing in the sets
meets : (ts : List Tree) (g : Group) (sets : Assignment) → IsThere (length ts) g → length sets ≡ length ts → IsLeftOut g sets → MeetsAll sets (start_of ts g)
meets ts Assign sets there count left = meets_free_side ts sets
meets ts Final sets there count left = meets_free_side ts sets
meets ts Rival sets there count left = meets_free_side ts sets
meets ts Provisional sets there count left = meets_free_side ts sets
meets ts (Without b) sets there count left = meets_without ts b sets there (left (omega (arith, there, count)))

is_gap : (front : List Record) (gap : Gap) (t : State) (sets : Assignment) → Stopped front gap t → GapSaid gap (before_head t.place t) sets
    → IsGap (exchange_at (before_head t.place t)) (before_head t.place t).bounds (before_head t.place t).final.sets gap sets
is_gap front gap t sets from is = record {
  exchange = from.is.exchange;
  below = from.below;
  competes = (is.feasible, meets (trees_at Now) gap.group sets from.is.there is.feasible.same_length is.left);
  worth = is.valued;
  bound_is = λ a h. log_refutes (trees_at Now) (exact_at Now) (weights_at Now gap.group) gap.bound (start_of (trees_at Now) gap.group) is.log a is.counts is.passes h.0 h.1;
}
  where
    Now : State
    Now = before_head t.place t

close_on : (before : List Record) (gap : Gap) (n : ℕ) (r : Record) (b : Bool) → Known before (at_close gap n) → is_end spent_end r ≡ b → Known (before ++ r ∷ []) (cond b (ended gap (suc n)) (out_of_order n))
close_on before gap n r true (front, t, sets, steps, from, text, is) e = record {
  before = front;
  sets = sets;
  steps = steps;
  says = ap (λ (rs : List Record). rs ++ r ∷ []) text ∙ ap (λ (x : Record). (front ++ spent_record gap ∷ map line.set sets ++ steps) ++ x ∷ []) (is_spent_end r e);
  state = t;
  leads = from.leads;
  awaits = from.awaits;
  reached = from.is.reached;
  is = is_gap front gap t sets from is;
}
close_on before gap n r false is e = tt

-- ---- before the stop

known_of : (before : List Record) (q : Progress) → Leads nothing before q → Known before (checking q)
known_of before nothing l = l
known_of before other_kind l = l
known_of before (passing s) l = l
known_of before (failed failure) l = tt
known_of before out_of_memory l = tt

below_is : (a b : ℤ) → int_lt a b ≡ true → a <ℤ b
below_is a b e = omega (arith, ints)

-- a stop behind the exchange stands where its section may end
ends_there : (s : State) (n : ℕ) (place : Place) (value bound : ℤ) → IsSome (option_map (to_line n) (next_at s place (line.spent value bound))) → EndsThere s place
ends_there s n at_section value bound h = by (may_end s.section) refl h
  where
    by : (b : Bool) → may_end s.section ≡ b → IsSome (option_map (to_line n) (cond b (after_section (past_section s) s.kind (line.spent value bound)) None)) → may_end s.section ≡ true
    by true e h = e
    by false e h = absurd (false≢true h)
ends_there s n other value bound h = tt

-- no list of rows fails so
pub no_list : (place : Place) (r : Record) → ended_list place r ≡ Some rule.Closed → ⊥
no_list (at_accuracy_rows den rows) r e = by (is_none (row_in r) && may_have_row rows) e
  where
    by : (b : Bool) → cond b (Some rule.Accuracy) None ≡ Some rule.Closed → ⊥
    by true e = cc
    by false e = none-some rule.Closed e
no_list (at_balance_rows den rows) r e = by (is_none (row_in r) && may_have_row rows) e
  where
    by : (b : Bool) → cond b (Some rule.Balance) None ≡ Some rule.Closed → ⊥
    by true e = cc
    by false e = none-some rule.Closed e
no_list other r e = none-some rule.Closed e

module _ (before : List Record) (s : State) (records : AllByRecursion IsRecord before) (l : Leads nothing before (passing s)) where
  stop_states : (value bound : ℤ) (g : Group) (b : Bool) → IsStop s (line.spent value bound) → next_group s.kind s.place ≡ Some g → int_lt value bound ≡ b
      → Known (before ++ line.spent value bound ∷ []) (cond b (in_group (record { group = g; value = value; bound = bound }) (at_gap_sets (record { group = g; value = value; bound = bound }) s)) (no_gap s.line))
  stop_states value bound g true stop e below =
      let is = is_awaited before s g records l (ends_there s (suc s.line) s.place value bound stop.1) e in (
        before,
        s,
        record { leads = l; awaits = e; is = is; below = below_is value bound below },
        in_sets (suc s.line) [] (record {
          room = omega (arith, is.exchange.bidders_count.0, length-map (before_head s.place s).section.bidders (λ (b : Bidder). b.tree));
          satisfied = λ b k. absurd (omega arith);
          left = none_left g;
        }),
      )
    where
      none_left : (g : Group) → IsLeftOut g []
      none_left (Without b) = λ k. absurd (omega arith)
      none_left Assign = tt
      none_left Final = tt
      none_left Rival = tt
      none_left Provisional = tt
  stop_states value bound g false stop e below = tt

  stop_on : (r : Record) → IsStop s r → Known (before ++ r ∷ []) (from_stop s (gap_in s r))
  stop_on (line.spent value bound) stop = by (next_group s.kind s.place) refl
    where
      by : (o : Option Group) → next_group s.kind s.place ≡ o → Known (before ++ line.spent value bound ∷ []) (from_stop s (option_map (λ g. record { group = g; value = value; bound = bound }) o))
      by (Some g) e = stop_states value bound g (int_lt value bound) stop e refl
      by None e = tt
  stop_on other stop = tt

  passing_on : (r : Record) (q : Progress) → TakesOn s r q → Known (before ++ r ∷ []) (unless_stopped (passing s) r q)
  passing_on r q (passes_on {after = after} list none holds e) = leads_more nothing (passing s) (passing after) before r l (passes_on list none holds e)
  passing_on r q (fails_at {x = rule.Closed} list first) = stop_on r first.0
  passing_on r q (fails_at {x = other} list first) = tt
  passing_on r q (list_fails_at {x = rule.Closed} e fails) = absurd (no_list s.place r e)
  passing_on r q (list_fails_at {x = other} e fails) = tt

-- ---- all records

check_on : (before : List Record) (p : Progress) (r : Record) (q : Progress) → AllByRecursion IsRecord before → Known before (checking p) → IsAfter p r q → Known (before ++ r ∷ []) (unless_stopped p r q)
check_on before nothing r q records l is = known_of (before ++ r ∷ []) q (leads_more nothing nothing q before r l is)
check_on before other_kind r q records l is = known_of (before ++ r ∷ []) q (leads_more nothing other_kind q before r l is)
check_on before (passing s) r q records l is = passing_on before s records l r q is
check_on before (failed failure) r q records l is = subst (λ (x : Progress). Known (before ++ r ∷ []) (checking x)) (sym is) tt
check_on before out_of_memory r q records l is = absurd is

known_more : (before : List Record) (p : GapProgress) (r : Record) (after : GapProgress) → AllByRecursion IsRecord before → Known before p → IsGapAfter p r after → Known (before ++ r ∷ []) after
known_more before (checking p) r after records h (q, is, e) = subst (Known (before ++ r ∷ [])) (sym e) (check_on before p r q records h is)
known_more before (in_group gap s) r after records (front, t, from, h) (q, is, e) = subst (Known (before ++ r ∷ [])) (sym e) (gap_on front gap t from before s r q h is)
known_more before (at_close gap n) r after records h e = subst (Known (before ++ r ∷ [])) (sym e) (close_on before gap n r (is_end spent_end r) h refl)
known_more before (ended gap n) r after records h e = subst (Known (before ++ r ∷ [])) (sym e) tt
known_more before (no_gap n) r after records h e = subst (Known (before ++ r ∷ [])) (sym e) tt

known_all : (before : List Record) (p end : GapProgress) (rest : List Record) → AllByRecursion IsRecord (before ++ rest) → Known before p → GapLeads p rest end → Known (before ++ rest) end
known_all before p end [] records h stays = subst (λ (rs : List Record). Known rs end) (sym (append-nil before)) h
known_all before p end (r ∷ rest) records h (goes {q = after} is l) =
    subst (λ (rs : List Record). Known rs end) (append_assoc before (r ∷ []) rest)
    (known_all (before ++ r ∷ []) after end rest (subst (AllByRecursion IsRecord) (sym (append_assoc before (r ∷ []) rest)) records)
    (known_more before p r after (all_left before (r ∷ rest) records) h is) l)

-- ---- the answer

no_end : (s : State) (place : Place) (a : GapAnswer) (g : Group) (value bound : ℤ) → a ≡ answer_at_end s place → a ≡ answer.Gap g value bound → ⊥
no_end s done a g value bound e f = cc
no_end s other a g value bound e f = cc

no_answer : (p : GapProgress) (a : GapAnswer) → gap_answer p ≡ Ok a → (g : Group) (value bound : ℤ) → a ≡ answer.Gap g value bound → (P : GapProgress → Type 0)
    → ((gap : Gap) (n : ℕ) → gap.group ≡ g → gap.value ≡ value → gap.bound ≡ bound → P (ended gap n)) → P p
no_answer (ended gap n) a e g value bound f P is = is gap n (cc) (cc) (cc)
no_answer (checking (passing s)) a e g value bound f P is = absurd (no_end s s.place a g value bound (cc) f)
no_answer other a e g value bound f P is = absurd (let h : gap_answer other ≡ Ok (answer.Gap g value bound) = e ∙ ap (λ (x : GapAnswer). (let o : Result GapAnswer CheckEnd = Ok x in o)) f in cc)

pub gap_is_right : GapIsRight
gap_is_right bytes gap (journal, is, (p, l, e)) = (
  journal,
  is,
  no_answer p (answer.Gap gap.group gap.value gap.bound) e gap.group gap.value gap.bound refl (λ q. Known journal q → StatesGap journal gap)
      (λ mine n g v b h. subst (StatesGap journal) (λ i. record { group = g i; value = v i; bound = b i }) h)
      (known_all [] (checking nothing) p journal is.lawful progress.stays l),
)
