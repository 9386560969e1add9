-- What a writer writes where a search spent its branches is a gap.
use Rattle.std.proofs.Common.{◌≡◌, ◌<◌, ℕ, suc, Bool, true, false, cond, List, [], ◌∷◌, ◌++◌, length, map, ℤ, refl, sym, ◌∙◌, ap, subst, arith, append_assoc, inl, inr, Result, Ok}
use Rattle.std.specs.Prelude.{int_lt, ◌<ℤ◌, Option, Some, None, option_map, IsSome}
use Rattle.std.specs.List.{AllByRecursion}
use Rattle.std.proofs.lemmas.Option.{none-some, same_Some}
use Rattle.std.proofs.lemmas.Int.{ints}
use Rattle.std.proofs.lemmas.List.{length-replicate}
use Rattle.ice_defs.specs.declared.Group.{Group}
use Rattle.ice_defs.specs.declared.Group.TheVariants.{Assign, Final, Rival, Provisional, Without}
use Rattle.ice_defs.specs.declared.Mark.TheVariants.{Never}
use Rattle.ice_defs.specs.Set.{NodeSet}
use Rattle.ice_defs.specs.Trade.{Assignment, total_value}
use Rattle.ice_defs.specs.Bound.{Multipliers}
use Rattle.ice_defs.specs.Steps.{Step, branch, leaf, dead, Side, with_mark, sides_after}
use Rattle.ice_defs.specs.Log.{Fault, Reads, ends, branches, stops, is_fixed, has_sign, is_dead_leaf, closes, is_above, is_dead, is_alive}
use Rattle.ice_defs.specs.Group.{start_of}
use Rattle.ice_defs.specs.Session.{Proved}
use Rattle.ice_refute.specs.Code.{CountsGoods}
use Rattle.ice_refute.specs.Passing.{PassesAt}
use Rattle.ice_journal.specs.Records.{Record, Version, Kind, regret_kind, spent_end}
use Rattle.ice_journal.specs.Records as line
use Rattle.ice_journal.specs.Plain.{all_zero}
use Rattle.ice_journal_laws.specs.Fields.{multipliers_after}
use Rattle.ice_journal_laws.specs.State.{Stated, Place, at_section, at_group, at_sets, at_log, State, begun, exchange_at, trees_at, exact_at, goods_at, weights_at}
use Rattle.ice_journal_laws.specs.Next.{to_line, go_to, after_section, past_section, after_sets, after_log, after_step}
use Rattle.ice_journal_laws.specs.Tests.{is_valued}
use Rattle.ice_journal_laws.specs.Assigning.{IsBalanced}
use Rattle.ice_journal_laws.specs.Checks.{is_checked}
use Rattle.ice_journal_laws.specs.Progress.{other_kind, passing, after_head, TakesOn, passes_on, fails_at, list_fails_at, Leads}
use Rattle.ice_journal_laws.specs.Progress as progress
use Rattle.ice_journal_laws.specs.Showing.{step_record, step_records}
use Rattle.ice_journal_laws.proofs.Leading.{failed_passes}
use Rattle.ice_journal_laws.proofs.Settling.{head_spent}
use Rattle.ice_journal_laws.proofs.Sets.{set_on, sets_complete}
use Rattle.ice_journal_laws.proofs.CarriedSets.{count_there, fit}
use Rattle.ice_journal_laws.proofs.CarriedGroup.{begins_log}
use Rattle.ice_journal_laws.proofs.CarriedLog.{step_takes}
use Rattle.ice_gap_laws.specs.Gap.{Gap, next_group, before_head, at_gap_sets, with_target, GapProgress, checking, in_group, at_close, ended, no_gap, from_stop, in_its_group, IsGapAfter, GapLeads, stays, goes}
use Rattle.ice_gap_laws.specs.Laws.{EndsThere, IsShownGap, gap_records, GapIsWritten}
use Rattle.ice_gap_laws.proofs.Right.{log_leaves}
use Rattle.ice_gap_laws.proofs.Heading.{group_gap, closed_at}

-- ---- pieces

gap_joins : (p q end : GapProgress) (a b : List Record) → GapLeads p a q → GapLeads q b end → GapLeads p (a ++ b) end
gap_joins p q end [] b stays h = h
gap_joins p q end (r ∷ a) b (goes {q = mid} is l) h = goes is (gap_joins mid q end a b l h)

-- records that pass in `check` do so before a stop
gap_before : (s t : State) (records : List Record) → Leads (passing s) records (passing t) → GapLeads (checking (passing s)) records (checking (passing t))
gap_before s t [] progress.stays = stays
gap_before s t (r ∷ rest) (progress.goes (passes_on {after = after} list none holds is) l) =
    goes (passing after, passes_on list none holds is, refl) (gap_before after t rest l)
gap_before s t (r ∷ rest) (progress.goes (fails_at list f) l) = absurd (failed_passes _ rest t l)
gap_before s t (r ∷ rest) (progress.goes (list_fails_at e n) l) = absurd (failed_passes _ rest t l)

is_below : (a b : ℤ) → a <ℤ b → int_lt a b ≡ true
is_below a b below = by (int_lt a b) refl
  where
    by : (t : Bool) → int_lt a b ≡ t → int_lt a b ≡ true
    by true e = e
    by false e = absurd (omega (arith, ints))

-- ---- the stop's record

spent_stops : (s : State) (kind : Kind) (place : Place) (g : Group) (value bound : ℤ) → next_group kind place ≡ Some g → EndsThere s place
    → TakesOn (record s { place = place; kind = kind }) (line.spent value bound) (closed_at (record s { place = place; kind = kind }))
spent_stops s kind (at_group Assign) g value bound e there = absurd (none-some g e)
spent_stops s kind (at_group mine) g value bound e there = head_spent (record s { kind = kind }) mine (line.spent value bound) refl
spent_stops s regret_kind at_section g value bound e there = fails_at (λ z f. absurd (none-some z f)) ((refl, subst Stands (sym there) refl), λ z l f. absurd (omega (arith, l)))
  where
    Stands : Bool → Type 0
    Stands b = IsSome (option_map (to_line (suc s.line)) (cond b (after_section (past_section (record s { place = at_section; kind = regret_kind })) regret_kind (line.spent value bound)) None))
spent_stops s kind other g value bound e there = absurd (none-some g e)

opens_gap : (s : State) (g : Group) (value bound : ℤ) → next_group s.kind s.place ≡ Some g → EndsThere s s.place → value <ℤ bound
    → IsGapAfter (checking (passing s)) (line.spent value bound) (in_group (group_gap g value bound) (at_gap_sets (group_gap g value bound) s))
opens_gap s g value bound e there below = (
  closed_at s,
  spent_stops s s.kind s.place g value bound e there,
  sym (ap (λ (o : Option Group). from_stop s (option_map (λ x. record { group = x; value = value; bound = bound }) o)) e
      ∙ ap (λ (b : Bool). cond b (in_group (group_gap g value bound) (at_gap_sets (group_gap g value bound) s)) (no_gap s.line)) (is_below value bound below)),
)

-- ---- the sets and the log

module _ (now : State) (g : Group) (p : Proved) (bound : ℤ) (valued : is_valued g ≡ true) (is : IsShownGap now g p bound) where
  abbrev Mine : Gap
  Mine = group_gap g p.value bound

  abbrev Target : Stated
  Target = record { value = bound; sets = p.sets }

  abbrev InSets : ℕ → Assignment → GapProgress
  InSets n sets = in_group (group_gap g p.value bound) (to_line n (go_to (at_sets g (record { value = p.value; sets = sets })) now))

  -- with these sides open
  abbrev InLog : ℕ → List Side → Multipliers → GapProgress
  InLog n [] m = at_close (group_gap g p.value bound) n
  InLog n (side ∷ others) m = in_group (group_gap g p.value bound) (to_line n (go_to (at_log g (record { value = bound; sets = p.sets }) (side ∷ others) m) now))

  sets_lead : (n : ℕ) (front rest : Assignment) (x : NodeSet) → front ++ x ∷ rest ≡ p.sets
      → (m : ℕ) × GapLeads (InSets n front) (map line.set (x ∷ rest)) (InLog m (start_of (trees_at now) g ∷ []) (all_zero (goods_at now)))
  sets_lead n front [] x e = (suc n, goes (passing Last, takes, same) stays)
    where
      Last : State
      Last = to_line (suc n) (after_sets (go_to (at_sets g (record { value = p.value; sets = front })) (to_line n now)) g (record { value = p.value; sets = front ++ x ∷ [] }))

      takes : TakesOn (to_line n (go_to (at_sets g (record { value = p.value; sets = front })) now)) (line.set x) (passing Last)
      takes =
          sets_complete (to_line n now) g (record { value = p.value; sets = front }) x (fit now g p.value p.sets is.feasible (λ v. is.value) is.left_out n front [] x e)
          (omega (arith, count_there now g p.value p.sets is.feasible (λ v. is.value) is.left_out front [] x e))
          (λ k l. subst (λ (sets : Assignment). IsBalanced (exchange_at now) sets k) (sym e) (is.feasible.balanced k l))
          (λ v. ap (λ (sets : Assignment). total_value sets (weights_at now g)) e ∙ is.value)

      same : InLog (suc n) (start_of (trees_at now) g ∷ []) (all_zero (goods_at now)) ≡ in_its_group Mine (passing Last)
      same = sym (
          ap (λ (t : State). in_its_group Mine (passing (to_line (suc n) t))) (begins_log (go_to (at_sets g (record { value = p.value; sets = front })) (to_line n now)) g (record { value = p.value; sets = front ++ x ∷ [] }) valued)
          ∙ ap (λ (sets : Assignment). in_group Mine (to_line (suc n) (go_to (at_log g (record { value = bound; sets = sets }) (start_of (trees_at now) g ∷ []) (all_zero (goods_at now))) now))) e
          )
  sets_lead n front (y ∷ rest) x e =
      let next = sets_lead (suc n) (front ++ x ∷ []) rest y (append_assoc front (x ∷ []) (y ∷ rest) ∙ e) in (
        next.0,
        goes (
          passing (to_line (suc n) (go_to (at_sets g (record { value = p.value; sets = front ++ x ∷ [] })) now)),
          set_on (to_line n now) g (record { value = p.value; sets = front }) x (fit now g p.value p.sets is.feasible (λ v. is.value) is.left_out n front (y ∷ rest) x e)
              (λ last. omega (arith, last, count_there now g p.value p.sets is.feasible (λ v. is.value) is.left_out front (y ∷ rest) x e)),
          refl,
        ) next.1,
      )

  abbrev Counts : List Step → Type 0
  Counts log = AllByRecursion (CountsGoods (goods_at now)) log

  step_leads : (n : ℕ) (side : Side) (others : List Side) (m : Multipliers) (x : Step) → length m ≡ goods_at now → CountsGoods (goods_at now) x
      → PassesAt (trees_at now) (exact_at now) (weights_at now g) bound side x
      → IsGapAfter (InLog n (side ∷ others) m) (step_record now.version m x) (InLog (suc n) (sides_after (side ∷ others) x) (multipliers_after m x))
  step_leads n side others m x count counts passes = (
    passing (to_line (suc n) (after_step now g Target (sides_after (side ∷ others) x) (multipliers_after m x))),
    step_takes now g Target valued side others m x count counts passes n,
    by (sides_after (side ∷ others) x),
  )
    where
      by : (sides : List Side) → InLog (suc n) sides (multipliers_after m x) ≡ in_its_group Mine (passing (to_line (suc n) (after_step now g Target sides (multipliers_after m x))))
      by [] = sym (ap (λ (b : Bool). cond b (in_group Mine (with_target bound (to_line (suc n) (after_log now g Target)))) (at_close Mine (suc n))) (log_leaves now g Target valued))
      by (first ∷ more) = refl

  -- what goes on behind these steps, whatever the last multipliers were
  abbrev GoesOn : List Side → List Step → Type 0
  GoesOn others left = (n : ℕ) (m : Multipliers) → length m ≡ goods_at now → Counts left → (k : ℕ) × GapLeads (InLog n others m) (step_records now.version m left) (at_close Mine k)

  left_same : (rest left : List Step) → (let o : Result (List Step) Fault = Ok rest in o) ≡ Ok left → rest ≡ left
  left_same rest left e = cc

  on_then : (n : ℕ) (side : Side) (others : List Side) (m : Multipliers) (x : Step) (rest left : List Step) → length m ≡ goods_at now → CountsGoods (goods_at now) x → length (multipliers_after m x) ≡ goods_at now
      → PassesAt (trees_at now) (exact_at now) (weights_at now g) bound side x → sides_after (side ∷ others) x ≡ others → rest ≡ left → Counts rest → GoesOn others left
      → (k : ℕ) × GapLeads (InLog n (side ∷ others) m) (step_records now.version m (x ∷ rest)) (at_close Mine k)
  on_then n side others m x rest left count counts after passes sides e all on =
      let next = on (suc n) (multipliers_after m x) after (subst Counts e all) in (
        next.0,
        goes (step_leads n side others m x count counts passes)
            (subst (λ (l : List Side). GapLeads (InLog (suc n) l (multipliers_after m x)) (step_records now.version (multipliers_after m x) rest) (at_close Mine next.0)) (sym sides)
            (subst (λ (l : List Step). GapLeads (InLog (suc n) others (multipliers_after m x)) (step_records now.version (multipliers_after m x) l) (at_close Mine next.0)) (sym e) next.1)),
      )

  log_leads : {side : Side} {log : List Step} {end : Result (List Step) Fault} → Reads (trees_at now) (exact_at now) (weights_at now g) bound side log end
      → (left : List Step) → end ≡ Ok left → (n : ℕ) (others : List Side) (m : Multipliers) → length m ≡ goods_at now → Counts log → GoesOn others left
      → (k : ℕ) × GapLeads (InLog n (side ∷ others) m) (step_records now.version m log) (at_close Mine k)
  log_leads ends left e n others m count counts on = absurd cc
  log_leads (branches {side = side} {b = b} {n = node} {rest = rest} {left = mid} free must never) left e n others m count counts on =
      let next = log_leads must mid refl (suc n) (with_mark side b node Never ∷ others) m count counts.1 (λ n' m' count' counts'. log_leads never left e n' others m' count' counts' on) in
      (next.0, goes (step_leads n side others m (branch b node) count tt free) next.1)
  log_leads (stops free must) left e n others m count counts on = absurd cc
  log_leads (is_fixed none) left e n others m count counts on = absurd cc
  log_leads (has_sign wrong) left e n others m count counts on = absurd cc
  log_leads (is_dead_leaf {side = side} {m = new} {rest = rest} signs none) left e n others m count counts on =
      on_then n side others m (leaf new) rest left count counts.0 counts.0 (signs, inl none) refl (left_same rest left e) counts.1 on
  log_leads (closes {side = side} {m = new} {rest = rest} {v = v} signs fits low) left e n others m count counts on =
      on_then n side others m (leaf new) rest left count counts.0 counts.0 (signs, inr (v, fits, low)) refl (left_same rest left e) counts.1 on
  log_leads (is_above signs fits high) left e n others m count counts on = absurd cc
  log_leads (is_dead {side = side} {b = b} {rest = rest} none) left e n others m count counts on =
      on_then n side others m (dead b) rest left count tt count none refl (left_same rest left e) counts.1 on
  log_leads (is_alive none) left e n others m count counts on = absurd cc

  all_sets : (n : ℕ) → 0 < length (trees_at now) → (m : ℕ) × GapLeads (InSets n []) (map line.set p.sets) (InLog m (start_of (trees_at now) g ∷ []) (all_zero (goods_at now)))
  all_sets n some = by p.sets refl
    where
      by : (sets : Assignment) → sets ≡ p.sets → (m : ℕ) × GapLeads (InSets n []) (map line.set sets) (InLog m (start_of (trees_at now) g ∷ []) (all_zero (goods_at now)))
      by [] e = absurd (omega (arith, some, is.feasible.same_length, ap length e))
      by (x ∷ rest) e = sets_lead n [] rest x e

  -- the sets, the log and the end
  gap_leads : (n : ℕ) → 0 < length (trees_at now)
      → (k : ℕ) × GapLeads (InSets n []) (map line.set p.sets ++ (step_records now.version (all_zero (goods_at now)) p.log ++ line.end spent_end ∷ [])) (ended Mine k)
  gap_leads n some =
      let sets = all_sets n some in
      let log = log_leads is.passes [] refl sets.0 [] (all_zero (goods_at now)) (length-replicate (goods_at now) _) is.counts (λ k m count counts. (k, stays)) in (
        suc log.0,
        gap_joins (InSets n []) (InLog sets.0 (start_of (trees_at now) g ∷ []) (all_zero (goods_at now))) (ended Mine (suc log.0)) (map line.set p.sets) (step_records now.version (all_zero (goods_at now)) p.log ++ line.end spent_end ∷ []) sets.1
            (gap_joins (InLog sets.0 (start_of (trees_at now) g ∷ []) (all_zero (goods_at now))) (at_close Mine log.0) (ended Mine (suc log.0)) (step_records now.version (all_zero (goods_at now)) p.log) (line.end spent_end ∷ []) log.1
            (goes refl stays)),
      )

-- ---- the whole journal

pub awaited_valued : (kind : Kind) (place : Place) (g : Group) → next_group kind place ≡ Some g → is_valued g ≡ true
awaited_valued kind (at_group Assign) g e = absurd (none-some g e)
awaited_valued kind (at_group Final) g e = ap is_valued (sym (same_Some Final g e))
awaited_valued kind (at_group Rival) g e = ap is_valued (sym (same_Some Rival g e))
awaited_valued kind (at_group Provisional) g e = ap is_valued (sym (same_Some Provisional g e))
awaited_valued kind (at_group (Without b)) g e = ap is_valued (sym (same_Some (Without b) g e))
awaited_valued regret_kind at_section g e = ap is_valued (sym (same_Some Final g e))
awaited_valued kind other g e = absurd (none-some g e)

head_read : (v : Version) (kind : Kind) → is_checked v kind ≡ true → checking (passing (begun v kind)) ≡ checking (after_head (line.head v kind))
head_read v kind e = sym (ap (λ (b : Bool). checking (cond b (passing (begun v kind)) other_kind)) e)

-- the same state in another line
opened_same : (m : ℕ) (s : State) (place : Place) (g : Group) (value bound : ℤ)
    → to_line (suc m) (go_to (at_sets g (record { value = value; sets = [] })) (before_head place (to_line m s))) ≡ to_line (suc m) (go_to (at_sets g (record { value = value; sets = [] })) (before_head place s))
opened_same m s at_section g value bound = refl
opened_same m s other g value bound = refl

there_in : (m : ℕ) (s : State) (place : Place) → EndsThere s place → EndsThere (to_line m s) place
there_in m s at_section h = h
there_in m s other h = tt

pub gap_is_written : GapIsWritten
gap_is_written kind v before s g p bound checked carries e there some is =
    let (m, l) = carries.leads 2 in
    let gap = gap_leads (before_head s.place s) g p bound (awaited_valued s.kind s.place g e) is (suc m) some in (
      ended (group_gap g p.value bound) gap.0,
      goes (after_head (line.head v kind), refl, head_read v kind checked)
          (gap_joins (checking (passing (begun v kind))) (checking (passing (to_line m s))) (ended (group_gap g p.value bound) gap.0) before (gap_records (before_head s.place s) p bound)
          (gap_before (begun v kind) (to_line m s) before l)
          (goes (opens_gap (to_line m s) g p.value bound e (there_in m s s.place there) is.below)
          (subst (λ (t : State). GapLeads (in_group (group_gap g p.value bound) t) (map line.set p.sets ++ (step_records (before_head s.place s).version (all_zero (goods_at (before_head s.place s))) p.log ++ line.end spent_end ∷ [])) (ended (group_gap g p.value bound) gap.0))
          (sym (opened_same m s s.place g p.value bound)) gap.1))),
      refl,
    )
