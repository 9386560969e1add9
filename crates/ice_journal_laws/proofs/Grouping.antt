-- A group of a journal, its head, its sets and its log, where each test passes.
use Rattle.std.proofs.Common.{◌≡◌, ◌+◌, ◌<◌, ◌≤◌, ℕ, suc, Bool, true, false, cond, eqb, List, [], ◌∷◌, ◌++◌, length, map, ℤ, pos, refl, sym, ◌∙◌, ap, subst, arith, ◌⊎◌, inl, inr, length-append}
use Rattle.std.specs.Prelude.{◌≢◌, ◌||◌, Option, Some, None, option_map, IsTrue, IsSome, IfSome, IsSomeAnd}
use Rattle.std.specs.List.{AllByRecursion}
use Rattle.std.proofs.lemmas.Bool.{cases_lt, eqb-true, eqb-false, false_from_ne_true, true≢false}
use Rattle.std.proofs.lemmas.Option.{none-some}
use Rattle.std.proofs.lemmas.List.{append-nil, append_assoc, map-append, length-replicate, get_or_append_left, get_or_at}
use Rattle.ice_defs.proofs.Lists.{all_push}
use Rattle.ice_defs.proofs.Starts.{meets_free_side}
use Rattle.ice_defs.specs.declared.Mark.{Mark}
use Rattle.ice_defs.specs.declared.Mark.TheVariants.{Free, Must, Never}
use Rattle.ice_defs.specs.Tree.{Tree}
use Rattle.ice_defs.specs.Set.{NodeSet, has, Weights}
use Rattle.ice_defs.specs.Fixing.{mark_of}
use Rattle.ice_defs.specs.Vickrey.{IsEmpty}
use Rattle.ice_defs.specs.Trade.{Assignment, tree_of, set_of, fixing_of, total_value, total_units, is_exact, IsCovered, IsFeasible}
use Rattle.ice_defs.specs.Bound.{Multipliers}
use Rattle.ice_defs.specs.Derived.{goods_alone}
use Rattle.ice_defs.specs.Steps.{Step, branch, leaf, dead, Side, sides_after}
use Rattle.ice_defs.specs.Log.{IsFreeNode, IsDeadBidder, Passes}
use Rattle.ice_defs.specs.declared.Group.{Group}
use Rattle.ice_defs.specs.declared.Group.TheVariants.{Assign, Final, Rival, Provisional, Without}
use Rattle.ice_defs.specs.Group.{free_side, start_of}
use Rattle.ice_defs.specs.Exchange.{Exchange, trees_of, exact_of}
use Rattle.ice_defs.specs.Lawful.{IsExchange}
use Rattle.ice_defs.specs.Session.{Proved}
use Rattle.ice_headline_laws.specs.Right.{IsBestFound}
use Rattle.ice_journal.specs.Records.{Record, Version}
use Rattle.ice_journal.specs.Records as line
use Rattle.ice_journal.specs.Plain.{goods_in, all_zero, plain_records}
use Rattle.ice_section.specs.Described.{section_records}
use Rattle.ice_refute.specs.Code.{CountsGoods}
use Rattle.ice_refute.specs.Passing.{PassesAt}
use Rattle.ice_refute.specs.Laws.{LogRefutes}
use Rattle.ice_refute.proofs.Reading.{Stands, stands_at_start, stands_more, stands_closed}
use Rattle.ice_journal_laws.specs.declared.rule.Rule.{Rule}
use Rattle.ice_journal_laws.specs.declared.rule.Rule.TheVariants as rule
use Rattle.ice_journal_laws.specs.Fields.{head_value, is_spent, is_limit, is_round_stop, step_in, multipliers_after}
use Rattle.ice_journal_laws.specs.State.{Stated, at_sets, at_log, at_spent_sets, State, exchange_at, trees_at, exact_at, goods_at, weights_at}
use Rattle.ice_journal_laws.specs.Next.{next, go_to, to_line, bidder_count, from_head, if_true, with_set, after_sets, after_log, after_step}
use Rattle.ice_journal_laws.specs.Tests.{Fails, Complete, is_valued, Taken, taken_step, IsClosing, HasSign, IsFixed, IsAlive}
use Rattle.ice_journal_laws.specs.Written.{proved_records}
use Rattle.ice_journal_laws.proofs.Single.{some_same}
use Rattle.ice_journal_laws.proofs.Faultless.{covered}
use Rattle.ice_journal_laws.proofs.Assigning.{AreSatisfied, set_passes}
use Rattle.ice_journal_laws.proofs.Plaining.{IsLast, Wrote, wrote_more, last_begins, wrote_step}

-- the state that is there
pub of_same : (mine after : State) → Some mine ≡ Some after → (P : State → Type 0) → P mine → P after
of_same mine after e P h = subst P (some_same (Some mine) mine after refl e) h

-- the head of a group with this value
abbrev pub head_record : Group → ℤ → Record
head_record Assign value = line.assign
head_record Final value = line.final value
head_record Rival value = line.rival value
head_record Provisional value = line.provisional value
head_record (Without b) value = line.without b value

-- the sets of a group with the log so far
abbrev pub so_far : Stated → List Step → Proved
so_far found log = record { value = found.value; sets = found.sets; log = log }

-- in the group without a bidder, its set is empty, once it is there
abbrev pub IsLeftOut : Group → Assignment → Type 0
IsLeftOut (Without b) sets = b < length sets → IsEmpty (set_of sets b)
IsLeftOut g sets = Unit {0}

module _ (version : Version) (ex : Exchange) (before : List Record) where
  -- the exchange is lawful, and the records say it and then these
  pub record Telling (text : List Record) : Type 0 where
    pub exchange : IsExchange ex
    pub wrote : Wrote version (length (exact_of ex)) before (section_records ex ++ text)

  -- the sets of a group so far, behind its head
  pub record SetsSaid (front : List Record) (g : Group) (found : Stated) : Type 0 where
    pub tells : Telling (front ++ head_record g found.value ∷ map line.set found.sets)
    pub room : length found.sets < length (trees_of ex)
    pub satisfied : AreSatisfied (trees_of ex) found.sets
    pub left : IsLeftOut g found.sets

  -- the sets are feasible and have the value, and the log so far leaves these sides open
  pub record LogSaid (ws : List Weights) (front : List Record) (g : Group) (found : Stated) (sides : List Side) (m : Multipliers) : Type 0 where
    pub log : List Step
    pub tells : Telling (front ++ proved_records (head_record g found.value) (so_far found log))
    pub last : IsLast version (length (exact_of ex)) before m
    pub count : length m ≡ length (exact_of ex)
    pub feasible : IsFeasible (trees_of ex) (exact_of ex) found.sets
    pub valued : total_value found.sets ws ≡ found.value
    pub left : IsLeftOut g found.sets
    pub counts : AllByRecursion (CountsGoods (length (exact_of ex))) log
    pub stands : (rest : List Step) → Stands goods_alone (trees_of ex) (exact_of ex) ws found.value (start_of (trees_of ex) g) (log ++ rest) sides rest

  -- the log passes
  pub record GroupSaid (ws : List Weights) (front : List Record) (g : Group) (found : Stated) : Type 0 where
    pub log : List Step
    pub tells : Telling (front ++ proved_records (head_record g found.value) (so_far found log))
    pub feasible : IsFeasible (trees_of ex) (exact_of ex) found.sets
    pub valued : total_value found.sets ws ≡ found.value
    pub left : IsLeftOut g found.sets
    pub counts : AllByRecursion (CountsGoods (length (exact_of ex))) log
    pub passes : Passes (trees_of ex) (exact_of ex) ws found.value (start_of (trees_of ex) g) log

-- the same of the exchange and the weights of a state
abbrev pub Tells : List Record → State → List Record → Type 0
Tells before s text = Telling s.version (exchange_at s) before text

abbrev pub InSets : List Record → State → List Record → Group → Stated → Type 0
InSets before s front g found = SetsSaid s.version (exchange_at s) before front g found

abbrev pub InLog : List Record → State → List Record → Group → Stated → List Side → Multipliers → Type 0
InLog before s front g found sides m = LogSaid s.version (exchange_at s) before (weights_at s g) front g found sides m

abbrev pub InProved : List Record → State → List Record → Group → Stated → Type 0
InProved before s front g found = GroupSaid s.version (exchange_at s) before (weights_at s g) front g found

pub tells_more : (before : List Record) (s : State) (text longer : List Record) (r : Record) → ((m : Multipliers) → plain_records (goods_at s) m (r ∷ []) ≡ r ∷ []) → goods_in (r ∷ []) ≡ 0
    → text ++ r ∷ [] ≡ longer → Tells before s text → Tells (before ++ r ∷ []) s longer
tells_more before s text longer r same none e is = record {
  exchange = is.exchange;
  wrote =
      subst (Wrote s.version (goods_at s) (before ++ r ∷ [])) (append_assoc (section_records (exchange_at s)) text (r ∷ []) ∙ ap (λ (rs : List Record). section_records (exchange_at s) ++ rs) e)
      (wrote_more s.version (goods_at s) before (section_records (exchange_at s) ++ text) r same none is.wrote);
}

-- ---- the head

head_is : (g : Group) (r : Record) (value : ℤ) → head_value g r ≡ Some value → r ≡ head_record g value
head_is Assign r value e = absurd (none-some value e)
head_is Final (line.final v) value e = ap line.final (some_same (Some v) v value refl e)
head_is Final other value e = absurd (none-some value e)
head_is Rival (line.rival v) value e = ap line.rival (some_same (Some v) v value refl e)
head_is Rival other value e = absurd (none-some value e)
head_is Provisional (line.provisional v) value e = ap line.provisional (some_same (Some v) v value refl e)
head_is Provisional other value e = absurd (none-some value e)
head_is (Without b) (line.without c v) value e = by (eqb c b) refl e
  where
    by : (t : Bool) → eqb c b ≡ t → cond t (Some v) None ≡ Some value → line.without c v ≡ line.without b value
    by true same f = ap (λ (k : ℕ). line.without k v) (eqb-true c b same) ∙ ap (line.without b) (some_same (Some v) v value refl f)
    by false same f = absurd (none-some value f)
head_is (Without b) other value e = absurd (none-some value e)

-- a stop fails where it stands
no_spent : (t : State) (r : Record) (after : State) → next t r ≡ Some after → ¬ Fails rule.Closed t r → is_spent r ≡ true → ⊥
no_spent t r after is pass spent =
    pass (ap (λ (b : Bool). (b || is_limit r) || is_round_stop (t.number + 2) r) spent, subst (λ (o : Option State). IsSome o) (sym is) refl)

pub head_begins : (t s : State) (g : Group) (r : Record) (n : ℕ) (after : State) → next t r ≡ Some after → ¬ Fails rule.Closed t r
    → option_map (to_line n) (from_head s g r (head_value g r)) ≡ Some after
    → (P : Record → State → Type 0) → ((value : ℤ) → P (head_record g value) (to_line n (go_to (at_sets g (record { value = value; sets = [] })) s))) → P r after
head_begins t s g r n after is pass e P begins = by (head_value g r) refl e
  where
    stopped : (b : Bool) → is_spent r ≡ b → option_map (to_line n) (if_true b (go_to (at_spent_sets 0) s)) ≡ Some after → ⊥
    stopped true spent f = no_spent t r after is pass spent
    stopped false spent f = none-some after f

    by : (o : Option ℤ) → head_value g r ≡ o → option_map (to_line n) (from_head s g r o) ≡ Some after → P r after
    by (Some value) has f = subst (λ (x : Record). P x after) (sym (head_is g r value has)) (of_same _ after f (P (head_record g value)) (begins value))
    by None has f = absurd (stopped (is_spent r) refl f)

-- ---- the sets

pub set_text : (front : List Record) (first : Record) (sets : Assignment) (x : NodeSet) → (front ++ first ∷ map line.set sets) ++ line.set x ∷ [] ≡ front ++ first ∷ map line.set (sets ++ x ∷ [])
set_text front first sets x = append_assoc front (first ∷ map line.set sets) (line.set x ∷ []) ∙ ap (λ (rs : List Record). front ++ first ∷ rs) (sym (map-append line.set sets (x ∷ [])))

no_log : (front : List Record) (first : Record) (found : Stated) → front ++ first ∷ map line.set found.sets ≡ front ++ proved_records first (so_far found [])
no_log front first found = ap (λ (rs : List Record). front ++ rs) (sym (append-nil (first ∷ map line.set found.sets)))

-- the set of a bidder that is left out is empty
is_empty : (x : NodeSet) → ¬ (¬ IsEmpty x) → IsEmpty x
is_empty x h n l = false_from_ne_true (has x n) (λ e. h (λ empty. true≢false (sym e ∙ empty n l)))

pub left_more : (s : State) (g : Group) (found : Stated) (x : NodeSet) → IsLeftOut g found.sets → ¬ Fails rule.Fixing (go_to (at_sets g found) s) (line.set x) → IsLeftOut g (found.sets ++ x ∷ [])
left_more s Assign found x left pass = tt
left_more s Final found x left pass = tt
left_more s Rival found x left pass = tt
left_more s Provisional found x left pass = tt
left_more s (Without b) found x left pass = λ l. by l (cases_lt b (length found.sets))
  where
    by : b < length (found.sets ++ x ∷ []) → (b < length found.sets) ⊎ (length found.sets ≤ b) → IsEmpty (set_of (found.sets ++ x ∷ []) b)
    by l (inl h) = subst IsEmpty (sym (get_or_append_left found.sets (x ∷ []) [] b h)) (left h)
    by l (inr h) =
        let here : length found.sets ≡ b = omega (arith, length-append found.sets (x ∷ []), l) in
        subst IsEmpty (sym (get_or_at found.sets x [] [] b here)) (is_empty x (λ no. pass (here, no)))

pub sets_go_on : (before : List Record) (s : State) (front : List Record) (g : Group) (found : Stated) (r : Record) (after : State) → is_valued g ≡ true → InSets before s front g found
    → next (go_to (at_sets g found) s) r ≡ Some after → ((k : Rule) → ¬ Fails k (go_to (at_sets g found) s) r)
    → (P : State → Type 0)
    → ((x : NodeSet) → InSets (before ++ r ∷ []) s front g (with_set found x) → P (to_line (suc s.line) (go_to (at_sets g (with_set found x)) s)))
    → ((x : NodeSet) → InLog (before ++ r ∷ []) s front g (with_set found x) (start_of (trees_at s) g ∷ []) (all_zero (goods_at s))
    → P (to_line (suc s.line) (after_sets (go_to (at_sets g found) s) g (with_set found x))))
    → P after
sets_go_on before s front g found (line.set x) after valued is e pass P more full = by (eqb (suc (length found.sets)) (bidder_count s)) refl e
  where
    sets : AreSatisfied (trees_at s) (found.sets ++ x ∷ [])
    sets = set_passes s g found x is.room is.satisfied pass

    tells : Tells (before ++ line.set x ∷ []) s (front ++ head_record g found.value ∷ map line.set (found.sets ++ x ∷ []))
    tells = tells_more before s _ _ (line.set x) (λ m. refl) refl (set_text front (head_record g found.value) found.sets x) is.tells

    mine : Complete
    mine = record { group = g; stated = with_set found x }

    unbalanced : Bool → Type 0
    unbalanced b = IsSomeAnd (cond b (Some mine) None) (λ (c : Complete). (k : ℕ) × (k < goods_at s) × ¬ IsCovered (is_exact (exact_at s) k) (total_units (trees_at s) c.stated.sets k) (pos 0))

    misvalued : Bool → Type 0
    misvalued b = IsSomeAnd (cond b (Some mine) None) (λ (c : Complete). IsTrue (is_valued c.group) × (total_value c.stated.sets (weights_at s c.group) ≢ c.stated.value))

    by : (b : Bool) → eqb (suc (length found.sets)) (bidder_count s) ≡ b
        → Some (to_line (suc s.line) (cond b (after_sets (go_to (at_sets g found) s) g (with_set found x)) (go_to (at_sets g (with_set found x)) s))) ≡ Some after → P after
    by true last h = of_same _ after h P (full x (record {
      log = [];
      tells = subst (Tells (before ++ line.set x ∷ []) s) (no_log front (head_record g found.value) (with_set found x)) tells;
      last = last_begins s.version (goods_at s) before (line.set x) (λ m. refl);
      count = length-replicate (goods_at s) (pos 0);
      feasible = record {
        same_length = length-append found.sets (x ∷ []) ∙ omega (arith, eqb-true (suc (length found.sets)) (bidder_count s) last);
        satisfied = λ b l. sets b (omega (arith, length-append found.sets (x ∷ []), eqb-true (suc (length found.sets)) (bidder_count s) last));
        balanced = λ k l. covered _ _ _ (λ no. subst (λ b. ¬ unbalanced b) last (pass rule.Excess) (k, l, no));
      };
      valued = covered true _ _ (λ no. subst (λ b. ¬ misvalued b) last (pass rule.Value) (valued, no));
      left = left_more s g found x is.left (pass rule.Fixing);
      counts = tt;
      stands = λ rest. stands_at_start goods_alone _ _ _ _ (start_of (trees_at s) g) rest;
    }))
    by false open_set h = of_same _ after h P (more x (record {
      tells = tells;
      room = omega (arith, length-append found.sets (x ∷ []), eqb-false (suc (length found.sets)) (bidder_count s) open_set, is.room);
      satisfied = sets;
      left = left_more s g found x is.left (pass rule.Fixing);
    }))
sets_go_on before s front g found other after valued is e pass P more full = absurd (none-some after e)

-- ---- the log

log_text : (front first : List Record) (log : List Step) (x : Step) → (front ++ (first ++ map line.step log)) ++ line.step x ∷ [] ≡ front ++ (first ++ map line.step (log ++ x ∷ []))
log_text front first log x =
    append_assoc front (first ++ map line.step log) (line.step x ∷ [])
    ∙ ap (λ (rs : List Record). front ++ rs) (append_assoc first (map line.step log) (line.step x ∷ []) ∙ ap (λ (rs : List Record). first ++ rs) (sym (map-append line.step log (x ∷ []))))

is_free : (k : Mark) → ¬ (¬ (k ≡ Free)) → k ≡ Free
is_free Free h = refl
is_free Must h = absurd (h apart)
  where
    apart : Must ≡ Free → ⊥
    apart e = cc
is_free Never h = absurd (h apart)
  where
    apart : Never ≡ Free → ⊥
    apart e = cc

is_below : (a b : ℕ) → ¬ (¬ (a < b)) → a < b
is_below a b h = by (cases_lt a b)
  where
    by : (a < b) ⊎ (b ≤ a) → a < b
    by (inl l) = l
    by (inr l) = absurd (h (λ k. omega (arith, k, l)))

free_node : (ts : List Tree) (side : Side) (b n : ℕ) → ¬ (¬ IsFreeNode ts side b n) → IsFreeNode ts side b n
free_node ts side b n h = (
  is_below b (length ts) (λ no. h (λ free. no free.0)),
  is_below n (length (tree_of ts b)) (λ no. h (λ free. no free.1)),
  is_free (mark_of (fixing_of side b) n) (λ no. h (λ free. no free.2)),
)

dead_bidder : (ts : List Tree) (side : Side) (b : ℕ) → ¬ (¬ IsDeadBidder ts side b) → IsDeadBidder ts side b
dead_bidder ts side b h = (is_below b (length ts) (λ no. h (λ is. no is.0)), λ set fits. h (λ is. is.1 set fits))

abbrev taken : Group → Stated → Side → Multipliers → Step → Taken
taken g found side m x = record { group = g; target = found.value; side = side; before = m; step = x }

pub step_passes : (s : State) (g : Group) (found : Stated) (side : Side) (m : Multipliers) (x : Step) → ¬ HasSign s x → ¬ IsFixed s side x → ¬ IsAlive s side x → IsClosing s (taken g found side m x) x
    → PassesAt (trees_at s) (exact_at s) (weights_at s g) found.value side x
step_passes s g found side m (branch b n) sign fixed alive closing = free_node (trees_at s) side b n fixed
step_passes s g found side m (leaf new) sign fixed alive closing = (sign, closing)
step_passes s g found side m (dead b) sign fixed alive closing = dead_bidder (trees_at s) side b alive

step_added : (before : List Record) (s : State) (front : List Record) (g : Group) (found : Stated) (side : Side) (open_sides : List Side) (m : Multipliers) (r : Record) (x : Step)
    → InLog before s front g found (side ∷ open_sides) m → step_in s.version (goods_at s) m r ≡ Some x → PassesAt (trees_at s) (exact_at s) (weights_at s g) found.value side x
    → InLog (before ++ r ∷ []) s front g found (sides_after (side ∷ open_sides) x) (multipliers_after m x)
step_added before s front g found side open_sides m r x is e passes =
    let wrote = wrote_step s.version (goods_at s) before _ m r x is.count is.tells.wrote is.last e in
    record {
      log = is.log ++ x ∷ [];
      tells = record {
        exchange = is.tells.exchange;
        wrote =
            subst (Wrote s.version (goods_at s) (before ++ r ∷ []))
            (append_assoc (section_records (exchange_at s)) _ (line.step x ∷ []) ∙ ap (λ (rs : List Record). section_records (exchange_at s) ++ rs) (log_text front (head_record g found.value ∷ map line.set found.sets) is.log x))
            wrote.wrote;
      };
      last = wrote.last;
      count = wrote.length;
      feasible = is.feasible;
      valued = is.valued;
      left = is.left;
      counts = all_push (CountsGoods (goods_at s)) is.log x is.counts wrote.counts;
      stands = λ rest.
          subst (λ (log : List Step). Stands goods_alone (trees_at s) (exact_at s) (weights_at s g) found.value (start_of (trees_at s) g) log (sides_after (side ∷ open_sides) x) rest) (sym (append_assoc is.log (x ∷ []) rest))
          (stands_more goods_alone (trees_at s) (exact_at s) (weights_at s g) found.value (start_of (trees_at s) g) (is.log ++ x ∷ rest) side open_sides x rest passes (is.stands (x ∷ rest)));
    }

log_closed : (before : List Record) (s : State) (front : List Record) (g : Group) (found : Stated) (m : Multipliers) → InLog before s front g found [] m → InProved before s front g found
log_closed before s front g found m is = record {
  log = is.log;
  tells = is.tells;
  feasible = is.feasible;
  valued = is.valued;
  left = is.left;
  counts = is.counts;
  passes =
      stands_closed goods_alone (trees_at s) (exact_at s) (weights_at s g) found.value (start_of (trees_at s) g) is.log
      (subst (λ (log : List Step). Stands goods_alone (trees_at s) (exact_at s) (weights_at s g) found.value (start_of (trees_at s) g) log [] []) (append-nil is.log) (is.stands []));
}

pub log_goes_on : (before : List Record) (s : State) (front : List Record) (g : Group) (found : Stated) (side : Side) (open_sides : List Side) (m : Multipliers) (r : Record) (after : State)
    → InLog before s front g found (side ∷ open_sides) m
    → next (go_to (at_log g found (side ∷ open_sides) m) s) r ≡ Some after → ((k : Rule) → ¬ Fails k (go_to (at_log g found (side ∷ open_sides) m) s) r)
    → IfSome (taken_step s (at_log g found (side ∷ open_sides) m) r) (λ t. IsClosing s t t.step)
    → (P : State → Type 0)
    → ((first : Side) (others : List Side) (new : Multipliers) → InLog (before ++ r ∷ []) s front g found (first ∷ others) new → P (to_line (suc s.line) (go_to (at_log g found (first ∷ others) new) s)))
    → (InProved (before ++ r ∷ []) s front g found → P (to_line (suc s.line) (after_log (go_to (at_log g found (side ∷ open_sides) m) s) g found)))
    → P after
log_goes_on before s front g found side open_sides m r after is e pass closing P more closed = by (step_in s.version (goods_at s) m r) refl e
  where
    step_is : (x : Step) → step_in s.version (goods_at s) m r ≡ Some x → PassesAt (trees_at s) (exact_at s) (weights_at s g) found.value side x
    step_is x f =
        step_passes s g found side m x
        (subst (λ (o : Option Step). ¬ IsSomeAnd (option_map (taken g found side m) o) (λ t. HasSign s t.step)) f (pass rule.Sign))
        (subst (λ (o : Option Step). ¬ IsSomeAnd (option_map (taken g found side m) o) (λ t. IsFixed s t.side t.step)) f (pass rule.Fixed))
        (subst (λ (o : Option Step). ¬ IsSomeAnd (option_map (taken g found side m) o) (λ t. IsAlive s t.side t.step)) f (pass rule.Alive))
        (subst (λ (o : Option Step). IfSome (option_map (taken g found side m) o) (λ t. IsClosing s t t.step)) f closing)

    on : (x : Step) (sides : List Side) → InLog (before ++ r ∷ []) s front g found sides (multipliers_after m x)
        → Some (to_line (suc s.line) (after_step (go_to (at_log g found (side ∷ open_sides) m) s) g found sides (multipliers_after m x))) ≡ Some after → P after
    on x [] added h = of_same _ after h P (closed (log_closed (before ++ r ∷ []) s front g found (multipliers_after m x) added))
    on x (first ∷ others) added h = of_same _ after h P (more first others (multipliers_after m x) added)

    by : (o : Option Step) → step_in s.version (goods_at s) m r ≡ o
        → option_map (to_line (suc s.line)) (option_map (λ x. after_step (go_to (at_log g found (side ∷ open_sides) m) s) g found (sides_after (side ∷ open_sides) x) (multipliers_after m x)) o) ≡ Some after → P after
    by (Some x) f h = on x (sides_after (side ∷ open_sides) x) (step_added before s front g found side open_sides m r x is f (step_is x f)) h
    by None f h = absurd (none-some after h)

-- ---- the best assignment

-- where the search began with all nodes free, no feasible assignment is worth more
pub best_found : (refutes : LogRefutes) (before : List Record) (s : State) (front : List Record) (g : Group) (found : Stated) → start_of (trees_at s) g ≡ free_side (trees_at s)
    → (is : InProved before s front g found) → IsBestFound (exchange_at s) s.bounds (weights_at s g) (so_far found is.log)
best_found refutes before s front g found free is = record {
  feasible = is.feasible;
  value = is.valued;
  best = record {
    attained = (found.sets, is.feasible, is.valued);
    bound = λ a feasible.
        refutes (trees_at s) (exact_at s) (weights_at s g) found.value (free_side (trees_at s)) is.log a is.counts
        (subst (λ (start : Side). Passes (trees_at s) (exact_at s) (weights_at s g) found.value start is.log) free is.passes) feasible (meets_free_side (trees_at s) a);
  };
}
