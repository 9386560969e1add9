-- A stop at a search that spent its branches: its records may stand behind the records before them.
use Rattle.std.proofs.Common.{◌≡◌, ◌+◌, ◌<◌, ℕ, zero, suc, Bool, cond, eqb, List, [], ◌∷◌, ◌++◌, length, map, ℤ, Result, Ok, refl, sym, ◌∙◌, ap, subst, arith}
use Rattle.std.specs.Prelude.{Option, Some, None, option_map}
use Rattle.std.specs.List.{AllByRecursion}
use Rattle.std.proofs.lemmas.Bool.{eq-eqb, ne_eqb}
use Rattle.ice_defs.specs.Tree.{Tree}
use Rattle.ice_defs.specs.Set.{Weights, NodeSet}
use Rattle.ice_defs.specs.Trade.{Assignment}
use Rattle.ice_defs.specs.Bound.{Multipliers}
use Rattle.ice_defs.specs.Steps.{Step, branch, leaf, dead, Side}
use Rattle.ice_defs.specs.Log.{Fault, Reads, ends, branches, stops, is_fixed, has_sign, is_dead_leaf, closes, is_above, is_dead, is_alive, Passes}
use Rattle.ice_defs.specs.declared.Group.{Group}
use Rattle.ice_defs.specs.declared.Group.TheVariants.{Assign, Final, Rival, Provisional, Without}
use Rattle.ice_defs.specs.Exchange.{Exchange}
use Rattle.ice_defs.specs.Lawful.{IsExchange}
use Rattle.ice_refute.specs.Code.{CountsGoods}
use Rattle.ice_journal.specs.Records.{Record, Version, version_1, version_2, regret_kind, spent_end}
use Rattle.ice_journal.specs.Records as line
use Rattle.ice_journal.specs.Plain.{all_zero, changes_from, after_changes}
use Rattle.ice_journal_laws.specs.Fields.{step_in}
use Rattle.ice_journal_laws.specs.State.{Place, at_group, at_spent_sets, at_spent_log, at_end, done, State, trees_at, goods_at}
use Rattle.ice_journal_laws.specs.Next.{to_line, go_to, bidder_count, after_section, past_section, open_after}
use Rattle.ice_journal_laws.specs.Assigning.{section_state, section_of, exchange_state}
use Rattle.ice_journal_laws.specs.Showing.{step_record, step_records}
use Rattle.ice_journal_laws.specs.SoFar.{Orders}
use Rattle.ice_journal_laws.proofs.CarriedSection.{ended}
use Rattle.ice_journal_laws.proofs.CarriedSoFar.{StandsTo, orders_none, orders_join, orders_then, orders_one}

-- ---- the stop's record

-- in the place of a group's head
pub spent_stands : (s : State) (g : Group) (value bound : ℤ) → StandsTo (go_to (at_group g) s) (line.spent value bound) (go_to (at_spent_sets 0) s)
spent_stands s Assign value bound n = refl
spent_stands s Final value bound n = refl
spent_stands s Rival value bound n = refl
spent_stands s Provisional value bound n = refl
spent_stands s (Without b) value bound n = refl

-- or behind the exchange of a regret journal
pub first_spent_stands : (v : Version) (ex : Exchange) (value bound : ℤ) → IsExchange ex → StandsTo (section_state v regret_kind 2 (section_of ex)) (line.spent value bound) (go_to (at_spent_sets 0) (exchange_state v regret_kind 2 ex))
first_spent_stands v ex value bound lawful n =
    ap (λ (b : Bool). option_map (to_line (suc n)) (cond b (after_section (past_section (section_state v regret_kind n (section_of ex))) regret_kind (line.spent value bound)) None)) (ended ex lawful)

-- ---- its sets

sets_order : (s : State) (taken : ℕ) (x : NodeSet) (rest : Assignment) → taken + suc (length rest) ≡ length (trees_at s) → Orders (go_to (at_spent_sets taken) s) (map line.set (x ∷ rest)) (go_to (at_spent_log 1) s)
sets_order s taken x [] count =
    orders_one (go_to (at_spent_sets taken) s) (go_to (at_spent_log 1) s) (line.set x)
    (λ n. ap (λ (t : Bool). Some (to_line (suc n) (go_to (cond t (at_spent_log 1) (at_spent_sets (suc taken))) s))) (eq-eqb (suc taken) (bidder_count s) (omega (arith, count))))
sets_order s taken x (y ∷ rest) count =
    orders_then (go_to (at_spent_sets taken) s) (go_to (at_spent_sets (suc taken)) s) (go_to (at_spent_log 1) s) (line.set x) (map line.set (y ∷ rest))
    (λ n. ap (λ (t : Bool). Some (to_line (suc n) (go_to (cond t (at_spent_log 1) (at_spent_sets (suc taken))) s))) (ne_eqb (suc taken) (bidder_count s) (λ e. omega (arith, count, e))))
    (sets_order s (suc taken) y rest (omega (arith, count)))

-- ---- its log

-- the place where so many sides are open
abbrev open_place : ℕ → Place
open_place zero = at_end spent_end
open_place (suc k) = at_spent_log (suc k)

place_is : (k : ℕ) → cond (eqb k 0) (at_end spent_end) (at_spent_log k) ≡ open_place k
place_is zero = ap (λ (t : Bool). cond t (at_end spent_end) (at_spent_log 0)) (eq-eqb 0 0 refl)
place_is (suc k) = ap (λ (t : Bool). cond t (at_end spent_end) (at_spent_log (suc k))) (ne_eqb (suc k) 0 (λ e. omega (arith, e)))

-- the step that the record of one is read as, after multipliers of 0, opens as many sides
pub record ReadAs (v : Version) (goods : ℕ) (r : Record) (x : Step) : Type 0 where
  pub step : Step
  pub stated : step_in v goods (all_zero goods) r ≡ Some step
  pub opens : (k : ℕ) → open_after step k ≡ open_after x k

read_as : (v : Version) (goods : ℕ) (m : Multipliers) (x : Step) → CountsGoods goods x → ReadAs v goods (step_record v m x) x
read_as version_1 goods m (branch b n) h = record { step = branch b n; stated = refl; opens = λ k. refl }
read_as version_1 goods m (leaf new) h = record { step = leaf new; stated = ap (λ (t : Bool). cond t (Some (leaf new)) None) (eq-eqb (length new) goods h); opens = λ k. refl }
read_as version_1 goods m (dead b) h = record { step = dead b; stated = refl; opens = λ k. refl }
read_as version_2 goods m (branch b n) h = record { step = branch b n; stated = refl; opens = λ k. refl }
read_as version_2 goods m (leaf new) h = record { step = leaf (after_changes (all_zero goods) (changes_from 0 m new)); stated = refl; opens = λ k. refl }
read_as version_2 goods m (dead b) h = record { step = dead b; stated = refl; opens = λ k. refl }

module _ (s : State) where
  step_stands : (k : ℕ) (m : Multipliers) (x : Step) (after : ℕ) → CountsGoods (goods_at s) x → open_after x (suc k) ≡ after → StandsTo (go_to (open_place (suc k)) s) (step_record s.version m x) (go_to (open_place after) s)
  step_stands k m x after counts e n =
      let read : ReadAs s.version (goods_at s) (step_record s.version m x) x = read_as s.version (goods_at s) m x counts in
      ap (λ (o : Option Step). option_map (to_line (suc n)) (option_map (λ y. go_to (cond (eqb (open_after y (suc k)) 0) (at_end spent_end) (at_spent_log (open_after y (suc k)))) (to_line n s)) o)) read.stated
      ∙ ap (λ (p : Place). Some (to_line (suc n) (go_to p s))) (place_is (open_after read.step (suc k)) ∙ ap open_place (read.opens (suc k) ∙ e))

  module _ (ts : List Tree) (exact : List Bool) (ws : List Weights) (target : ℤ) where
    abbrev Counts : List Step → Type 0
    Counts log = AllByRecursion (CountsGoods (goods_at s)) log

    -- what may stand behind these steps, whatever the last multipliers were
    abbrev GoesOn : ℕ → List Step → State → Type 0
    GoesOn k left t = (m : Multipliers) → Counts left → Orders (go_to (open_place k) s) (step_records s.version m left) t

    left_same : (rest left : List Step) → (let o : Result (List Step) Fault = Ok rest in o) ≡ Ok left → rest ≡ left
    left_same rest left e = cc

    closed : (rest left : List Step) (k : ℕ) (m : Multipliers) (t : State) → (let o : Result (List Step) Fault = Ok rest in o) ≡ Ok left → Counts rest → GoesOn k left t → Orders (go_to (open_place k) s) (step_records s.version m rest) t
    closed rest left k m t e counts on = subst (λ (l : List Step). Counts l → Orders (go_to (open_place k) s) (step_records s.version m l) t) (sym (left_same rest left e)) (on m) counts

    -- a side is read, with so many open behind it
    log_orders : {side : Side} {log : List Step} {end : Result (List Step) Fault} → Reads ts exact ws target side log end
        → (left : List Step) → end ≡ Ok left → (k : ℕ) (m : Multipliers) → Counts log → (t : State) → GoesOn k left t → Orders (go_to (open_place (suc k)) s) (step_records s.version m log) t
    log_orders ends left e k m counts t on = absurd cc
    log_orders (branches {b = b} {n = n} {rest = rest} {left = mid} free must never) left e k m counts t on =
        orders_then (go_to (open_place (suc k)) s) (go_to (open_place (suc (suc k))) s) t (step_record s.version m (branch b n)) (step_records s.version m rest)
        (step_stands k m (branch b n) (suc (suc k)) tt refl)
        (log_orders must mid refl (suc k) m counts.1 t (λ m' counts'. log_orders never left e k m' counts' t on))
    log_orders (stops free must) left e k m counts t on = absurd cc
    log_orders (is_fixed none) left e k m counts t on = absurd cc
    log_orders (has_sign wrong) left e k m counts t on = absurd cc
    log_orders (is_dead_leaf {m = new} {rest = rest} signs none) left e k m counts t on =
        orders_then (go_to (open_place (suc k)) s) (go_to (open_place k) s) t (step_record s.version m (leaf new)) (step_records s.version new rest)
        (step_stands k m (leaf new) k counts.0 (omega arith)) (closed rest left k new t e counts.1 on)
    log_orders (closes {m = new} {rest = rest} signs bound low) left e k m counts t on =
        orders_then (go_to (open_place (suc k)) s) (go_to (open_place k) s) t (step_record s.version m (leaf new)) (step_records s.version new rest)
        (step_stands k m (leaf new) k counts.0 (omega arith)) (closed rest left k new t e counts.1 on)
    log_orders (is_above signs bound high) left e k m counts t on = absurd cc
    log_orders (is_dead {b = b} {rest = rest} is) left e k m counts t on =
        orders_then (go_to (open_place (suc k)) s) (go_to (open_place k) s) t (step_record s.version m (dead b)) (step_records s.version m rest)
        (step_stands k m (dead b) k tt (omega arith)) (closed rest left k m t e counts.1 on)
    log_orders (is_alive none) left e k m counts t on = absurd cc

    -- the sets, the log and the end behind the stop's record
    pub spent_orders : (start : Side) (sets : Assignment) (log : List Step) → 0 < length (trees_at s) → length sets ≡ length (trees_at s) → Counts log → Passes ts exact ws target start log
        → Orders (go_to (at_spent_sets 0) s) (map line.set sets ++ step_records s.version (all_zero (goods_at s)) log ++ line.end spent_end ∷ []) (go_to done s)
    spent_orders start [] log some count counts passes = absurd (omega (arith, some, count))
    spent_orders start (x ∷ rest) log some count counts passes =
        orders_join (go_to (at_spent_sets 0) s) (go_to (at_end spent_end) s) (go_to done s) (map line.set (x ∷ rest) ++ step_records s.version (all_zero (goods_at s)) log) (line.end spent_end ∷ [])
        (orders_join (go_to (at_spent_sets 0) s) (go_to (at_spent_log 1) s) (go_to (at_end spent_end) s) (map line.set (x ∷ rest)) (step_records s.version (all_zero (goods_at s)) log)
        (sets_order s 0 x rest (omega (arith, count)))
        (log_orders passes [] refl 0 (all_zero (goods_at s)) counts (go_to (at_end spent_end) s) (λ m counts'. orders_none (go_to (at_end spent_end) s))))
        (orders_one (go_to (at_end spent_end) s) (go_to done s) (line.end spent_end) (λ n. refl))
