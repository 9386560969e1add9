-- The place behind the first record of a stop, and behind each record after it.
use Rattle.std.proofs.Common.{◌≡◌, ◌+◌, ◌∙◌, ℕ, suc, Bool, true, false, cond, List, length, ℤ, refl, sym, ap, subst, add-one}
use Rattle.std.specs.Prelude.{◌==◌, Option, Some, None, option_map}
use Rattle.std.proofs.lemmas.Bool.{true≢false, false≢true, eq-eqb}
use Rattle.std.proofs.lemmas.Option.{none-some}
use Rattle.ice_defs.specs.Set.{NodeSet}
use Rattle.ice_defs.specs.Bound.{Multipliers}
use Rattle.ice_defs.specs.Steps.{Step, leaf, branch, dead}
use Rattle.ice_defs.specs.PricingLimit.{Stage, LimitKind}
use Rattle.ice_defs.specs.declared.Group.TheVariants.{Assign, Final, Rival, Provisional, Without}
use Rattle.ice_journal.specs.Records.{Record, Version, version_1, version_2, Kind, assign_kind, regret_kind, session_kind, exchange_kind, prices_kind, open_end, spent_end}
use Rattle.ice_journal.specs.Records as line
use Rattle.ice_journal.specs.Plain.{all_zero}
use Rattle.ice_section.specs.Section.{may_end}
use Rattle.ice_journal_laws.specs.Fields.{is_spent, is_limit, is_round_stop, is_end, step_in}
use Rattle.ice_journal_laws.specs.State.{Place, at_section, at_group, at_log, at_balance_rows, at_spent_sets, at_spent_log, at_prices, at_pool, at_end, done, State, goods_at}
use Rattle.ice_journal_laws.specs.Next.{next, next_at, go_to, to_line, if_true, after_section, past_section, open_after}
use Rattle.ice_journal_laws.specs.Tests.{IsStop}
use Rattle.ice_migrate.proofs.Keeping.{is_past}
use Rattle.ice_migrate.specs.Stopped.{place_of, HasCounts}
use Rattle.ice_migrate.specs.declared.place.Place as declared
use Rattle.ice_migrate.specs.declared.counts.Counts.{Counts}
use Rattle.ice_journal.specs.declared.line.Line.{Line}
use Rattle.ice_journal.specs.declared.line.Line.TheVariants as shown
use Rattle.ice_defs.specs.declared.PricingStage.{PricingStage}
use Rattle.ice_defs.specs.declared.LimitKind.{LimitKind as CodeLimit}
use Rattle.ice_journal.specs.Lines.{record_of}
use Rattle.ice_defs.specs.declared.NodeKind.TheVariants.{Choose, Buy, Sell}

-- ---- the first record

-- the state after, if there is one, has this place
abbrev Leads : Place → Option State → Type 0
Leads place None = Unit {0}
Leads place (Some s) = s.place ≡ place

test_leads : (b : Bool) (place : Place) (s : State) → Leads place (if_true b (go_to place s))
test_leads true place s = refl
test_leads false place s = tt

none_leads : (place : Place) (o : Option State) → o ≡ None → Leads place o
none_leads place None e = tt
none_leads place (Some s) e = absurd (none-some s (sym e))

-- the first record of a stop
abbrev is_stop : Record → Bool
is_stop (line.spent value bound) = true
is_stop (line.limit stage kind violation den) = true
is_stop (line.end open_end) = true
is_stop (line.refused file number place) = true
is_stop (line.unread file) = true
is_stop other = false

no_step : (v : Version) (goods : ℕ) (m : Multipliers) (r : Record) → is_stop r ≡ true → step_in v goods m r ≡ None
no_step version_1 goods m r stop = by r stop
  where
    by : (r : Record) → is_stop r ≡ true → step_in version_1 goods m r ≡ None
    by (line.step x) e = absurd (false≢true e)
    by other e = refl
no_step version_2 goods m r stop = by r stop
  where
    by : (r : Record) → is_stop r ≡ true → step_in version_2 goods m r ≡ None
    by (line.step x) e = absurd (false≢true e)
    by (line.near changes) e = absurd (false≢true e)
    by other e = refl

module _ (s : State) where
  spent_opens : (value bound : ℤ) (kind : Kind) (b : Bool) → Leads (at_spent_sets 0) (cond b (after_section (past_section s) kind (line.spent value bound)) None)
  spent_opens value bound kind false = tt
  spent_opens value bound assign_kind true = tt
  spent_opens value bound regret_kind true = refl
  spent_opens value bound session_kind true = tt
  spent_opens value bound exchange_kind true = tt
  spent_opens value bound prices_kind true = tt

  spent_leads : (place : Place) (value bound : ℤ) → Leads (at_spent_sets 0) (next_at s place (line.spent value bound))
  spent_leads at_section value bound = spent_opens value bound s.kind (may_end s.section)
  spent_leads (at_group Assign) value bound = refl
  spent_leads (at_group Final) value bound = refl
  spent_leads (at_group Rival) value bound = refl
  spent_leads (at_group Provisional) value bound = refl
  spent_leads (at_group (Without b)) value bound = refl
  spent_leads (at_log g found sides m) value bound = none_leads (at_spent_sets 0) _ (ap (option_map _) (no_step s.version (goods_at s) m (line.spent value bound) refl))
  spent_leads (at_spent_log sides) value bound = none_leads (at_spent_sets 0) _ (ap (option_map _) (no_step s.version (goods_at s) (all_zero (goods_at s)) (line.spent value bound) refl))
  spent_leads other value bound = tt

  limit_opens : (stage : Stage) (limit : LimitKind) (violation : ℤ) (den : ℕ) (kind : Kind) (b : Bool) → Leads at_pool (cond b (after_section (past_section s) kind (line.limit stage limit violation den)) None)
  limit_opens stage limit violation den kind false = tt
  limit_opens stage limit violation den assign_kind true = tt
  limit_opens stage limit violation den regret_kind true = tt
  limit_opens stage limit violation den session_kind true = tt
  limit_opens stage limit violation den exchange_kind true = tt
  limit_opens stage limit violation den prices_kind true = tt

  limit_leads : (place : Place) (stage : Stage) (limit : LimitKind) (violation : ℤ) (den : ℕ) → Leads at_pool (next_at s place (line.limit stage limit violation den))
  limit_leads at_section stage limit violation den = limit_opens stage limit violation den s.kind (may_end s.section)
  limit_leads (at_group Assign) stage limit violation den = tt
  limit_leads (at_group Final) stage limit violation den = tt
  limit_leads (at_group Rival) stage limit violation den = tt
  limit_leads (at_group Provisional) stage limit violation den = tt
  limit_leads (at_group (Without b)) stage limit violation den = tt
  limit_leads (at_log g found sides m) stage limit violation den = none_leads at_pool _ (ap (option_map _) (no_step s.version (goods_at s) m (line.limit stage limit violation den) refl))
  limit_leads (at_spent_log sides) stage limit violation den = none_leads at_pool _ (ap (option_map _) (no_step s.version (goods_at s) (all_zero (goods_at s)) (line.limit stage limit violation den) refl))
  limit_leads at_prices stage limit violation den = refl
  limit_leads other stage limit violation den = tt

  open_opens : (kind : Kind) (b : Bool) → Leads done (cond b (after_section (past_section s) kind (line.end open_end)) None)
  open_opens kind false = tt
  open_opens assign_kind true = tt
  open_opens regret_kind true = tt
  open_opens session_kind true = tt
  open_opens exchange_kind true = tt
  open_opens prices_kind true = tt

  open_leads : (place : Place) → Leads done (next_at s place (line.end open_end))
  open_leads at_section = open_opens s.kind (may_end s.section)
  open_leads (at_group Assign) = tt
  open_leads (at_group Final) = tt
  open_leads (at_group Rival) = tt
  open_leads (at_group Provisional) = tt
  open_leads (at_group (Without b)) = tt
  open_leads (at_log g found sides m) = none_leads done _ (ap (option_map _) (no_step s.version (goods_at s) m (line.end open_end) refl))
  open_leads (at_spent_log sides) = none_leads done _ (ap (option_map _) (no_step s.version (goods_at s) (all_zero (goods_at s)) (line.end open_end) refl))
  open_leads (at_balance_rows den rows) = refl
  open_leads (at_end word) = test_leads (is_end word (line.end open_end)) done s
  open_leads other = tt

  refused_opens : (file number : ℕ) (name : List ℕ) (kind : Kind) (b : Bool) → Leads done (cond b (after_section (past_section s) kind (line.refused file number name)) None)
  refused_opens file number name kind false = tt
  refused_opens file number name assign_kind true = tt
  refused_opens file number name regret_kind true = tt
  refused_opens file number name session_kind true = tt
  refused_opens file number name exchange_kind true = tt
  refused_opens file number name prices_kind true = tt

  refused_leads : (place : Place) (file number : ℕ) (name : List ℕ) → Leads done (next_at s place (line.refused file number name))
  refused_leads at_section file number name = refused_opens file number name s.kind (may_end s.section)
  refused_leads (at_group Assign) file number name = tt
  refused_leads (at_group Final) file number name = tt
  refused_leads (at_group Rival) file number name = tt
  refused_leads (at_group Provisional) file number name = tt
  refused_leads (at_group (Without b)) file number name = tt
  refused_leads (at_log g found sides m) file number name = none_leads done _ (ap (option_map _) (no_step s.version (goods_at s) m (line.refused file number name) refl))
  refused_leads (at_spent_log sides) file number name = none_leads done _ (ap (option_map _) (no_step s.version (goods_at s) (all_zero (goods_at s)) (line.refused file number name) refl))
  refused_leads (at_balance_rows den rows) file number name = test_leads (is_round_stop (s.number + 2) (line.refused file number name)) done s
  refused_leads other file number name = tt

  unread_opens : (file : ℕ) (kind : Kind) (b : Bool) → Leads done (cond b (after_section (past_section s) kind (line.unread file)) None)
  unread_opens file kind false = tt
  unread_opens file assign_kind true = tt
  unread_opens file regret_kind true = tt
  unread_opens file session_kind true = tt
  unread_opens file exchange_kind true = tt
  unread_opens file prices_kind true = tt

  unread_leads : (place : Place) (file : ℕ) → Leads done (next_at s place (line.unread file))
  unread_leads at_section file = unread_opens file s.kind (may_end s.section)
  unread_leads (at_group Assign) file = tt
  unread_leads (at_group Final) file = tt
  unread_leads (at_group Rival) file = tt
  unread_leads (at_group Provisional) file = tt
  unread_leads (at_group (Without b)) file = tt
  unread_leads (at_log g found sides m) file = none_leads done _ (ap (option_map _) (no_step s.version (goods_at s) m (line.unread file) refl))
  unread_leads (at_spent_log sides) file = none_leads done _ (ap (option_map _) (no_step s.version (goods_at s) (all_zero (goods_at s)) (line.unread file) refl))
  unread_leads (at_balance_rows den rows) file = test_leads (is_round_stop (s.number + 2) (line.unread file)) done s
  unread_leads other file = tt

  -- what the first record of a stop leads to
  leads_line : (place : Place) (r : Record) (after : State) → Leads place (next_at s s.place r) → next s r ≡ Some after → after.place ≡ place
  leads_line place r after leads e = by (next_at s s.place r) leads e
    where
      by : (o : Option State) → Leads place o → option_map (to_line (suc s.line)) o ≡ Some after → after.place ≡ place
      by None l f = absurd (none-some after f)
      by (Some t) l f = subst (Leads place) f l

  pub spent_place : (after : State) (value bound : ℤ) → next s (line.spent value bound) ≡ Some after → after.place ≡ at_spent_sets 0
  spent_place after value bound e = leads_line (at_spent_sets 0) (line.spent value bound) after (spent_leads s.place value bound) e

  pub limit_place : (after : State) (stage : Stage) (limit : LimitKind) (violation : ℤ) (den : ℕ) → next s (line.limit stage limit violation den) ≡ Some after → after.place ≡ at_pool
  limit_place after stage limit violation den e = leads_line at_pool (line.limit stage limit violation den) after (limit_leads s.place stage limit violation den) e

  -- any other first record of a stop ends the journal
  pub other_place : (after : State) (r : Record) → is_spent r ≡ false → is_limit r ≡ false → IsStop s r → next s r ≡ Some after → after.place ≡ done
  other_place after (line.spent value bound) spent limited stop e = absurd (true≢false spent)
  other_place after (line.limit stage kind violation den) spent limited stop e = absurd (true≢false limited)
  other_place after (line.end open_end) spent limited stop e = leads_line done (line.end open_end) after (open_leads s.place) e
  other_place after (line.end word) spent limited stop e = absurd (false≢true stop.0)
  other_place after (line.refused file number name) spent limited stop e = leads_line done (line.refused file number name) after (refused_leads s.place file number name) e
  other_place after (line.unread file) spent limited stop e = leads_line done (line.unread file) after (unread_leads s.place file) e
  other_place after other spent limited stop e = absurd (false≢true stop.0)

-- a line whose record is of a spent search, or of a limit, is one
pub no_spent : (l : Line) → ((value bound : ℤ) → l ≡ shown.Spent value bound → ⊥) → is_spent (record_of l) ≡ false
no_spent (shown.Spent value bound) none = absurd (none value bound refl)
no_spent (shown.Node (Choose least most) children lo hi) none = refl
no_spent (shown.Node (Buy good units) children lo hi) none = refl
no_spent (shown.Node (Sell good units) children lo hi) none = refl
no_spent other none = refl

pub no_limit : (l : Line) → ((stage : PricingStage) (kind : CodeLimit) (violation : ℤ) (den : ℕ) → l ≡ shown.Limit stage kind violation den → ⊥) → is_limit (record_of l) ≡ false
no_limit (shown.Limit stage kind violation den) none = absurd (none stage kind violation den refl)
no_limit (shown.Node (Choose least most) children lo hi) none = refl
no_limit (shown.Node (Buy good units) children lo hi) none = refl
no_limit (shown.Node (Sell good units) children lo hi) none = refl
no_limit other none = refl

-- ---- the records behind it

pub at_place : (s : State) (self q : declared.Place) (l m : Line) (o : Option State) → self ≡ q → l ≡ m → next_at s (place_of q) (record_of m) ≡ o → next_at s (place_of self) (record_of l) ≡ o
at_place s self q l m o e f h = ap (λ (p : declared.Place). next_at s (place_of p) (record_of l)) e ∙ ap (λ (k : Line). next_at s (place_of q) (record_of k)) f ∙ h

-- where the place stays
pub stays_there : (s : State) (place : Place) → s.place ≡ place → Some s ≡ Some (go_to place s)
stays_there s place is = ap (λ (p : Place). let y : Option State = Some (go_to p s) in y) is

pub after_set : (s : State) (c : Counts) (taken : ℕ) (x : NodeSet) (p : Place) → HasCounts s c → p ≡ cond (taken + 1 == c.bidders) (at_spent_log 1) (at_spent_sets (taken + 1)) → next_at s (at_spent_sets taken) (line.set x) ≡ Some (go_to p s)
after_set s c taken x p has e =
    let next : p ≡ cond (suc taken == c.bidders) (at_spent_log 1) (at_spent_sets (suc taken)) = subst (λ (n : ℕ). p ≡ cond (n == c.bidders) (at_spent_log 1) (at_spent_sets n)) (add-one taken) e in
    ap (λ (n : ℕ). let y : Option State = Some (go_to (cond (suc taken == n) (at_spent_log 1) (at_spent_sets (suc taken))) s) in y) has.bidders ∙ ap (λ (q : Place). let y : Option State = Some (go_to q s) in y) (sym next)

pub after_step : (s : State) (sides left : ℕ) (r : Record) (x : Step) (p : Place) → step_in s.version (goods_at s) (all_zero (goods_at s)) r ≡ Some x → open_after x sides ≡ left → p ≡ cond (left == 0) (at_end spent_end) (at_spent_log left)
    → next_at s (at_spent_log sides) r ≡ Some (go_to p s)
after_step s sides left r x p is opens e =
    ap (option_map (λ y. go_to (cond (open_after y sides == 0) (at_end spent_end) (at_spent_log (open_after y sides))) s)) is
    ∙ ap (λ (n : ℕ). let y : Option State = Some (go_to (cond (n == 0) (at_end spent_end) (at_spent_log n)) s) in y) opens ∙ ap (λ (q : Place). let y : Option State = Some (go_to q s) in y) (sym e)

-- the steps of a log of version 1
pub branch_taken : (s : State) (c : Counts) (m : Multipliers) (b n : ℕ) → HasCounts s c → step_in s.version (goods_at s) m (line.step (branch b n)) ≡ Some (branch b n)
branch_taken s c m b n has = ap (λ (v : Version). step_in v (goods_at s) m (line.step (branch b n))) has.version

pub dead_taken : (s : State) (c : Counts) (m : Multipliers) (b : ℕ) → HasCounts s c → step_in s.version (goods_at s) m (line.step (dead b)) ≡ Some (dead b)
dead_taken s c m b has = ap (λ (v : Version). step_in v (goods_at s) m (line.step (dead b))) has.version

leaf_is : (s : State) (c : Counts) (m new : Multipliers) → HasCounts s c → step_in s.version (goods_at s) m (line.step (leaf new)) ≡ cond (length new == c.goods) (Some (leaf new)) None
leaf_is s c m new has =
    ap (λ (v : Version). step_in v (goods_at s) m (line.step (leaf new))) has.version ∙ ap (λ (n : ℕ). let y : Option Step = cond (length new == n) (Some (leaf new)) None in y) has.goods

pub leaf_taken : (s : State) (c : Counts) (m new : Multipliers) → HasCounts s c → length new ≡ c.goods → step_in s.version (goods_at s) m (line.step (leaf new)) ≡ Some (leaf new)
leaf_taken s c m new has counts = leaf_is s c m new has ∙ ap (λ (b : Bool). let y : Option Step = cond b (Some (leaf new)) None in y) (eq-eqb (length new) c.goods counts)

-- behind the first record of a stop the exchange is complete
pub stop_past : (s now : State) (r : Record) → IsStop s r → next s r ≡ Some now → is_past now.place ≡ true
stop_past s now (line.spent value bound) stop e = ap is_past (spent_place s now value bound e)
stop_past s now (line.limit stage kind violation den) stop e = ap is_past (limit_place s now stage kind violation den e)
stop_past s now (line.end word) stop e = ap is_past (other_place s now (line.end word) refl refl stop e)
stop_past s now (line.refused file number name) stop e = ap is_past (other_place s now (line.refused file number name) refl refl stop e)
stop_past s now (line.unread file) stop e = ap is_past (other_place s now (line.unread file) refl refl stop e)
stop_past s now other stop e = absurd (false≢true stop.0)
