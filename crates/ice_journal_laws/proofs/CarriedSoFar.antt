-- A journal so far: each front of records that lead on, and each front of a stop behind them.
use Rattle.std.proofs.Common.{◌≡◌, ◌≢◌, ℕ, suc, List, [], ◌∷◌, ◌++◌, refl, sym, ◌∙◌, ap, subst, ◌⊎◌, inl, inr}
use Rattle.std.specs.Prelude.{Option, Some, None, option_and_then, IsSome, IsTrue, ◌||◌, ◌+◌}
use Rattle.std.specs.List.{AllByRecursion}
use Rattle.std.proofs.lemmas.Option.{none-some}
use Rattle.std.proofs.lemmas.List.{append-nil}
use Rattle.ice_journal.specs.Records.{Record, Kind, version_2}
use Rattle.ice_journal.specs.Records as line
use Rattle.ice_journal.specs.Ranges.{IsRecord}
use Rattle.ice_journal_laws.specs.declared.rule.Rule.TheVariants as rule
use Rattle.ice_journal_laws.specs.Fields.{is_spent, is_limit, is_round_stop}
use Rattle.ice_journal_laws.specs.State.{Place, at_section, at_group, at_sets, at_log, at_regret, at_prices, at_accuracy, at_accuracy_rows, at_balance_rows, at_round, at_verdict, at_threshold, at_payment, at_spent_sets, at_spent_log, at_pool, at_end, done, State, begun}
use Rattle.ice_journal_laws.specs.Next.{next, to_line, after_all}
use Rattle.ice_journal_laws.specs.Checks.{Failure, Tested, passes, is_short}
use Rattle.ice_journal_laws.specs.Progress.{passing, EndsList, Leads}
use Rattle.ice_journal_laws.specs.Carrying.{Carries}
use Rattle.ice_journal_laws.specs.SoFar.{IsUnfinished, IsUnstopped, IsSoFar, Orders}
use Rattle.ice_journal_laws.proofs.Leading.{leads_tested}
use Rattle.ice_journal_laws.proofs.Carried.{leads_ordered, carries_front, carries_stopped, leads_open}

-- ---- records in order

after_all_join : (s t : State) (a b : List Record) → after_all s a ≡ Some t → after_all s (a ++ b) ≡ after_all t b
after_all_join s t [] b e = ap (λ (o : Option State). option_and_then (λ x. after_all x b) o) e
after_all_join s t (r ∷ a) b e = by (next s r) e (λ u f. after_all_join u t a b f)
  where
    by : (o : Option State) → option_and_then (λ x. after_all x a) o ≡ Some t → ((u : State) → after_all u a ≡ Some t → after_all u (a ++ b) ≡ after_all t b) → option_and_then (λ x. after_all x (a ++ b)) o ≡ after_all t b
    by None f more = absurd (none-some t f)
    by (Some u) f more = more u f

front_ordered : (s t : State) (a b : List Record) → after_all s (a ++ b) ≡ Some t → IsSome (after_all s a)
front_ordered s t [] b e = refl
front_ordered s t (r ∷ a) b e = by (next s r) e (λ u f. front_ordered u t a b f)
  where
    by : (o : Option State) → option_and_then (λ x. after_all x (a ++ b)) o ≡ Some t → ((u : State) → after_all u (a ++ b) ≡ Some t → IsSome (after_all u a)) → IsSome (option_and_then (λ x. after_all x a) o)
    by None f more = absurd (none-some t f)
    by (Some u) f more = more u f

pub orders_none : (s : State) → Orders s [] s
orders_none s = record { leads = λ n. (n, refl) }

pub orders_join : (s t u : State) (a b : List Record) → Orders s a t → Orders t b u → Orders s (a ++ b) u
orders_join s t u a b x y = record { leads = λ n. let (m, e) = x.leads n in let (k, f) = y.leads m in (k, after_all_join (to_line n s) (to_line m t) a b e ∙ f) }

-- a record may stand there
abbrev pub StandsTo : State → Record → State → Type 0
StandsTo s r t = (n : ℕ) → next (to_line n s) r ≡ Some (to_line (suc n) t)

pub orders_then : (s t u : State) (r : Record) (rest : List Record) → StandsTo s r t → Orders t rest u → Orders s (r ∷ rest) u
orders_then s t u r rest h y = record { leads = λ n. let (k, f) = y.leads (suc n) in (k, ap (λ (o : Option State). option_and_then (λ x. after_all x rest) o) (h n) ∙ f) }

pub orders_one : (s t : State) (r : Record) → StandsTo s r t → Orders s (r ∷ []) t
orders_one s t r h = orders_then s t t r [] h (orders_none t)

-- ---- a journal so far

is_done : (p : Place) → (p ≡ done) ⊎ (p ≢ done)
is_done done = inl refl
is_done at_section = inr (λ e. cc)
is_done (at_group g) = inr (λ e. cc)
is_done (at_sets g found) = inr (λ e. cc)
is_done (at_log g found sides m) = inr (λ e. cc)
is_done at_regret = inr (λ e. cc)
is_done at_prices = inr (λ e. cc)
is_done at_accuracy = inr (λ e. cc)
is_done (at_accuracy_rows den rows) = inr (λ e. cc)
is_done (at_balance_rows den rows) = inr (λ e. cc)
is_done at_round = inr (λ e. cc)
is_done (at_verdict x) = inr (λ e. cc)
is_done at_threshold = inr (λ e. cc)
is_done (at_payment b) = inr (λ e. cc)
is_done (at_spent_sets n) = inr (λ e. cc)
is_done (at_spent_log n) = inr (λ e. cc)
is_done at_pool = inr (λ e. cc)
is_done (at_end word) = inr (λ e. cc)

-- it isn't whole, and no stop stands in it
pub record IsSoFarUnstopped (kind : Kind) (journal : List Record) : Type 0 where
  pub so_far : IsSoFar kind journal
  pub unstopped : IsUnstopped so_far.end

-- what the tests find of records that lead on
pub leads_found : (s t : State) (records : List Record) → Leads (passing s) records (passing t)
    → (end : Option Failure) × Tested s records end × IsUnfinished end × (t.place ≢ done → IsUnstopped end)
leads_found s t records l = by (is_done t.place)
  where
    by : (t.place ≡ done) ⊎ (t.place ≢ done) → (end : Option Failure) × Tested s records end × IsUnfinished end × (t.place ≢ done → IsUnstopped end)
    by (inl e) = (None, subst (λ (rs : List Record). Tested s rs None) (append-nil records) (leads_tested s t records [] None l (passes e)), tt, λ ne. absurd (ne e))
    by (inr ne) = (
      Some (record { line = t.line; rule = rule.Short }),
      subst (λ (rs : List Record). Tested s rs (Some (record { line = t.line; rule = rule.Short }))) (append-nil records) (leads_tested s t records [] _ l (is_short ne)),
      inl refl,
      λ other. refl,
    )

-- each front of records that lead on
pub front_so_far : (kind : Kind) (a b : List Record) (t : State) → Carries (begun version_2 kind) (a ++ b) t → AllByRecursion IsRecord (line.head version_2 kind ∷ a)
    → (so_far : IsSoFar kind (line.head version_2 kind ∷ a)) × ((b ≢ []) ⊎ (t.place ≢ done) → IsUnstopped so_far.end)
front_so_far kind a b t h lawful =
    let (u, l, others) = carries_front version_2 kind a b t h in
    let (end, tested, unfinished, unstopped) = leads_found (begun version_2 kind) u a l in
    let so_far : IsSoFar kind (line.head version_2 kind ∷ a) = record {
      lawful = lawful;
      rest = a;
      headed = refl;
      ordered = subst (λ (o : Option State). IsSome o) (sym (leads_ordered (begun version_2 kind) u a l)) refl;
      end = end;
      tested = tested;
      unfinished = unfinished;
    } in
    (so_far, λ more. unstopped (leads_open u (to_line others.0 t) b others.1 more))

-- all of them
module _ (kind : Kind) (records : List Record) (t : State) (h : Carries (begun version_2 kind) records t) (lawful : AllByRecursion IsRecord (line.head version_2 kind ∷ records)) where
  with_none : Carries (begun version_2 kind) (records ++ []) t
  with_none = subst (λ (rs : List Record). Carries (begun version_2 kind) rs t) (sym (append-nil records)) h

  pub whole_so_far : IsSoFar kind (line.head version_2 kind ∷ records)
  whole_so_far = (front_so_far kind records [] t with_none lawful).0

  -- and where they don't lead to the end
  pub whole_unstopped : t.place ≢ done → IsSoFarUnstopped kind (line.head version_2 kind ∷ records)
  whole_unstopped ne = let (so_far, unstopped) = front_so_far kind records [] t with_none lawful in record { so_far = so_far; unstopped = unstopped (inr ne) }

-- ---- a stop behind records that lead on

first_is : (s u : State) (r : Record) (rest : List Record) → after_all s (r ∷ rest) ≡ Some u → IsSome (next s r)
first_is s u r rest e = by (next s r) e
  where
    by : (o : Option State) → option_and_then (λ x. after_all x rest) o ≡ Some u → IsSome o
    by None f = absurd (none-some u f)
    by (Some t) f = refl

-- each front of a stop
pub stop_so_far : (kind : Kind) (before front back : List Record) (stop : Record) (t u : State) → Carries (begun version_2 kind) before t → ((n : ℕ) → EndsList (to_line n t) stop)
    → IsTrue (is_spent stop || is_limit stop || is_round_stop (t.number + 2) stop) → Orders t (stop ∷ (front ++ back)) u → AllByRecursion IsRecord (line.head version_2 kind ∷ (before ++ stop ∷ front))
    → IsSoFar kind (line.head version_2 kind ∷ (before ++ stop ∷ front))
stop_so_far kind before front back stop t u h list is ordered lawful =
    let stopped = carries_stopped version_2 kind before front stop t h list (λ n. (is, first_is (to_line n t) (to_line (ordered.leads n).0 u) stop (front ++ back) (ordered.leads n).1)) in
    let (m, l) = h.leads 2 in
    let (k, e) = ordered.leads m in
    record {
      lawful = lawful;
      rest = before ++ stop ∷ front;
      headed = refl;
      ordered =
          subst (λ (o : Option State). IsSome o) (sym (after_all_join (begun version_2 kind) (to_line m t) before (stop ∷ front) (leads_ordered (begun version_2 kind) (to_line m t) before l)))
          (front_ordered (to_line m t) (to_line k u) (stop ∷ front) back e);
      end = Some (record { line = stopped.0; rule = rule.Closed });
      tested = stopped.1;
      unfinished = inr refl;
    }
