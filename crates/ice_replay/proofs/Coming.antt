-- Where the tests of a session's records have come, and the settlements among the records.
use Rattle.std.proofs.Common.{◌≡◌, ℕ, Bool, true, false, cond, List, [], ◌∷◌, ◌++◌, ℤ, refl, sym, ◌∙◌, ap, subst, ◌⊎◌, inl, inr}
use Rattle.std.specs.Prelude.{Option, Some, None, option_and_then}
use Rattle.std.proofs.lemmas.Option.{none-some, same_Some}
use Rattle.ice_journal.specs.Records.{Record, Version, version_1, version_2, session_kind}
use Rattle.ice_journal.specs.Records as line
use Rattle.ice_journal_laws.specs.declared.rule.Rule.{Rule}
use Rattle.ice_journal_laws.specs.declared.rule.Rule.TheVariants as rule
use Rattle.ice_journal_laws.specs.State.{Place, at_regret, at_accuracy_rows, at_balance_rows, State, begun}
use Rattle.ice_journal_laws.specs.Next.{next, after_all}
use Rattle.ice_journal_laws.specs.Tests.{Fails, IsStop, ended_list}
use Rattle.ice_journal_laws.specs.Checks.{Failure}
use Rattle.ice_journal_laws.specs.Progress.{Progress, nothing, other_kind, passing, failed, out_of_memory, passes_on, fails_at, list_fails_at, IsAfter, Leads, goes}
use Rattle.ice_journal_laws.proofs.Leading.{stays_failed, finds}
use Rattle.ice_journal_laws.proofs.Heads.{session_checked}
use Rattle.ice_journal_laws.proofs.Carried.{leads_ordered}
use Rattle.ice_replay.specs.Settlements.{Settles}
use Rattle.ice_replay.specs.Watching.{IsFine}
use Rattle.ice_replay.proofs.Stopping.{is_stopped, IsBehind, stops, all_stay}

-- ---- in the order of the records

-- a list of rows fails no stop
rows_stop : (b : Bool) (x y : Rule) → (y ≡ rule.Closed → ⊥) → cond b (Some y) None ≡ Some x → x ≡ rule.Closed → ⊥
rows_stop true x y other e closed = other (same_Some y x e ∙ closed)
rows_stop false x y other e closed = none-some x e

accuracy_closed : rule.Accuracy ≡ rule.Closed → ⊥
accuracy_closed e = cc

balance_closed : rule.Balance ≡ rule.Closed → ⊥
balance_closed e = cc

pub list_stops : (p : Place) (r : Record) (x : Rule) → ended_list p r ≡ Some x → x ≡ rule.Closed → ⊥
list_stops (at_accuracy_rows den rows) r x e closed = rows_stop _ x rule.Accuracy accuracy_closed e closed
list_stops (at_balance_rows den rows) r x e closed = rows_stop _ x rule.Balance balance_closed e closed
list_stops other r x e closed = none-some x e

same_rule : (f g : Failure) → failed f ≡ failed g → f.rule ≡ g.rule
same_rule f g e = cc

-- the first failed test is that of a stop: what stands behind is behind the stop
stopped_order : (s : State) (records : List Record) (f : Failure) → Leads (passing s) records (failed f) → f.rule ≡ rule.Closed → (t : State) → after_all s records ≡ Some t → is_stopped t.place ≡ true
stopped_order s [] f l closed t e = elim l [ ]
stopped_order s (r ∷ records) f (goes (passes_on {after = after} list none holds is) l) closed t e =
    stopped_order after records f l closed t (sym (ap (option_and_then (λ x. after_all x records)) is) ∙ e)
stopped_order s (r ∷ records) f (goes (fails_at {x = x} list first) l) closed t e =
    let same : f.rule ≡ x = same_rule f _ (stays_failed _ records (failed f) l) in
    let stop : IsStop s r = subst (λ (y : Rule). Fails y s r) (sym same ∙ closed) first.0 in
    by (next s r) (stops s r stop) e
  where
    by : (o : Option State) → IsBehind o → option_and_then (λ x. after_all x records) o ≡ Some t → is_stopped t.place ≡ true
    by None h i = absurd (none-some t i)
    by (Some after) h i = all_stay after t records h i
stopped_order s (r ∷ records) f (goes (list_fails_at {x = x} ends not) l) closed t e =
    let same : f.rule ≡ x = same_rule f _ (stays_failed _ records (failed f) l) in
    absurd (list_stops s.place r x ends (sym same ∙ closed))

-- where the tests stand behind these records: each passed, or the first that failed is that of a
-- stop
pub data Stood (s : State) (records : List Record) : Progress → Type 0 where
  all_passed : {t : State} → after_all s records ≡ Some t → Stood s records (passing t)
  has_stopped : {f : Failure} → f.rule ≡ rule.Closed → ((t : State) → after_all s records ≡ Some t → is_stopped t.place ≡ true) → Stood s records (failed f)

pub session_leads : (v : Version) (records : List Record) (p : Progress) → Leads nothing (line.head v session_kind ∷ records) p → Leads (passing (begun v session_kind)) records p
session_leads version_1 records p (goes {q = q} a l) = subst (λ (x : Progress). Leads x records p) a l
session_leads version_2 records p (goes {q = q} a l) = subst (λ (x : Progress). Leads x records p) a l

module _ (v : Version) (records : List Record) where
  pub stood : (p : Progress) → Leads nothing (line.head v session_kind ∷ records) p → IsFine p → Stood (begun v session_kind) records p
  stood nothing l fine = absurd fine
  stood other_kind l fine = absurd fine
  stood (passing t) l fine = all_passed (leads_ordered (begun v session_kind) t records (session_leads v records (passing t) l))
  stood (failed f) l fine = has_stopped fine (stopped_order (begun v session_kind) records f (session_leads v records (failed f) l) fine)
  stood out_of_memory l fine = absurd fine

  -- no test failed before it either
  pub fine_before : (p q : Progress) (r : Record) → Leads nothing (line.head v session_kind ∷ records) p → IsAfter p r q → IsFine q → IsFine p
  fine_before nothing q r l a fine = absurd (finds (line.head v session_kind ∷ records) nothing l (session_checked (line.head v session_kind ∷ records) refl))
  fine_before other_kind q r l a fine = absurd (finds (line.head v session_kind ∷ records) other_kind l (session_checked (line.head v session_kind ∷ records) refl))
  fine_before (passing t) q r l a fine = tt
  fine_before (failed f) q r l a fine = subst IsFine a fine
  fine_before out_of_memory q r l a fine = absurd a

-- ---- settlements

-- the last record states the regret of the settlement with this number
pub record IsLast (number : ℕ) (s : State) (records : List Record) (r : Record) : Type 0 where
  pub amount : ℤ
  pub is : r ≡ line.regret amount
  pub state : State
  pub reached : after_all s records ≡ Some state
  pub place : state.place ≡ at_regret
  pub number_is : state.number ≡ number

pub head_is : (a b : Record) (xs ys : List Record) → a ∷ xs ≡ b ∷ ys → a ≡ b
head_is a b xs ys e = cc

pub rest_is : (a b : Record) (xs ys : List Record) → a ∷ xs ≡ b ∷ ys → xs ≡ ys
rest_is a b xs ys e = cc

nothing_stands : (r : Record) (before rest : List Record) → [] ≡ before ++ r ∷ rest → ⊥
nothing_stands r [] rest e = cc
nothing_stands r (b ∷ before) rest e = cc

module _ (number : ℕ) where
  pub none_settles : (s : State) → Settles number s [] → ⊥
  none_settles s x = nothing_stands (line.regret x.amount) x.before x.rest x.stands

  -- behind one record more
  behind : (s t : State) (a r : Record) (records : List Record) → next s a ≡ Some t → Settles number t records ⊎ IsLast number t records r → Settles number s (a ∷ records) ⊎ IsLast number s (a ∷ records) r
  behind s t a r records e (inl x) = inl (record {
    before = a ∷ x.before;
    amount = x.amount;
    rest = x.rest;
    stands = ap (λ (l : List Record). a ∷ l) x.stands;
    state = x.state;
    reached = ap (option_and_then (λ after. after_all after x.before)) e ∙ x.reached;
    place = x.place;
    number_is = x.number_is;
  })
  behind s t a r records e (inr x) = inr (record {
    amount = x.amount;
    is = x.is;
    state = x.state;
    reached = ap (option_and_then (λ after. after_all after records)) e ∙ x.reached;
    place = x.place;
    number_is = x.number_is;
  })

  settled_at : (s : State) (records : List Record) (r : Record) (before : List Record) (amount : ℤ) (rest : List Record) (state : State) → records ++ r ∷ [] ≡ before ++ line.regret amount ∷ rest → after_all s before ≡ Some state
      → state.place ≡ at_regret → state.number ≡ number → Settles number s records ⊎ IsLast number s records r
  settled_at s [] r [] amount rest state e reached place number_is =
      inr (record { amount = amount; is = head_is r (line.regret amount) [] rest e; state = state; reached = reached; place = place; number_is = number_is })
  settled_at s [] r (b ∷ before) amount rest state e reached place number_is = absurd (nothing_stands (line.regret amount) before rest (rest_is r b [] (before ++ line.regret amount ∷ rest) e))
  settled_at s (a ∷ records) r [] amount rest state e reached place number_is = inl (record {
    before = [];
    amount = amount;
    rest = records;
    stands = ap (λ (x : Record). x ∷ records) (head_is a (line.regret amount) (records ++ r ∷ []) rest e);
    state = state;
    reached = reached;
    place = place;
    number_is = number_is;
  })
  settled_at s (a ∷ records) r (b ∷ before) amount rest state e reached place number_is =
      by (next s a) refl (λ t f. settled_at t records r before amount rest state (rest_is a b (records ++ r ∷ []) (before ++ line.regret amount ∷ rest) e) f place number_is)
      (ap (λ (x : Record). option_and_then (λ after. after_all after before) (next s x)) (head_is a b (records ++ r ∷ []) (before ++ line.regret amount ∷ rest) e) ∙ reached)
    where
      by : (o : Option State) → next s a ≡ o → ((t : State) → after_all t before ≡ Some state → Settles number t records ⊎ IsLast number t records r) → option_and_then (λ after. after_all after before) o ≡ Some state
          → Settles number s (a ∷ records) ⊎ IsLast number s (a ∷ records) r
      by None at later f = absurd (none-some state f)
      by (Some t) at later f = behind s t a r records at (later t f)

  -- it stands among the records before the last, or there
  pub settled : (s : State) (records : List Record) (r : Record) → Settles number s (records ++ r ∷ []) → Settles number s records ⊎ IsLast number s records r
  settled s records r x = settled_at s records r x.before x.amount x.rest x.state x.stands x.reached x.place x.number_is
