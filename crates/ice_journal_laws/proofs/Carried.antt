-- Records that lead on are joined, and a journal of them passes, ends early or stops.
use Rattle.std.proofs.Common.{◌≡◌, ◌≢◌, ℕ, suc, true, List, [], ◌∷◌, ◌++◌, refl, ◌∙◌, ap, subst, ◌⊎◌, inl, inr, arith}
use Rattle.std.specs.Prelude.{Option, Some, None, option_and_then, option_map}
use Rattle.std.proofs.lemmas.Option.{none-some}
use Rattle.std.proofs.lemmas.List.{append-nil}
use Rattle.ice_journal.specs.Records.{Record, Version, Kind}
use Rattle.ice_journal.specs.Records as line
use Rattle.ice_journal_laws.specs.declared.rule.Rule.TheVariants as rule
use Rattle.ice_journal_laws.specs.State.{Place, done, State, begun}
use Rattle.ice_journal_laws.specs.Next.{next_at, next, to_line, after_all}
use Rattle.ice_journal_laws.specs.Tests.{IsStop}
use Rattle.ice_journal_laws.specs.Checks.{Tested, passes, fails, is_checked, Checks}
use Rattle.ice_journal_laws.specs.Progress.{Progress, passing, TakesOn, passes_on, fails_at, list_fails_at, EndsList, Leads, stays, goes}
use Rattle.ice_journal_laws.specs.Carrying.{Carries}
use Rattle.ice_journal_laws.proofs.Leading.{failed_passes, leads_tested}

-- ---- joining

pub leads_join : (p q end : Progress) (a b : List Record) → Leads p a q → Leads q b end → Leads p (a ++ b) end
leads_join p q end [] b stays l = l
leads_join p q end (r ∷ a) b (goes {q = mid} h k) l = goes h (leads_join mid q end a b k l)

-- from a state, where each state passes on, the front of the records leads to a state, and the
-- others lead on from it
pub leads_front : (s t : State) (a b : List Record) → Leads (passing s) (a ++ b) (passing t) → (u : State) × Leads (passing s) a (passing u) × Leads (passing u) b (passing t)
leads_front s t [] b l = (s, stays, l)
leads_front s t (r ∷ a) b (goes (passes_on {after = after} list none holds is) l) = let (u, h, k) = leads_front after t a b l in (u, goes (passes_on list none holds is) h, k)
leads_front s t (r ∷ a) b (goes (fails_at list f) l) = absurd (failed_passes _ (a ++ b) t l)
leads_front s t (r ∷ a) b (goes (list_fails_at e n) l) = absurd (failed_passes _ (a ++ b) t l)

-- no record
pub carries_none : (s : State) → Carries s [] s
carries_none s = record { leads = λ n. (n, stays) }

pub carries_join : (s t u : State) (a b : List Record) → Carries s a t → Carries t b u → Carries s (a ++ b) u
carries_join s t u a b x y = record { leads = λ n. let (m, l) = x.leads n in let (k, h) = y.leads m in (k, leads_join (passing (to_line n s)) (passing (to_line m t)) (passing (to_line k u)) a b l h) }

-- a record passes, whatever line is next
abbrev pub TakesTo : State → Record → State → Type 0
TakesTo s r t = (n : ℕ) → TakesOn (to_line n s) r (passing (to_line (suc n) t))

-- one record, and what comes after it
pub carries_then : (s t u : State) (r : Record) (rest : List Record) → TakesTo s r t → Carries t rest u → Carries s (r ∷ rest) u
carries_then s t u r rest h y = record { leads = λ n. let (k, l) = y.leads (suc n) in (k, goes (h n) l) }

pub carries_one : (s t : State) (r : Record) → TakesTo s r t → Carries s (r ∷ []) t
carries_one s t r h = carries_then s t t r [] h (carries_none t)

-- the same records in other words, or the same state
pub carries_same : (s t : State) (a b : List Record) → a ≡ b → Carries s a t → Carries s b t
carries_same s t a b e h = subst (λ (rs : List Record). Carries s rs t) e h

-- ---- closing

pub leads_ordered : (s t : State) (records : List Record) → Leads (passing s) records (passing t) → after_all s records ≡ Some t
leads_ordered s t [] stays = refl
leads_ordered s t (r ∷ rest) (goes (passes_on {after = after} list none holds is) l) =
    ap (λ (o : Option State). option_and_then (λ x. after_all x rest) o) is ∙ leads_ordered after t rest l
leads_ordered s t (r ∷ rest) (goes (fails_at list f) l) = absurd (failed_passes _ rest t l)
leads_ordered s t (r ∷ rest) (goes (list_fails_at e n) l) = absurd (failed_passes _ rest t l)

-- the whole journal passes
pub carries_tested : (version : Version) (kind : Kind) (rest : List Record) (t : State) → Carries (begun version kind) rest t → t.place ≡ done → Tested (begun version kind) rest None
carries_tested version kind rest t h e =
    let (m, l) = h.leads 2 in
    subst (λ (rs : List Record). Tested (begun version kind) rs None) (append-nil rest) (leads_tested (begun version kind) (to_line m t) rest [] None l (passes e))

pub carries_checks : (version : Version) (kind : Kind) (rest : List Record) (t : State) → is_checked version kind ≡ true → Carries (begun version kind) rest t → t.place ≡ done → Checks (line.head version kind ∷ rest)
carries_checks version kind rest t checked h e = (checked, carries_tested version kind rest t h e)

-- or a stop stands in it, whatever comes after the stop
pub carries_stopped : (version : Version) (kind : Kind) (before rest : List Record) (r : Record) (t : State) → Carries (begun version kind) before t → ((n : ℕ) → EndsList (to_line n t) r) → ((n : ℕ) → IsStop (to_line n t) r)
    → (n : ℕ) × Tested (begun version kind) (before ++ r ∷ rest) (Some (record { line = n; rule = rule.Closed }))
carries_stopped version kind before rest r t h list stop =
    let (m, l) = h.leads 2 in
    (m, leads_tested (begun version kind) (to_line m t) before (r ∷ rest) _ l (fails (list m) (stop m, λ other least f. absurd (omega (arith, least)))))

-- each front of records that lead on leads on, to where the others lead on
pub carries_front : (version : Version) (kind : Kind) (a b : List Record) (t : State) → Carries (begun version kind) (a ++ b) t
    → (u : State) × Leads (passing (begun version kind)) a (passing u) × ((m : ℕ) × Leads (passing u) b (passing (to_line m t)))
carries_front version kind a b t h = let (m, l) = h.leads 2 in let (u, front, others) = leads_front (begun version kind) (to_line m t) a b l in (u, front, (m, others))

-- ---- where a record comes, the journal has no end yet

pub stands_open : (s after : State) (r : Record) → next s r ≡ Some after → s.place ≢ done
stands_open s after r is e = none-some after (subst (λ (p : Place). option_map (to_line (suc s.line)) (next_at s p r) ≡ Some after) e is)

pub takes_open : (s t : State) (r : Record) → TakesTo s r t → s.place ≢ done
takes_open s t r h = by (h 0)
  where
    by : TakesOn (to_line 0 s) r (passing (to_line 1 t)) → s.place ≢ done
    by (passes_on list none holds is) = stands_open (to_line 0 s) (to_line 1 t) r is

pub leads_open : (u t : State) (b : List Record) → Leads (passing u) b (passing t) → (b ≢ []) ⊎ (t.place ≢ done) → u.place ≢ done
leads_open u t [] stays (inl more) = absurd (more refl)
leads_open u t [] stays (inr open_end) = open_end
leads_open u t (r ∷ rest) (goes (passes_on {after = after} list none holds is) l) h = stands_open u after r is
leads_open u t (r ∷ rest) (goes (fails_at list f) l) h = absurd (failed_passes _ rest t l)
leads_open u t (r ∷ rest) (goes (list_fails_at e n) l) h = absurd (failed_passes _ rest t l)
