-- Journals that stop: at a spent search, at a limit of the pricing, and for want of a round file.
use Rattle.std.proofs.Common.{◌≡◌, ◌+◌, ◌<◌, ℕ, suc, Bool, cond, List, [], ◌∷◌, ◌++◌, length, map, ℤ, refl, sym, ◌∙◌, ap, subst}
use Rattle.std.specs.Prelude.{Some, None, option_map, IsTrue, ◌||◌}
use Rattle.std.specs.List.{AllByRecursion}
use Rattle.std.proofs.lemmas.Bool.{eq-eqb}
use Rattle.std.proofs.lemmas.Option.{none-some}
use Rattle.ice_defs.specs.Set.{Weights}
use Rattle.ice_defs.specs.PricingLimit.{Stage, LimitKind}
use Rattle.ice_defs.specs.Rows.{Certificate}
use Rattle.ice_defs.specs.Log.{Passes}
use Rattle.ice_defs.specs.Steps.{Side}
use Rattle.ice_defs.specs.Session.{Proved}
use Rattle.ice_refute.specs.Code.{CountsGoods}
use Rattle.ice_journal.specs.Records.{Record, Kind, version_2, spent_end, limit_end, open_end}
use Rattle.ice_journal.specs.Records as line
use Rattle.ice_journal.specs.Plain.{all_zero}
use Rattle.ice_journal.specs.Ranges.{IsRecord}
use Rattle.ice_journal_laws.specs.Fields.{is_spent, is_limit, is_round_stop}
use Rattle.ice_journal_laws.specs.State.{at_prices, at_spent_sets, at_pool, done, State, begun, trees_at, exact_at, goods_at}
use Rattle.ice_journal_laws.specs.Next.{to_line, go_to}
use Rattle.ice_journal_laws.specs.Tests.{BidderSet, BalanceHolds, ended_list}
use Rattle.ice_journal_laws.specs.Showing.{step_records}
use Rattle.ice_journal_laws.specs.Carrying.{Carries}
use Rattle.ice_journal_laws.specs.SoFar.{IsSoFar, Orders}
use Rattle.ice_journal_laws.proofs.CarriedRound.{resting_at}
use Rattle.ice_journal_laws.proofs.CarriedSoFar.{StandsTo, orders_then, orders_one, stop_so_far}
use Rattle.ice_journal_laws.proofs.CarriedSpent.{spent_orders}

-- ---- a spent search

-- the records behind the stop's own
abbrev pub spent_rest : State → Proved → List Record
spent_rest s p = map line.set p.sets ++ step_records s.version (all_zero (goods_at s)) p.log ++ line.end spent_end ∷ []

-- one set per bidder, and a log that passes at some target
pub record IsWholeStop (s : State) (p : Proved) : Type 0 where
  pub some : 0 < length (trees_at s)
  pub count : length p.sets ≡ length (trees_at s)
  pub counts : AllByRecursion (CountsGoods (goods_at s)) p.log
  pub ws : List Weights
  pub target : ℤ
  pub start : Side
  pub passes : Passes (trees_at s) (exact_at s) ws target start p.log

pub spent_stop_orders : (t s : State) (p : Proved) (bound : ℤ) → StandsTo t (line.spent p.value bound) (go_to (at_spent_sets 0) s) → IsWholeStop s p → Orders t (line.spent p.value bound ∷ spent_rest s p) (go_to done s)
spent_stop_orders t s p bound stands is =
    orders_then t (go_to (at_spent_sets 0) s) (go_to done s) (line.spent p.value bound) (spent_rest s p) stands
    (spent_orders s (trees_at s) (exact_at s) is.ws is.target is.start p.sets p.log is.some is.count is.counts is.passes)

-- each front of it
pub spent_so_far : (kind : Kind) (before front back : List Record) (t s : State) (p : Proved) (bound : ℤ) → Carries (begun version_2 kind) before t → ended_list t.place (line.spent p.value bound) ≡ None
    → StandsTo t (line.spent p.value bound) (go_to (at_spent_sets 0) s) → IsWholeStop s p → front ++ back ≡ spent_rest s p → AllByRecursion IsRecord (line.head version_2 kind ∷ (before ++ line.spent p.value bound ∷ front))
    → IsSoFar kind (line.head version_2 kind ∷ (before ++ line.spent p.value bound ∷ front))
spent_so_far kind before front back t s p bound h list stands is e lawful =
    stop_so_far kind before front back (line.spent p.value bound) t (go_to done s) h (λ n x f. absurd (none-some x (sym list ∙ f))) refl
    (subst (λ (rs : List Record). Orders t (line.spent p.value bound ∷ rs) (go_to done s)) (sym e) (spent_stop_orders t s p bound stands is)) lawful

-- ---- a limit

abbrev pub pool_record : BidderSet → Record
pool_record m = line.pool m.bidder m.set

abbrev pub limit_rest : List BidderSet → List Record
limit_rest pool = map pool_record pool ++ line.end limit_end ∷ []

pool_orders : (s : State) (pool : List BidderSet) → Orders (go_to at_pool s) (limit_rest pool) (go_to done s)
pool_orders s [] = orders_one (go_to at_pool s) (go_to done s) (line.end limit_end) (λ n. refl)
pool_orders s (m ∷ pool) = orders_then (go_to at_pool s) (go_to at_pool s) (go_to done s) (pool_record m) (limit_rest pool) (λ n. refl) (pool_orders s pool)

pub limit_so_far : (kind : Kind) (before front back : List Record) (s : State) (stage : Stage) (why : LimitKind) (violation : ℤ) (den : ℕ) (pool : List BidderSet) → Carries (begun version_2 kind) before (go_to at_prices s) → front ++ back ≡ limit_rest pool
    → AllByRecursion IsRecord (line.head version_2 kind ∷ (before ++ line.limit stage why violation den ∷ front))
    → IsSoFar kind (line.head version_2 kind ∷ (before ++ line.limit stage why violation den ∷ front))
limit_so_far kind before front back s stage why violation den pool h e lawful =
    stop_so_far kind before front back (line.limit stage why violation den) (go_to at_prices s) (go_to done s) h (λ n x f. absurd (none-some x f)) refl
    (subst (λ (rs : List Record). Orders (go_to at_prices s) (line.limit stage why violation den ∷ rs) (go_to done s)) (sym e)
    (orders_then (go_to at_prices s) (go_to at_pool s) (go_to done s) (line.limit stage why violation den) (limit_rest pool) (λ n. refl) (pool_orders s pool)))
    lawful

-- ---- no round file

-- the records that may stand in the place of a round
pub data RoundStop (s : State) : Record → Type 0 where
  no_file : RoundStop s (line.end open_end)
  file_refused : (number : ℕ) (place : List ℕ) → RoundStop s (line.refused (s.number + 2) number place)
  file_unread : RoundStop s (line.unread (s.number + 2))

round_stop_stands : (s : State) (c : Certificate) (r : Record) → RoundStop s r → StandsTo (resting_at c [] s) r (record s { place = done; judged = [] })
round_stop_stands s c r no_file n = refl
round_stop_stands s c r (file_refused number place) n = ap (λ (t : Bool). option_map (to_line (suc n)) (cond t (Some (record s { line = n; place = done; judged = [] })) None)) (eq-eqb (s.number + 2) (s.number + 2) refl)
round_stop_stands s c r file_unread n = ap (λ (t : Bool). option_map (to_line (suc n)) (cond t (Some (record s { line = n; place = done; judged = [] })) None)) (eq-eqb (s.number + 2) (s.number + 2) refl)

round_stop_is : (s : State) (r : Record) → RoundStop s r → IsTrue (is_spent r || is_limit r || is_round_stop (s.number + 2) r)
round_stop_is s r no_file = refl
round_stop_is s r (file_refused number place) = eq-eqb (s.number + 2) (s.number + 2) refl
round_stop_is s r file_unread = eq-eqb (s.number + 2) (s.number + 2) refl

-- a settlement that goes on, whose round has no submission yet
pub round_stop_so_far : (kind : Kind) (before : List Record) (s : State) (c : Certificate) (r : Record) → Carries (begun version_2 kind) before (resting_at c [] s) → BalanceHolds s c.den c.rows → RoundStop s r
    → AllByRecursion IsRecord (line.head version_2 kind ∷ (before ++ r ∷ [])) → IsSoFar kind (line.head version_2 kind ∷ (before ++ r ∷ []))
round_stop_so_far kind before s c r h holds is lawful =
    stop_so_far kind before [] [] r (resting_at c [] s) (record s { place = done; judged = [] }) h (λ n x f. holds) (round_stop_is s r is)
    (orders_one (resting_at c [] s) (record s { place = done; judged = [] }) r (round_stop_stands s c r is)) lawful
