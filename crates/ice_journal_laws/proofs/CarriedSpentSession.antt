-- A session that stops at a search that spent its branches.
use Rattle.std.proofs.Common.{◌≡◌, ◌<◌, ℕ, suc, List, [], ◌∷◌, ◌++◌, length, map, ℤ, refl, sym, ◌∙◌, ap, subst}
use Rattle.std.specs.List.{AllByRecursion}
use Rattle.ice_defs.specs.Set.{Weights}
use Rattle.ice_defs.specs.Steps.{Side}
use Rattle.ice_defs.specs.Log.{Passes}
use Rattle.ice_defs.specs.Bounds.{Bounds}
use Rattle.ice_defs.specs.Exchange.{Exchange, trees_of, exact_of, opening_bounds}
use Rattle.ice_headline_laws.specs.Right.{bounds_after_round, bounds_after_rounds}
use Rattle.ice_defs.specs.Session.{Proved, Going}
use Rattle.ice_refute.specs.Code.{CountsGoods}
use Rattle.ice_journal.specs.Records.{Record, Version, version_1, version_2, session_kind, spent_end}
use Rattle.ice_journal.specs.Records as line
use Rattle.ice_journal.specs.Plain.{plain, all_zero}
use Rattle.ice_journal.specs.Ranges.{IsRecord}
use Rattle.ice_section.specs.Described.{section_records}
use Rattle.ice_journal_laws.specs.State.{at_group, State, exchange_at, goods_at}
use Rattle.ice_journal_laws.specs.Next.{go_to}
use Rattle.ice_journal_laws.specs.Written.{proved_records}
use Rattle.ice_journal_laws.specs.Showing.{step_records, group_records, regret_group_records}
use Rattle.ice_journal_laws.specs.ShowingSession.{going_in, goings_in, without_group_records, AreShownGoing}
use Rattle.ice_journal_laws.specs.Earning.{Earning}
use Rattle.ice_journal_laws.specs.Positions.{Position, before_final, before_rival, before_provisional, before_without, group_at, position_records, IsShownPosition}
use Rattle.ice_journal_laws.specs.SoFar.{IsSoFar}
use Rattle.ice_journal_laws.proofs.CarriedVersions.{Unpacks, unpacks_none, unpacks_join, unpacks_then, unpacks_group, plain_record, unpacks_settlement, whole_says, settlement_counts}
use Rattle.ice_journal_laws.proofs.Spelled.{steps_plain}
use Rattle.ice_journal_laws.proofs.CarriedRegret.{group_plain, settlement_plain}
use Rattle.ice_journal_laws.proofs.CarriedPlain.{withouts_plain, going_plain}
use Rattle.ice_journal_laws.proofs.CarriedSays.{unpacks_going, unpacks_withouts}
use Rattle.ice_journal_laws.proofs.CarriedSpent.{spent_stands}
use Rattle.ice_journal_laws.proofs.CarriedStops.{spent_rest, IsWholeStop, spent_so_far}
use Rattle.ice_journal_laws.proofs.CarriedPosition.{state_at, Awaits}

-- a search of this exchange: one set per bidder, and a log that passes at some target
pub record IsWholeSearch (ex : Exchange) (p : Proved) : Type 0 where
  pub some : 0 < length (trees_of ex)
  pub count : length p.sets ≡ length (trees_of ex)
  pub counts : AllByRecursion (CountsGoods (length (exact_of ex))) p.log
  pub ws : List Weights
  pub target : ℤ
  pub start : Side
  pub passes : Passes (trees_of ex) (exact_of ex) ws target start p.log

-- the records of the stop behind its own, of this version
abbrev pub spent_rest_in : Version → ℕ → Proved → List Record
spent_rest_in version goods p = map line.set p.sets ++ step_records version (all_zero goods) p.log ++ line.end spent_end ∷ []

exchange_same : (at : Position) (s : State) → exchange_at (state_at at s) ≡ exchange_at s
exchange_same before_final s = refl
exchange_same (before_rival final) s = refl
exchange_same (before_provisional x) s = refl
exchange_same (before_without x withouts) s = refl

version_same : (at : Position) (s : State) → (state_at at s).version ≡ s.version
version_same before_final s = refl
version_same (before_rival final) s = refl
version_same (before_provisional x) s = refl
version_same (before_without x withouts) s = refl

module _ (E : Earning) (before : List Record) (ex : Exchange) (bounds : List Bounds) (at : Position) (awaits : Awaits E before version_2 ex bounds at) (p : Proved) (bound : ℤ) (is : IsWholeSearch ex p) where
  abbrev Now : State
  Now = state_at at awaits.state

  exchange_is : exchange_at (state_at at awaits.state) ≡ ex
  exchange_is = exchange_same at awaits.state ∙ awaits.exchange

  version_is : (state_at at awaits.state).version ≡ version_2
  version_is = version_same at awaits.state ∙ awaits.version

  rest_same : spent_rest (state_at at awaits.state) p ≡ spent_rest_in version_2 (length (exact_of ex)) p
  rest_same =
      ap (λ (v : Version). spent_rest_in v (goods_at (state_at at awaits.state)) p) version_is
      ∙ ap (λ (x : Exchange). spent_rest_in version_2 (length (exact_of x)) p) exchange_is

  stop_is : IsWholeStop (state_at at awaits.state) p
  stop_is =
      let here : IsWholeSearch (exchange_at (state_at at awaits.state)) p = subst (λ (x : Exchange). IsWholeSearch x p) (sym exchange_is) is in
      record { some = here.some; count = here.count; counts = here.counts; ws = here.ws; target = here.target; start = here.start; passes = here.passes }

  -- each front of the stop is a journal so far
  pub session_spent_so_far : (front back : List Record) → front ++ back ≡ spent_rest_in version_2 (length (exact_of ex)) p → AllByRecursion IsRecord (line.head version_2 session_kind ∷ (before ++ line.spent p.value bound ∷ front))
      → IsSoFar session_kind (line.head version_2 session_kind ∷ (before ++ line.spent p.value bound ∷ front))
  session_spent_so_far front back e lawful =
      spent_so_far session_kind before front back (go_to (at_group (group_at at)) (state_at at awaits.state)) (state_at at awaits.state) p bound awaits.earns.carries refl
      (spent_stands (state_at at awaits.state) (group_at at) p.value bound) stop_is (e ∙ sym rest_same) lawful

-- ---- in version 1

module _ (ex : Exchange) where
  pub unpacks_goings : (bounds : List Bounds) (number : ℕ) (going : List Going) → AreShownGoing ex number bounds going → Unpacks (length (exact_of ex)) (goings_in version_2 (length (exact_of ex)) number going) (goings_in version_1 (length (exact_of ex)) number going)
  unpacks_goings bounds number [] is = unpacks_none (length (exact_of ex))
  unpacks_goings bounds number (g ∷ later) is =
      unpacks_join (length (exact_of ex)) (going_in version_2 (length (exact_of ex)) number g) (going_in version_1 (length (exact_of ex)) number g) (goings_in version_2 (length (exact_of ex)) (suc number) later) (goings_in version_1 (length (exact_of ex)) (suc number) later)
      (subst (Unpacks (length (exact_of ex)) (going_in version_2 (length (exact_of ex)) number g)) (sym (going_plain (length (exact_of ex)) number g)) (unpacks_going ex bounds number g is.1))
      (unpacks_goings (bounds_after_round ex bounds g) (suc number) later is.2)

  unpacks_settle : (number : ℕ) (a b : List Record) → Unpacks (length (exact_of ex)) a b → Unpacks (length (exact_of ex)) (line.settle number ∷ a) (line.settle number ∷ b)
  unpacks_settle number a b h = unpacks_then (length (exact_of ex)) (line.settle number) a b (plain_record (length (exact_of ex)) (line.settle number) (λ m rest. refl) (λ rest. refl)) h

  pub unpacks_position : (number : ℕ) (bounds : List Bounds) (at : Position) → IsShownPosition ex number bounds at → Unpacks (length (exact_of ex)) (position_records version_2 (length (exact_of ex)) number at) (position_records version_1 (length (exact_of ex)) number at)
  unpacks_position number bounds before_final is = unpacks_settle number [] [] (unpacks_none (length (exact_of ex)))
  unpacks_position number bounds (before_rival final) is =
      unpacks_settle number (group_records version_2 (length (exact_of ex)) (line.final final.value) final) (group_records version_1 (length (exact_of ex)) (line.final final.value) final)
      (subst (Unpacks (length (exact_of ex)) (group_records version_2 (length (exact_of ex)) (line.final final.value) final)) (sym (group_plain (length (exact_of ex)) (line.final final.value) final))
      (unpacks_group (length (exact_of ex)) (line.final final.value) final (plain_record (length (exact_of ex)) (line.final final.value) (λ m rest. refl) (λ rest. refl)) is.counts))
  unpacks_position number bounds (before_provisional x) is =
      unpacks_settle number (regret_group_records version_2 (length (exact_of ex)) x) (regret_group_records version_1 (length (exact_of ex)) x)
      (subst (Unpacks (length (exact_of ex)) (regret_group_records version_2 (length (exact_of ex)) x)) (sym (settlement_plain (length (exact_of ex)) x)) (unpacks_settlement (length (exact_of ex)) x (settlement_counts ex bounds x is.1)))
  unpacks_position number bounds (before_without x withouts) is =
      unpacks_join (length (exact_of ex)) (line.settle number ∷ regret_group_records version_2 (length (exact_of ex)) x) (line.settle number ∷ regret_group_records version_1 (length (exact_of ex)) x) (without_group_records version_2 (length (exact_of ex)) 0 withouts) (without_group_records version_1 (length (exact_of ex)) 0 withouts)
      (unpacks_settle number (regret_group_records version_2 (length (exact_of ex)) x) (regret_group_records version_1 (length (exact_of ex)) x)
      (subst (Unpacks (length (exact_of ex)) (regret_group_records version_2 (length (exact_of ex)) x)) (sym (settlement_plain (length (exact_of ex)) x)) (unpacks_settlement (length (exact_of ex)) x (settlement_counts ex bounds x is.1))))
      (subst (Unpacks (length (exact_of ex)) (without_group_records version_2 (length (exact_of ex)) 0 withouts)) (sym (withouts_plain (length (exact_of ex)) 0 withouts)) (unpacks_withouts (length (exact_of ex)) _ _ _ 0 withouts refl is.3))

  pub unpacks_spent : (p : Proved) (bound : ℤ) → AllByRecursion (CountsGoods (length (exact_of ex))) p.log
      → Unpacks (length (exact_of ex)) (line.spent p.value bound ∷ spent_rest_in version_2 (length (exact_of ex)) p) (line.spent p.value bound ∷ map line.set p.sets ++ map line.step p.log ++ line.end spent_end ∷ [])
  unpacks_spent p bound counts =
      unpacks_join (length (exact_of ex)) (group_records version_2 (length (exact_of ex)) (line.spent p.value bound) p) (proved_records (line.spent p.value bound) p) (line.end spent_end ∷ []) (line.end spent_end ∷ [])
      (unpacks_group (length (exact_of ex)) (line.spent p.value bound) p (plain_record (length (exact_of ex)) (line.spent p.value bound) (λ m rest. refl) (λ rest. refl)) counts)
      (unpacks_then (length (exact_of ex)) (line.end spent_end) [] [] (plain_record (length (exact_of ex)) (line.end spent_end) (λ m rest. refl) (λ rest. refl)) (unpacks_none (length (exact_of ex))))

  -- the records behind the exchange of a session that stops so
  abbrev pub spent_session_records : Version → List Going → Position → Proved → ℤ → List Record
  spent_session_records v going at p bound = goings_in v (length (exact_of ex)) 0 going ++ position_records v (length (exact_of ex)) (length going) at ++ line.spent p.value bound ∷ spent_rest_in v (length (exact_of ex)) p

  -- what is written in version 2 says version 1
  pub session_spent_says : (going : List Going) (at : Position) (p : Proved) (bound : ℤ) → AreShownGoing ex 0 (opening_bounds ex) going → IsShownPosition ex (length going) (bounds_after_rounds ex (opening_bounds ex) going) at
      → AllByRecursion (CountsGoods (length (exact_of ex))) p.log
      → plain (line.head version_2 session_kind ∷ section_records ex ++ spent_session_records version_2 going at p bound) ≡ line.head version_1 session_kind ∷ section_records ex ++ spent_session_records version_1 going at p bound
  session_spent_says going at p bound are is counts =
      whole_says session_kind ex (spent_session_records version_2 going at p bound) (spent_session_records version_1 going at p bound)
      (unpacks_join (length (exact_of ex)) (goings_in version_2 (length (exact_of ex)) 0 going ++ position_records version_2 (length (exact_of ex)) (length going) at) (goings_in version_1 (length (exact_of ex)) 0 going ++ position_records version_1 (length (exact_of ex)) (length going) at)
      (line.spent p.value bound ∷ spent_rest_in version_2 (length (exact_of ex)) p) (line.spent p.value bound ∷ spent_rest_in version_1 (length (exact_of ex)) p)
      (unpacks_join (length (exact_of ex)) (goings_in version_2 (length (exact_of ex)) 0 going) (goings_in version_1 (length (exact_of ex)) 0 going) (position_records version_2 (length (exact_of ex)) (length going) at) (position_records version_1 (length (exact_of ex)) (length going) at)
      (unpacks_goings (opening_bounds ex) 0 going are) (unpacks_position (length going) (bounds_after_rounds ex (opening_bounds ex) going) at is))
      (subst (λ (rs : List Record). Unpacks (length (exact_of ex)) (line.spent p.value bound ∷ spent_rest_in version_2 (length (exact_of ex)) p) (line.spent p.value bound ∷ map line.set p.sets ++ rs ++ line.end spent_end ∷ [])) (sym (steps_plain (all_zero (length (exact_of ex))) p.log))
      (unpacks_spent p bound counts)))
