-- A session as it runs: it begins, a settlement opens a round, the round goes on, and it ends.
use Rattle.std.proofs.Common.{◌≡◌, ◌≤◌, ◌+◌, ℕ, suc, false, List, [], ◌∷◌, ◌++◌, length, ℤ, arith, refl, sym, subst, ◌∙◌, ap, append_assoc}
use Rattle.std.specs.List.{AllByRecursion, flat_map}
use Rattle.std.proofs.lemmas.List.{append-nil}
use Rattle.std.proofs.lemmas.List.Concat.{flat_map-append}
use Rattle.ice_defs.specs.Steps.{branch_count}
use Rattle.ice_defs.specs.Bounds.{Bounds}
use Rattle.ice_defs.specs.Sweep.{EarnsStep}
use Rattle.ice_defs.specs.Prices.{Prices}
use Rattle.ice_defs.specs.Round.{Judged, Standing, IsNextVerdict, next_bounds}
use Rattle.ice_defs.specs.Exchange.{Exchange, exact_of, opening_bounds}
use Rattle.ice_defs.specs.Lawful.{IsExchange}
use Rattle.ice_defs.specs.Session.{Going, closes, standings}
use Rattle.ice_headline_laws.specs.Right.{bounds_after_round, bounds_after_rounds}
use Rattle.ice_defs.proofs.Lists.{all-append}
use Rattle.ice_round_laws.proofs.Taking.{rounds_go_on}
use Rattle.ice_bound.proofs.Living.{opening_are_bounds}
use Rattle.ice_journal.specs.Records.{Record, Version, version_2}
use Rattle.ice_journal.specs.Records as line
use Rattle.ice_journal.specs.Ranges.{IsRecord}
use Rattle.ice_journal_laws.specs.Written.{judged_records}
use Rattle.ice_journal_laws.specs.Showing.{regret_group_records}
use Rattle.ice_journal_laws.specs.ShowingSession.{opening_in, going_in, goings_in, AreShownVerdicts, IsShownGoing, AreShownGoing}
use Rattle.ice_journal_laws.specs.Earning.{EarnsGoing, EarnGoings}
use Rattle.ice_journal_laws.specs.Positions.{settlement_branches, going_branches}
use Rattle.ice_journal_laws.proofs.Past.{IsPast, past_more}
use Rattle.ice_verdicts.specs.Judges.{Round, bidders_in, IsAfter}
use Rattle.ice_round.specs.SessionAt.{SessionAt, RoundAt, session_after}
use Rattle.ice_settled.specs.Shown.{going_of}
use Rattle.ice_round.specs.Shown.{IsOpening}
use Rattle.ice_settled.specs.declared.settled.Opening.{Opening}
use Rattle.ice_round.proofs.GoingOn.{more_rounds}
use Rattle.ice_write_session.specs.Records.{opening_records}
use Rattle.ice_session_laws.specs.Running.{IsRunning, IsInRound}
use Rattle.ice_session_laws.proofs.Openings.{opening_shown, opening_earned}

-- ---- the session begins

begun_runs : (ex : Exchange) → IsExchange ex → IsRunning [] (record { exchange = ex; bounds = opening_bounds ex; number = 0; branches = ex.settings.branches })
begun_runs ex lawful = record {
  exchange = lawful;
  shown = tt;
  earned = tt;
  right = tt;
  records = tt;
  bounds = refl;
  lawful = opening_are_bounds ex lawful;
  number = refl;
  few = omega arith;
  branches = omega arith;
}

pub run_begins : (ex : Exchange) (s : SessionAt) → IsExchange ex → s ≡ record { exchange = ex; bounds = opening_bounds ex; number = 0; branches = ex.settings.branches } → IsRunning [] s
run_begins ex s lawful e = subst (IsRunning []) (sym e) (begun_runs ex lawful)

-- ---- a settlement opens a round

pub few_settlements : (going : List Going) (s : SessionAt) → IsRunning going s → s.number ≤ 20
few_settlements going s run = omega (arith, run.few, run.exchange.settings.rounds)

pub opening_going : (ex : Exchange) (number : ℕ) (o : Opening) → o.number ≡ number → opening_records ex o ≡ going_in version_2 (length (exact_of ex)) number (going_of o [])
opening_going ex number o same =
    ap (λ (n : ℕ). opening_records ex (record o { number = n })) same ∙ sym (append-nil (opening_records ex (record o { number = number })))

pub round_begins : (going : List Going) (s : SessionAt) (r : RoundAt) (o : Opening) → IsRunning going s → IsOpening s r o → AllByRecursion IsRecord (opening_records s.exchange o) → IsInRound going s (going_of o []) r
round_begins going s r o run is records = record {
  running = run;
  goes_on = is.goes_on;
  shown = opening_shown s run.exchange run.lawful r o is [] tt;
  earned = opening_earned s run.exchange run.lawful r o is [];
  right = is.going;
  records = subst (AllByRecursion IsRecord) (opening_going s.exchange s.number o is.number) records;
  exchange = is.exchange;
  number = is.same_number;
  bounds = is.bounds;
  sets = is.sets;
  prices = is.prices;
  after = is.begins;
  branches = is.branches;
}

-- ---- the round goes on

verdict_more : (p : Prices) (improve : ℤ) (bidders : List Standing) (earlier later : List Judged) (j : Judged) → AreShownVerdicts p improve bidders earlier later → IsNextVerdict p improve bidders (earlier ++ later) j.submission j.verdict
    → AreShownVerdicts p improve bidders earlier (later ++ j ∷ [])
verdict_more p improve bidders earlier [] j are next = (subst (λ (js : List Judged). IsNextVerdict p improve bidders js j.submission j.verdict) (append-nil earlier) next, tt)
verdict_more p improve bidders earlier (k ∷ later) j are next = (
  are.0,
  verdict_more p improve bidders (earlier ++ k ∷ []) later j are.1 (subst (λ (js : List Judged). IsNextVerdict p improve bidders js j.submission j.verdict) (sym (append_assoc earlier (k ∷ []) later)) next),
)

abbrev with_judged : Going → Judged → Going
with_judged g j = record g { judged = g.judged ++ j ∷ [] }

records_more : (goods number : ℕ) (g : Going) (j : Judged) → going_in version_2 goods number (with_judged g j) ≡ going_in version_2 goods number g ++ judged_records j
records_more goods number g j =
    let front : List Record = line.settle number ∷ regret_group_records version_2 goods g.settlement ++ opening_in version_2 goods g in
    ap (λ (rs : List Record). (line.settle number ∷ regret_group_records version_2 goods g.settlement ++ opening_in version_2 goods g) ++ rs) (flat_map-append judged_records g.judged (j ∷ []))
    ∙ sym (append_assoc front (flat_map judged_records g.judged) (judged_records j))

pub round_goes_on : (going : List Going) (s : SessionAt) (last : Going) (r : RoundAt) (round : Round) (j : Judged) → IsInRound going s last r → IsNextVerdict r.round.prices r.exchange.settings.improve (bidders_in r.exchange r.round) last.judged j.submission j.verdict
    → AllByRecursion IsRecord (judged_records j) → round.bounds ≡ r.round.bounds → round.sets ≡ r.round.sets → round.prices ≡ r.round.prices → IsAfter r.exchange (last.judged ++ j ∷ []) round
    → IsInRound going s (record last { judged = last.judged ++ j ∷ [] }) (record r { round = round })
round_goes_on going s last r round j in_round next fits bounds sets prices after =
    let now : IsNextVerdict last.prices s.exchange.settings.improve (standings s.exchange s.bounds last.provisional.sets) last.judged j.submission j.verdict =
    subst (λ (p : Prices). IsNextVerdict p s.exchange.settings.improve (standings s.exchange s.bounds last.provisional.sets) last.judged j.submission j.verdict) in_round.prices
    (subst (λ a. IsNextVerdict r.round.prices s.exchange.settings.improve (standings s.exchange s.bounds a) last.judged j.submission j.verdict) in_round.sets
    (subst (λ (b : List Bounds). IsNextVerdict r.round.prices s.exchange.settings.improve (standings s.exchange b r.round.sets) last.judged j.submission j.verdict) in_round.bounds
    (subst (λ (x : Exchange). IsNextVerdict r.round.prices x.settings.improve (standings x r.round.bounds r.round.sets) last.judged j.submission j.verdict) in_round.exchange next))) in
    record {
      running = in_round.running;
      goes_on = in_round.goes_on;
      shown = record {
        settlement = in_round.shown.settlement;
        provisional = in_round.shown.provisional;
        pricing = record {
          prices = in_round.shown.pricing.prices;
          violation = in_round.shown.pricing.violation;
          accuracy = in_round.shown.pricing.accuracy;
          accuracy_few = in_round.shown.pricing.accuracy_few;
          balance = in_round.shown.pricing.balance;
          balance_few = in_round.shown.pricing.balance_few;
        };
        verdicts = verdict_more last.prices s.exchange.settings.improve (standings s.exchange s.bounds last.provisional.sets) [] last.judged j in_round.shown.verdicts now;
      };
      earned = record { settlement = in_round.earned.settlement; provisional = in_round.earned.provisional };
      right = record {
        settled = in_round.right.settled;
        provisional = in_round.right.provisional;
        violation = in_round.right.violation;
        balanced = in_round.right.balanced;
        round = (rounds_go_on last.prices s.exchange.settings.improve (standings s.exchange s.bounds last.provisional.sets) last.judged j).1 (in_round.right.round, now);
      };
      records = subst (AllByRecursion IsRecord) (sym (records_more (length (exact_of s.exchange)) s.number last j))
          (all-append IsRecord (going_in version_2 (length (exact_of s.exchange)) s.number last) (judged_records j) in_round.records fits);
      exchange = in_round.exchange;
      number = in_round.number;
      bounds = bounds ∙ in_round.bounds;
      sets = sets ∙ in_round.sets;
      prices = prices ∙ in_round.prices;
      after = subst (λ (x : Exchange). IsAfter x (last.judged ++ j ∷ []) round) in_round.exchange after;
      branches = in_round.branches;
    }

-- ---- the round ends

at_number : (ex : Exchange) (m n : ℕ) (regret : ℤ) → m ≡ n → closes ex.settings m regret ≡ false → closes ex.settings n regret ≡ false
at_number ex m n regret e c = subst (λ (k : ℕ). closes ex.settings k regret ≡ false) e c

module _ (ex : Exchange) where
  shown_more : (n : ℕ) (bounds : List Bounds) (past : List Going) (g : Going) → AreShownGoing ex n bounds past → closes ex.settings (n + length past) g.settlement.regret ≡ false
      → IsShownGoing ex (bounds_after_rounds ex bounds past) g → AreShownGoing ex n bounds (past ++ g ∷ [])
  shown_more n bounds [] g are c is = (at_number ex (n + 0) n g.settlement.regret (omega arith) c, is, tt)
  shown_more n bounds (first ∷ later) g are c is = (
    are.0,
    are.1,
    shown_more (suc n) (bounds_after_round ex bounds first) later g are.2 (at_number ex (n + suc (length later)) (suc n + length later) g.settlement.regret (omega arith) c) is,
  )

  earned_more : (bounds : List Bounds) (past : List Going) (g : Going) → EarnGoings EarnsStep ex bounds past → EarnsGoing EarnsStep ex (bounds_after_rounds ex bounds past) g → EarnGoings EarnsStep ex bounds (past ++ g ∷ [])
  earned_more bounds [] g are is = (is, tt)
  earned_more bounds (first ∷ later) g are is = (are.0, earned_more (bounds_after_round ex bounds first) later g are.1 is)

-- the records of one more settlement
pub goings_more : (v : Version) (goods n : ℕ) (past : List Going) (g : Going) → goings_in v goods n (past ++ g ∷ []) ≡ goings_in v goods n past ++ going_in v goods (n + length past) g
goings_more v goods n [] g = append-nil (going_in v goods n g) ∙ ap (λ (k : ℕ). going_in v goods k g) (omega arith)
goings_more v goods n (first ∷ later) g =
    ap (λ (rs : List Record). going_in v goods n first ++ rs) (goings_more v goods (suc n) later g ∙ ap (λ (k : ℕ). goings_in v goods (suc n) later ++ going_in v goods k g) (omega arith))
    ∙ sym (append_assoc (going_in v goods n first) (goings_in v goods (suc n) later) (going_in v goods (n + suc (length later)) g))

branches_more : (past : List Going) (g : Going) → going_branches (past ++ g ∷ []) ≡ going_branches past + (settlement_branches g.settlement + branch_count g.provisional.log)
branches_more [] g = omega arith
branches_more (first ∷ later) g = omega (arith, branches_more later g)

-- the bounds after the round are those that its submissions leave
next_is : (going : List Going) (s : SessionAt) (last : Going) (r : RoundAt) → IsInRound going s last r → r.round.next ≡ bounds_after_round s.exchange s.bounds last
next_is going s last r in_round =
    in_round.after.next
    ∙ ap (λ (b : List Bounds). next_bounds (standings s.exchange b r.round.sets) last.judged) in_round.bounds
    ∙ ap (λ a. next_bounds (standings s.exchange s.bounds a) last.judged) in_round.sets

-- the session behind the round, in the words of the session before it
abbrev behind : SessionAt → Going → RoundAt → SessionAt
behind s last r = record { exchange = s.exchange; bounds = bounds_after_round s.exchange s.bounds last; number = suc s.number; branches = r.branches }

runs_behind : (going : List Going) (s : SessionAt) (last : Going) (r : RoundAt) → IsInRound going s last r → IsRunning (going ++ last ∷ []) (behind s last r)
runs_behind going s last r in_round =
    let run = in_round.running in
    let ex : Exchange = s.exchange in
    let here : closes ex.settings (0 + length going) last.settlement.regret ≡ false = at_number ex s.number (0 + length going) last.settlement.regret (omega (arith, run.number)) in_round.goes_on in
    let past : IsPast ex s.number s.bounds going = record { count = run.number; going = run.right; after = run.bounds; lawful = run.lawful } in
    let next : IsPast ex (suc s.number) (bounds_after_round ex s.bounds last) (going ++ last ∷ []) = past_more ex s.number s.bounds going last past in_round.goes_on in_round.right in
    record {
      exchange = run.exchange;
      shown = shown_more ex 0 (opening_bounds ex) going last run.shown here (subst (λ (b : List Bounds). IsShownGoing ex b last) (sym run.bounds) in_round.shown);
      earned = earned_more ex (opening_bounds ex) going last run.earned (subst (λ (b : List Bounds). EarnsGoing EarnsStep ex b last) (sym run.bounds) in_round.earned);
      right = next.going;
      records = subst (AllByRecursion IsRecord) (sym (goings_more version_2 (length (exact_of ex)) 0 going last))
          (all-append IsRecord (goings_in version_2 (length (exact_of ex)) 0 going) (going_in version_2 (length (exact_of ex)) (0 + length going) last) run.records
          (subst (λ (k : ℕ). AllByRecursion IsRecord (going_in version_2 (length (exact_of ex)) k last)) (omega (arith, run.number)) in_round.records));
      bounds = next.after;
      lawful = next.lawful;
      number = next.count;
      few = more_rounds ex.settings s.number last.settlement.regret in_round.goes_on run.few;
      branches = omega (arith, run.branches, in_round.branches, branches_more going last);
    }

pub round_ends : (going : List Going) (s : SessionAt) (last : Going) (r : RoundAt) → IsInRound going s last r → IsRunning (going ++ last ∷ []) (session_after r)
round_ends going s last r in_round = subst (IsRunning (going ++ last ∷ [])) (sym same) (runs_behind going s last r in_round)
  where
    same : session_after r ≡ behind s last r
    same =
        ap (λ (x : Exchange). record { exchange = x; bounds = r.round.next; number = suc r.number; branches = r.branches }) in_round.exchange
        ∙ ap (λ (b : List Bounds). record { exchange = s.exchange; bounds = b; number = suc r.number; branches = r.branches }) (next_is going s last r in_round)
        ∙ ap (λ (k : ℕ). record { exchange = s.exchange; bounds = bounds_after_round s.exchange s.bounds last; number = suc k; branches = r.branches }) in_round.number
