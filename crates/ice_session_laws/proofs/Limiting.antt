-- A settlement that stops at a limit of its pricing: the journal.
use Rattle.std.proofs.Common.{◌≡◌, ℕ, false, List, [], ◌∷◌, ◌++◌, length, map, arith, refl, sym, subst, ◌∙◌, ap, append_assoc, Option}
use Rattle.std.specs.List.{AllByRecursion}
use Rattle.std.proofs.lemmas.List.{append-nil, length-map}
use Rattle.ice_defs.specs.Set.{Weights}
use Rattle.ice_defs.specs.Bounds.{Bounds}
use Rattle.ice_defs.specs.Weighing.{weighted_weights}
use Rattle.ice_defs.specs.Sweep.{EarnsStep}
use Rattle.ice_defs.specs.PricingRun.{Member, EndsAtLimit}
use Rattle.ice_defs.specs.declared.Group.TheVariants.{Provisional}
use Rattle.ice_defs.specs.Group.{empty_sets}
use Rattle.ice_defs.specs.Exchange.{Good, Exchange, trees_of, exact_of, opening_bounds}
use Rattle.ice_defs.specs.Lawful.{IsExchange}
use Rattle.ice_defs.specs.Session.{Going, Proved, Settlement, closes}
use Rattle.ice_headline_laws.specs.Right.{bounds_after_rounds}
use Rattle.ice_defs.proofs.Lists.{all-append}
use Rattle.ice_defs.specs.Conditions.{AreBoundsOf, AreWeightsOf}
use Rattle.ice_bound.proofs.Modest.{weighted_modest}
use Rattle.ice_search.specs.Results.{proved_found}
use Rattle.ice_search.specs.declared.results.Found.{Found}
use Rattle.ice_regret.specs.declared.lead.Regret.{Regret}
use Rattle.ice_defs.specs.PricingLimit.{stage_of, limit_of}
use Rattle.ice_price.specs.Ends.{stage_at}
use Rattle.ice_price.specs.declared.ends.PriceLimit.{PriceLimit}
use Rattle.ice_vickrey.specs.declared.marginal.Marginal.{Marginal}
use Rattle.ice_journal.specs.Records.{Record, Version, version_1, version_2, session_kind, limit_end}
use Rattle.ice_journal.specs.Records as line
use Rattle.ice_journal.specs.Ranges.{IsRecord}
use Rattle.ice_journal.specs.Plain.{plain}
use Rattle.ice_section.specs.Described.{section_records}
use Rattle.ice_section.proofs.Describing.{described_are_taken}
use Rattle.ice_journal_laws.specs.State.{at_prices, State, begun, trees_at, goods_at, settings_at, weights_at}
use Rattle.ice_journal_laws.specs.Next.{to_line, go_to}
use Rattle.ice_journal_laws.specs.Tests.{BidderSet}
use Rattle.ice_journal_laws.specs.Showing.{group_records, IsShown, IsShownSettlement}
use Rattle.ice_journal_laws.specs.ShowingSession.{goings_in}
use Rattle.ice_journal_laws.specs.StepsTaken.{Earns}
use Rattle.ice_journal_laws.specs.Earning.{IsEarnedTaken, EarnsLog, EarnsSettlement}
use Rattle.ice_journal_laws.specs.Positions.{before_provisional, position_records, IsShownPosition}
use Rattle.ice_journal_laws.specs.SoFar.{IsSoFar}
use Rattle.ice_journal_laws.proofs.CarriedPosition.{state_at, Awaits, session_awaits}
use Rattle.ice_journal_laws.proofs.CarriedLimited.{prices_await, session_limit_so_far}
use Rattle.ice_journal_laws.proofs.CarriedReached.{IsReached, earns_reached, unpacks_limit}
use Rattle.ice_journal_laws.proofs.CarriedRegret.{some_trees, group_plain}
use Rattle.ice_journal_laws.proofs.CarriedSpentSession.{unpacks_goings, unpacks_position}
use Rattle.ice_journal_laws.proofs.CarriedStops as stop
use Rattle.ice_journal_laws.proofs.CarriedVersions.{Unpacks, unpacks_join, unpacks_group, plain_record, whole_says}
use Rattle.ice_round.specs.SessionAt.{SessionAt}
use Rattle.ice_settled.specs.Shown.{settlement_of}
use Rattle.ice_round.specs.Ends.{IsLimitAt, at_pricing}
use Rattle.ice_write_session.specs.Records.{member_record, limit_records}
use Rattle.ice_write_session.specs.Writable.{IsWritableLimit}
use Rattle.ice_session_laws.specs.Running.{IsRunning}
use Rattle.ice_session_laws.specs.Stops.{IsLimited}
use Rattle.ice_session_laws.specs.Written.{run_records, IsLimitedJournal}
use Rattle.ice_session_laws.specs.Laws.{PricesSought}
use Rattle.ice_session_laws.proofs.Worth.{worth_is_total}
use Rattle.ice_session_laws.proofs.Found.{found_shown, found_worth, found_writable}
use Rattle.ice_session_laws.proofs.Settling.{settlement_shown, settlement_earned, final_may_be_written, regret_may_be_written}
use Rattle.ice_session_laws.proofs.Violations.{provisional_is}
use Rattle.ice_session_laws.proofs.Limits.{limit_may_be_written}
use Rattle.ice_session_laws.proofs.Sessions.{run_are}
use Rattle.ice_session_laws.proofs.Spending.{MayBeWritten}

-- the settlement and the provisional sets are shown and earned, and the pricing of these sets ended
-- at the limit
pub record LimitsAt (s : SessionAt) (x : Settlement) (p : Proved) (limit : PriceLimit) : Type 0 where
  pub goes_on : closes s.exchange.settings s.number x.regret ≡ false
  pub settlement : IsShownSettlement s.exchange s.bounds x
  pub settlement_earned : EarnsSettlement EarnsStep s.exchange s.bounds x
  pub provisional : IsShown (trees_of s.exchange) (exact_of s.exchange) (weighted_weights s.exchange.settings.weight s.bounds) Provisional p
  pub provisional_earned : EarnsLog EarnsStep (trees_of s.exchange) (exact_of s.exchange) (weighted_weights s.exchange.settings.weight s.bounds) Provisional (empty_sets (trees_of s.exchange)) p.log
  pub limit_is : EndsAtLimit (trees_of s.exchange) (weighted_weights s.exchange.settings.weight s.bounds) p.sets (length (exact_of s.exchange)) s.exchange.settings.cap (limit_of limit.kind) (stage_at limit) limit.pool.items
  pub may_be_written : IsWritableLimit limit

pub record Limited (s : SessionAt) (best : Option Found) (regret : Option Regret) (provisional : Option Found) (ms : List Marginal) (limit : PriceLimit) : Type 0 where
  pub sought : PricesSought best regret provisional ms
  pub limits : LimitsAt s (settlement_of sought.final sought.amount) (proved_found sought.offered) limit
  pub found : MayBeWritten (length (exact_of s.exchange)) best regret provisional ms

module _ (s : SessionAt) (lawful : IsExchange s.exchange) (are : AreBoundsOf (trees_of s.exchange) s.bounds) where
  pub limited : (best : Option Found) (regret : Option Regret) (provisional : Option Found) (ms : List Marginal) (limit : PriceLimit) → IsLimitAt s best regret provisional ms limit → Limited s best regret provisional ms limit
  limited _ _ _ _ _ (at_pricing {best = best} {regret = regret} {provisional = provisional} {limit = limit} left goes_on settlement found count ends) =
      let ws : List Weights = weighted_weights s.exchange.settings.weight s.bounds in
      let weights : AreWeightsOf (trees_of s.exchange) ws = weighted_modest s.exchange.settings.weight (trees_of s.exchange) s.bounds lawful.settings.weight are in
      record {
        sought = record { final = best; amount = regret; offered = provisional; best_is = refl; regret_is = refl; provisional_is = refl; none = refl };
        limits = record {
          goes_on = goes_on;
          settlement = settlement_shown s lawful are best regret settlement;
          settlement_earned = settlement_earned s lawful are best regret settlement;
          provisional = found_shown s.exchange lawful ws weights (empty_sets (trees_of s.exchange)) Provisional (proved_found provisional) found.found found.written tt;
          provisional_earned = found.found.earned;
          limit_is = subst (λ (n : ℕ). EndsAtLimit (trees_of s.exchange) ws provisional.best n s.exchange.settings.cap (limit_of limit.kind) (stage_at limit) limit.pool.items) (sym (length-map s.exchange.goods (λ (g : Good). g.exact))) ends;
          may_be_written = limit_may_be_written _ (provisional_is s.exchange s.bounds provisional.best lawful are found.found.attained.feasible) s.exchange lawful refl limit ends;
        };
        found = record {
          final = final_may_be_written s lawful are best regret settlement;
          regret_is = regret_may_be_written s lawful are best regret settlement;
          withouts = record { few = omega arith; each = tt };
          provisional_is = record {
            value = worth_is_total provisional.value (found_worth s.exchange lawful ws weights (empty_sets (trees_of s.exchange)) Provisional (proved_found provisional) found.found found.written);
            group = found_writable s.exchange lawful ws weights (empty_sets (trees_of s.exchange)) Provisional (proved_found provisional) found.found found.written;
          };
        };
      }

-- ---- the journal

set_of_member : Member → BidderSet
set_of_member m = record { bidder = m.bidder; set = m.set }

pool_same : (pool : List Member) → map stop.pool_record (map set_of_member pool) ≡ map member_record pool
unfolding set_of_member
pool_same [] = refl
pool_same (m ∷ pool) = ap (λ (rs : List Record). member_record m ∷ rs) (pool_same pool)

module _ (going : List Going) (s : SessionAt) (run : IsRunning going s) (x : Settlement) (p : Proved) (limit : PriceLimit) (limits : LimitsAt s x p limit) where
  abbrev goods : ℕ
  goods = length (exact_of s.exchange)

  abbrev after : List Bounds
  after = bounds_after_rounds s.exchange (opening_bounds s.exchange) going

  abbrev front : Version → List Record
  front v = section_records s.exchange ++ goings_in v (length (exact_of s.exchange)) 0 going ++ position_records v (length (exact_of s.exchange)) (length going) (before_provisional x)

  abbrev group : Version → List Record
  group v = group_records v (length (exact_of s.exchange)) (line.provisional p.value) p

  abbrev behind : List Record
  behind = limit_records limit

  shown : IsShownPosition s.exchange (length going) (bounds_after_rounds s.exchange (opening_bounds s.exchange) going) (before_provisional x)
  shown = (
    subst (λ (k : ℕ). closes s.exchange.settings k x.regret ≡ false) (sym run.number) limits.goes_on,
    subst (λ (b : List Bounds). IsShownSettlement s.exchange b x) (sym run.bounds) limits.settlement,
  )

  earned : EarnsSettlement EarnsStep s.exchange (bounds_after_rounds s.exchange (opening_bounds s.exchange) going) x
  earned = subst (λ (b : List Bounds). EarnsSettlement EarnsStep s.exchange b x) (sym run.bounds) limits.settlement_earned

  awaits : (v : Version) → Awaits EarnsStep (section_records s.exchange ++ goings_in v (length (exact_of s.exchange)) 0 going ++ position_records v (length (exact_of s.exchange)) (length going) (before_provisional x)) v s.exchange
      (bounds_after_rounds s.exchange (opening_bounds s.exchange) going) (before_provisional x)
  awaits v = session_awaits EarnsStep described_are_taken v s.exchange run.exchange going run.shown run.earned (before_provisional x) shown earned

  abbrev At : Version → State
  At v = record (state_at (before_provisional x) (awaits v).state) { offered = p.sets }

  prices_come : (v : Version) → Earns (IsEarnedTaken EarnsStep) (begun v session_kind) (front v ++ group v) (go_to at_prices (record (state_at (before_provisional x) (awaits v).state) { offered = p.sets }))
  prices_come v =
      prices_await EarnsStep (front v) v s.exchange after x (awaits v) (some_trees s.exchange run.exchange) p
      (subst (λ (b : List Bounds). IsShown (trees_of s.exchange) (exact_of s.exchange) (weighted_weights s.exchange.settings.weight b) Provisional p) (sym run.bounds) limits.provisional)
      (subst (λ (b : List Bounds). EarnsLog EarnsStep (trees_of s.exchange) (exact_of s.exchange) (weighted_weights s.exchange.settings.weight b) Provisional (empty_sets (trees_of s.exchange)) p.log) (sym run.bounds) limits.provisional_earned)

  -- ---- so far

  rest_same : stop.limit_rest (map set_of_member limit.pool.items) ≡ map member_record limit.pool.items ++ line.end limit_end ∷ []
  rest_same = ap (λ (rs : List Record). rs ++ line.end limit_end ∷ []) (pool_same limit.pool.items)

  abbrev journal : List Record
  journal = line.head version_2 session_kind ∷ ((front version_2 ++ group version_2) ++ limit_records limit)

  limit_so_far : AllByRecursion IsRecord (line.head version_2 session_kind ∷ ((front version_2 ++ group version_2) ++ limit_records limit)) → IsSoFar session_kind (line.head version_2 session_kind ∷ ((front version_2 ++ group version_2) ++ limit_records limit))
  limit_so_far records =
      subst (λ (rs : List Record). IsSoFar session_kind (line.head version_2 session_kind ∷ ((front version_2 ++ group version_2) ++ line.limit (stage_of limit.stage) (limit_of limit.kind) limit.delta limit.den ∷ rs))) rest_same
      (session_limit_so_far EarnsStep (front version_2 ++ group version_2) (At version_2) (prices_come version_2) (stage_of limit.stage) (limit_of limit.kind) limit.delta limit.den (map set_of_member limit.pool.items)
      (stop.limit_rest (map set_of_member limit.pool.items)) [] (append-nil (stop.limit_rest (map set_of_member limit.pool.items)))
      (subst (λ (rs : List Record). AllByRecursion IsRecord (line.head version_2 session_kind ∷ ((front version_2 ++ group version_2) ++ line.limit (stage_of limit.stage) (limit_of limit.kind) limit.delta limit.den ∷ rs))) (sym rest_same) records))

  -- ---- in version 1

  abbrev tail : Version → List Record
  tail v = (goings_in v (length (exact_of s.exchange)) 0 going ++ position_records v (length (exact_of s.exchange)) (length going) (before_provisional x)) ++ group v

  unpacks_provisional : Unpacks (length (exact_of s.exchange)) (group version_2) (group version_1)
  unpacks_provisional =
      subst (Unpacks goods (group version_2)) (sym (group_plain goods (line.provisional p.value) p))
      (unpacks_group goods (line.provisional p.value) p (plain_record goods (line.provisional p.value) (λ m rest. refl) (λ rest. refl)) limits.provisional.counts)

  unpacks_tail : Unpacks (length (exact_of s.exchange)) (tail version_2 ++ limit_records limit) (tail version_1 ++ limit_records limit)
  unpacks_tail =
      unpacks_join goods (tail version_2) (tail version_1) (limit_records limit) (limit_records limit)
      (unpacks_join goods (goings_in version_2 goods 0 going ++ position_records version_2 goods (length going) (before_provisional x)) (goings_in version_1 goods 0 going ++ position_records version_1 goods (length going) (before_provisional x)) (group version_2) (group version_1)
      (unpacks_join goods (goings_in version_2 goods 0 going) (goings_in version_1 goods 0 going) (position_records version_2 goods (length going) (before_provisional x)) (position_records version_1 goods (length going) (before_provisional x))
      (unpacks_goings s.exchange (opening_bounds s.exchange) 0 going run.shown) (unpacks_position s.exchange (length going) after (before_provisional x) shown))
      unpacks_provisional)
      (subst (λ (rs : List Record). Unpacks goods (line.limit (stage_of limit.stage) (limit_of limit.kind) limit.delta limit.den ∷ rs) (line.limit (stage_of limit.stage) (limit_of limit.kind) limit.delta limit.den ∷ rs)) rest_same
      (unpacks_limit s.exchange (stage_of limit.stage) (limit_of limit.kind) limit.delta limit.den (map set_of_member limit.pool.items)))

  grouped : (v : Version) → section_records s.exchange ++ (tail v ++ limit_records limit) ≡ (front v ++ group v) ++ limit_records limit
  grouped v =
      sym (append_assoc (section_records s.exchange) (tail v) (limit_records limit))
      ∙ ap (λ (rs : List Record). rs ++ limit_records limit)
      (sym (append_assoc (section_records s.exchange) (goings_in v goods 0 going ++ position_records v goods (length going) (before_provisional x)) (group v))
      ∙ ap (λ (rs : List Record). rs ++ group v) (sym (append_assoc (section_records s.exchange) (goings_in v goods 0 going) (position_records v goods (length going) (before_provisional x)))))

  said : plain (line.head version_2 session_kind ∷ ((front version_2 ++ group version_2) ++ limit_records limit)) ≡ line.head version_1 session_kind ∷ ((front version_1 ++ group version_1) ++ limit_records limit)
  said =
      ap (λ (rs : List Record). plain (line.head version_2 session_kind ∷ rs)) (sym (grouped version_2))
      ∙ whole_says session_kind s.exchange (tail version_2 ++ limit_records limit) (tail version_1 ++ limit_records limit) unpacks_tail
      ∙ ap (λ (rs : List Record). line.head version_1 session_kind ∷ rs) (grouped version_1)

  -- ---- the limit at the state in which prices are awaited

  limit_at : EndsAtLimit (trees_at (At version_1)) (weights_at (At version_1) Provisional) p.sets (goods_at (At version_1)) (settings_at (At version_1)).cap (limit_of limit.kind) (stage_at limit) limit.pool.items
  limit_at =
      subst (λ (y : Exchange). EndsAtLimit (trees_of y) (weighted_weights y.settings.weight (awaits version_1).state.bounds) p.sets (length (exact_of y)) y.settings.cap (limit_of limit.kind) (stage_at limit) limit.pool.items) (sym (awaits version_1).exchange)
      (subst (λ (b : List Bounds). EndsAtLimit (trees_of s.exchange) (weighted_weights s.exchange.settings.weight b) p.sets (length (exact_of s.exchange)) s.exchange.settings.cap (limit_of limit.kind) (stage_at limit) limit.pool.items) (sym ((awaits version_1).bounds_are ∙ run.bounds))
      limits.limit_is)

  is_limited : IsLimited (line.head version_2 session_kind ∷ ((front version_2 ++ group version_2) ++ limit_records limit))
  is_limited =
      let reached : IsReached EarnsStep version_1 session_kind (front version_1 ++ group version_1) (go_to at_prices (At version_1)) = earns_reached EarnsStep version_1 session_kind (front version_1 ++ group version_1) (go_to at_prices (At version_1)) (prices_come version_1) in
      record {
        before = front version_1 ++ group version_1;
        at = stage_at limit;
        kind = limit_of limit.kind;
        pool = limit.pool.items;
        says = said ∙ regroup;
        now = to_line reached.line (go_to at_prices (At version_1));
        reached = reached.reached;
        awaited = refl;
        limit = limit_at;
      }
    where
      regroup : line.head version_1 session_kind ∷ ((front version_1 ++ group version_1) ++ limit_records limit)
          ≡ line.head version_1 session_kind ∷ (front version_1 ++ group version_1) ++ line.limit (stage_of limit.stage) (limit_of limit.kind) limit.delta limit.den ∷ map member_record limit.pool.items ++ line.end limit_end ∷ []
      regroup = ap (λ (rs : List Record). line.head version_1 session_kind ∷ rs)
          (sym (append_assoc (front version_1 ++ group version_1) (line.limit (stage_of limit.stage) (limit_of limit.kind) limit.delta limit.den ∷ map member_record limit.pool.items) (line.end limit_end ∷ [])))

  abbrev sought : ℕ → List Record
  sought k = position_records version_2 (length (exact_of s.exchange)) k (before_provisional x) ++ group version_2

  flat : (k : ℕ) → run_records s.exchange going ++ (position_records version_2 (length (exact_of s.exchange)) k (before_provisional x) ++ group version_2) ++ limit_records limit
      ≡ run_records s.exchange going ++ position_records version_2 (length (exact_of s.exchange)) k (before_provisional x) ++ group version_2 ++ limit_records limit
  flat k = ap (λ (rs : List Record). rs ++ limit_records limit) (sym (append_assoc (run_records s.exchange going) (position_records version_2 (length (exact_of s.exchange)) k (before_provisional x)) (group version_2)))

  here : (P : List Record → Type 0) → P (run_records s.exchange going ++ sought s.number ++ limit_records limit) → P (run_records s.exchange going ++ position_records version_2 (length (exact_of s.exchange)) (length going) (before_provisional x) ++ group version_2 ++ limit_records limit)
  here P h = subst P (flat (length going)) (subst (λ (k : ℕ). P (run_records s.exchange going ++ sought k ++ limit_records limit)) (sym run.number) h)

  there : (P : List Record → Type 0) → P (run_records s.exchange going ++ position_records version_2 (length (exact_of s.exchange)) (length going) (before_provisional x) ++ group version_2 ++ limit_records limit) → P (run_records s.exchange going ++ sought s.number ++ limit_records limit)
  there P h = subst (λ (k : ℕ). P (run_records s.exchange going ++ sought k ++ limit_records limit)) run.number (subst P (sym (flat (length going))) h)

  pub run_limits : AllByRecursion IsRecord (position_records version_2 (length (exact_of s.exchange)) s.number (before_provisional x) ++ group_records version_2 (length (exact_of s.exchange)) (line.provisional p.value) p)
      → AllByRecursion IsRecord (limit_records limit)
      → IsLimitedJournal (run_records s.exchange going ++ (position_records version_2 (length (exact_of s.exchange)) s.number (before_provisional x) ++ group_records version_2 (length (exact_of s.exchange)) (line.provisional p.value) p) ++ limit_records limit)
  run_limits before end =
      let all = all-append IsRecord (run_records s.exchange going ++ sought s.number) (limit_records limit) (all-append IsRecord (run_records s.exchange going) (sought s.number) (run_are going s run) before) end in
      there IsLimitedJournal (record { so_far = limit_so_far (here (AllByRecursion IsRecord) all); limited = is_limited })
