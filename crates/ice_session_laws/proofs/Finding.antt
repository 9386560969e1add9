-- A settlement that has found its final sets and regret: what it found may be written, and the
-- journal so far is unended.
use Rattle.std.proofs.Common.{◌≡◌, ◌<◌, ◌+◌, ℕ, suc, Bool, true, false, List, [], ◌∷◌, ◌++◌, length, map, arith, refl, sym, subst, ◌∙◌, ap, append_assoc, ◌⊎◌, inl, inr}
use Rattle.std.specs.List.{AllByRecursion}
use Rattle.std.proofs.lemmas.Bool.{cases_eq}
use Rattle.std.proofs.lemmas.List.{append-nil, length-map}
use Rattle.ice_defs.specs.Set.{Weights}
use Rattle.ice_defs.specs.Bounds.{Bounds}
use Rattle.ice_defs.specs.Weighing.{lower_weights, weighted_weights}
use Rattle.ice_defs.specs.Sweep.{EarnsStep}
use Rattle.ice_defs.specs.declared.Group.TheVariants.{Final, Provisional, Without}
use Rattle.ice_defs.specs.Group.{empty_sets}
use Rattle.ice_defs.specs.Exchange.{Exchange, trees_of, exact_of, opening_bounds}
use Rattle.ice_defs.specs.Session.{Going, Proved, Settlement, closes}
use Rattle.ice_headline_laws.specs.Right.{bounds_after_rounds}
use Rattle.ice_defs.proofs.Lists.{all-append}
use Rattle.ice_defs.specs.Conditions.{AreWeightsOf}
use Rattle.ice_bound.proofs.Modest.{weighted_modest}
use Rattle.ice_search.specs.Results.{proved_found}
use Rattle.ice_vickrey.specs.Marginals.{proved_without}
use Rattle.ice_vickrey.specs.declared.marginal.Marginal.{Marginal}
use Rattle.ice_journal.specs.Records.{Record, Version, version_2, session_kind}
use Rattle.ice_journal.specs.Records as line
use Rattle.ice_journal.specs.Ranges.{IsRecord}
use Rattle.ice_section.specs.Described.{section_records}
use Rattle.ice_section.proofs.Describing.{described_are_taken}
use Rattle.ice_journal_laws.specs.State.{at_group, at_prices, at_threshold, State, begun, exchange_at, goods_at}
use Rattle.ice_journal_laws.specs.Next.{go_to}
use Rattle.ice_journal_laws.specs.Carrying.{Carries}
use Rattle.ice_journal_laws.specs.Showing.{group_records, regret_group_records, IsShown, IsShownSettlement}
use Rattle.ice_journal_laws.specs.ShowingSession.{goings_in, without_group_records, AreShownWithout}
use Rattle.ice_journal_laws.specs.Earning.{EarnsLog, EarnsSettlement}
use Rattle.ice_journal_laws.specs.Positions.{Position, before_provisional, before_without, group_at, position_records, IsShownPosition, EarnsPosition}
use Rattle.ice_journal_laws.proofs.Carried.{TakesTo, carries_join}
use Rattle.ice_journal_laws.proofs.CarriedSettlement.{with_settlement}
use Rattle.ice_journal_laws.proofs.CarriedGoing.{settling}
use Rattle.ice_journal_laws.proofs.CarriedClosing.{withouts_carry}
use Rattle.ice_journal_laws.proofs.CarriedEarnedGoing.{regret_earns}
use Rattle.ice_journal_laws.proofs.CarriedPosition.{state_at, Awaits, session_awaits}
use Rattle.ice_journal_laws.proofs.CarriedLimited.{prices_await}
use Rattle.ice_journal_laws.proofs.CarriedRegret.{some_trees}
use Rattle.ice_round.specs.SessionAt.{SessionAt}
use Rattle.ice_settled.specs.Shown.{settlement_of}
use Rattle.ice_round.specs.Settling.{SettlingAt, IsSettling, IsOfferOf}
use Rattle.ice_round.specs.declared.offer.Offer.{Offer}
use Rattle.ice_write_session.proofs.Lawful.{settling_are_records, offered_are_records}
use Rattle.ice_session_laws.specs.Running.{IsRunning}
use Rattle.ice_session_laws.specs.Written.{run_records, IsUnended}
use Rattle.ice_session_laws.specs.FoundLaws.{settling_records, offered_records, IsWritableSettling, SettlingMayBeWritten, OfferMayBeWritten, SettlingIsUnended, OfferIsUnended}
use Rattle.ice_session_laws.proofs.Worth.{worth_is_total}
use Rattle.ice_session_laws.proofs.Found.{found_shown, found_worth, found_writable}
use Rattle.ice_session_laws.proofs.Settling.{settlement_shown, settlement_earned, settlement_may_be_written}
use Rattle.ice_session_laws.proofs.Closings.{withouts_shown, withouts_may_be_written}
use Rattle.ice_session_laws.proofs.Rounds.{few_settlements}
use Rattle.ice_session_laws.proofs.Sessions.{run_are, run_comes}
use Rattle.ice_session_laws.proofs.Spending.{withouts_earned}
use Rattle.ice_session_laws.proofs.Between.{unended}

-- ---- what was found may be written

pub settling_may_be_written : SettlingMayBeWritten
settling_may_be_written going x run is =
    let s = x.session in
    record {
      number = few_settlements going s run;
      settlement = settlement_may_be_written s run.exchange run.lawful x.best x.regret is.settlement;
      withouts = withouts_may_be_written s run.exchange run.lawful x.best.value x.done is.few is.each;
    }

weighted_are : (going : List Going) (s : SessionAt) → IsRunning going s → AreWeightsOf (trees_of s.exchange) (weighted_weights s.exchange.settings.weight s.bounds)
weighted_are going s run = weighted_modest s.exchange.settings.weight (trees_of s.exchange) s.bounds run.exchange.settings.weight run.lawful

pub offer_may_be_written : OfferMayBeWritten
offer_may_be_written going x o run is =
    let s = x.session in
    let ws : List Weights = weighted_weights s.exchange.settings.weight s.bounds in
    let weights = weighted_are going s run in
    record {
      value = worth_is_total o.provisional.value (found_worth s.exchange run.exchange ws weights (empty_sets (trees_of s.exchange)) Provisional (proved_found o.provisional) is.found.found is.found.written);
      group = found_writable s.exchange run.exchange ws weights (empty_sets (trees_of s.exchange)) Provisional (proved_found o.provisional) is.found.found is.found.written;
    }

-- ---- the journal, as far as a search comes next

module _ (going : List Going) (s : SessionAt) (run : IsRunning going s) where
  abbrev goods : ℕ
  goods = length (exact_of s.exchange)

  abbrev goings : List Record
  goings = goings_in version_2 (length (exact_of s.exchange)) 0 going

  abbrev after : List Bounds
  after = bounds_after_rounds s.exchange (opening_bounds s.exchange) going

  abbrev position : ℕ → Position → List Record
  position k at = position_records version_2 (length (exact_of s.exchange)) k at

  number_is : (at : Position) → position_records version_2 (length (exact_of s.exchange)) s.number at ≡ position_records version_2 (length (exact_of s.exchange)) (length going) at
  number_is at = ap (λ (k : ℕ). position_records version_2 (length (exact_of s.exchange)) k at) (sym run.number)

  module _ (at : Position) (is : IsShownPosition s.exchange s.number s.bounds at) (earned : EarnsPosition EarnsStep s.exchange s.bounds at) where
    awaits : Awaits EarnsStep (section_records s.exchange ++ goings_in version_2 (length (exact_of s.exchange)) 0 going ++ position_records version_2 (length (exact_of s.exchange)) (length going) at) version_2 s.exchange
        (bounds_after_rounds s.exchange (opening_bounds s.exchange) going) at
    awaits =
        session_awaits EarnsStep described_are_taken version_2 s.exchange run.exchange going run.shown run.earned at
        (subst (λ (b : List Bounds). IsShownPosition s.exchange (length going) b at) (sym run.bounds) (subst (λ (k : ℕ). IsShownPosition s.exchange k s.bounds at) (sym run.number) is))
        (subst (λ (b : List Bounds). EarnsPosition EarnsStep s.exchange b at) (sym run.bounds) earned)

    position_unended : AllByRecursion IsRecord (position_records version_2 (length (exact_of s.exchange)) s.number at) → IsUnended (run_records s.exchange going ++ position_records version_2 (length (exact_of s.exchange)) s.number at)
    position_unended records =
        subst (λ (rs : List Record). IsUnended (run_records s.exchange going ++ rs)) (sym (number_is at))
        (unended (section_records s.exchange ++ goings ++ position (length going) at) (go_to (at_group (group_at at)) (state_at at awaits.state)) awaits.earns.carries
        (all-append IsRecord (run_records s.exchange going) (position (length going) at) (run_are going s run) (subst (AllByRecursion IsRecord) (number_is at) records)) tt)

  -- ---- as far as the payments

  module _ (x : Settlement) (p : Proved) (later : List Proved) (closing : closes s.exchange.settings s.number x.regret ≡ true) (is : IsShownSettlement s.exchange s.bounds x) (earned : EarnsSettlement EarnsStep s.exchange s.bounds x)
      (count : suc (length later) ≡ length (trees_of s.exchange)) (withouts : AreShownWithout (trees_of s.exchange) (exact_of s.exchange) (lower_weights s.bounds) 0 (p ∷ later)) where
    abbrev at : Position
    at = before_without x (p ∷ later)

    -- in the words of the state that the settlement comes at
    settled_carry : (t start : State) → TakesTo start (line.settle t.number) (go_to (at_group Final) (settling t)) → exchange_at t ≡ s.exchange → t.number ≡ s.number → t.bounds ≡ s.bounds
        → Carries start (position_records t.version (goods_at t) t.number (before_without x (p ∷ later)))
        (go_to at_threshold (record (with_settlement x (settling t)) { withouts = (with_settlement x (settling t)).withouts ++ map (λ p. p.value) (p ∷ later) }))
    settled_carry t start settles exchange number bounds =
        carries_join start (go_to (at_group (Without 0)) (with_settlement x (settling t))) (go_to at_threshold (record (with_settlement x (settling t)) { withouts = (with_settlement x (settling t)).withouts ++ map (λ (p : Proved). p.value) (p ∷ later) }))
        (line.settle t.number ∷ regret_group_records t.version (goods_at t) x) (without_group_records t.version (goods_at t) 0 (p ∷ later))
        (regret_earns EarnsStep t start x true
        (subst (λ (y : Exchange). closes y.settings t.number x.regret ≡ true) (sym exchange) (subst (λ (k : ℕ). closes s.exchange.settings k x.regret ≡ true) (sym number) closing)) settles
        (subst (λ (y : Exchange). 0 < length (trees_of y)) (sym exchange) (some_trees s.exchange run.exchange))
        (subst (λ (y : Exchange). IsShownSettlement y t.bounds x) (sym exchange) (subst (λ (b : List Bounds). IsShownSettlement s.exchange b x) (sym bounds) is))
        (subst (λ (y : Exchange). EarnsSettlement EarnsStep y t.bounds x) (sym exchange) (subst (λ (b : List Bounds). EarnsSettlement EarnsStep s.exchange b x) (sym bounds) earned))).carries
        (withouts_carry (with_settlement x (settling t)) 0 p later (subst (λ (y : Exchange). 0 + suc (length later) ≡ length (trees_of y)) (sym exchange) (omega (arith, count)))
        (subst (λ (y : Exchange). AreShownWithout (trees_of y) (exact_of y) (lower_weights t.bounds) 0 (p ∷ later)) (sym exchange)
        (subst (λ (b : List Bounds). AreShownWithout (trees_of s.exchange) (exact_of s.exchange) (lower_weights b) 0 (p ∷ later)) (sym bounds) withouts)))

    all_unended : AllByRecursion IsRecord (position_records version_2 (length (exact_of s.exchange)) s.number (before_without x (p ∷ later))) → IsUnended (run_records s.exchange going ++ position_records version_2 (length (exact_of s.exchange)) s.number (before_without x (p ∷ later)))
    all_unended records =
        let comes = run_comes going s run in
        let t : State = comes.state in
        let end : State = go_to at_threshold (record (with_settlement x (settling t)) { withouts = (with_settlement x (settling t)).withouts ++ map (λ (p : Proved). p.value) (p ∷ later) }) in
        let here : position_records t.version (goods_at t) t.number at ≡ position_records version_2 (length (exact_of s.exchange)) s.number at =
        ap (λ (w : Version). position_records w (goods_at t) t.number at) comes.version
        ∙ ap (λ (y : Exchange). position_records version_2 (length (exact_of y)) t.number at) comes.exchange
        ∙ ap (λ (k : ℕ). position_records version_2 (length (exact_of s.exchange)) k at) (comes.number_is ∙ run.number) in
        unended (section_records s.exchange ++ goings ++ position s.number at) end
        (carries_join (begun version_2 session_kind) comes.rest end (section_records s.exchange ++ goings) (position s.number at) comes.earns.carries
        (subst (λ (rs : List Record). Carries comes.rest rs end) here (settled_carry t comes.rest comes.settles comes.exchange (comes.number_is ∙ run.number) (comes.bounds_are ∙ run.bounds))))
        (all-append IsRecord (run_records s.exchange going) (position s.number at) (run_are going s run) records) tt

-- ---- what was found so far

module _ (going : List Going) (x : SettlingAt) (run : IsRunning going x.session) (is : IsSettling x) where
  abbrev here : SessionAt
  here = x.session

  abbrev made : Settlement
  made = settlement_of x.best x.regret

  shown : IsShownSettlement x.session.exchange x.session.bounds (settlement_of x.best x.regret)
  shown = settlement_shown here run.exchange run.lawful x.best x.regret is.settlement

  earned : EarnsSettlement EarnsStep x.session.exchange x.session.bounds (settlement_of x.best x.regret)
  earned = settlement_earned here run.exchange run.lawful x.best x.regret is.settlement

  may : IsWritableSettling x
  may = settling_may_be_written going x run is

  records : AllByRecursion IsRecord (settling_records x)
  records = settling_are_records here.exchange here.number x.best x.regret x.done may.number may.settlement may.withouts

  withouts : (ms : List Marginal) → x.done ≡ ms → AreShownWithout (trees_of x.session.exchange) (exact_of x.session.exchange) (lower_weights x.session.bounds) 0 (map proved_without ms)
  withouts ms same =
      subst (λ (xs : List Marginal). AreShownWithout (trees_of x.session.exchange) (exact_of x.session.exchange) (lower_weights x.session.bounds) 0 (map proved_without xs)) same
      (withouts_shown here run.exchange run.lawful x.best.value 0 x.done is.each)

  -- the session closes, and a bidder is next
  next_unended : closes x.session.exchange.settings x.session.number x.regret.amount ≡ true → length x.done < length (trees_of x.session.exchange) → IsUnended (run_records x.session.exchange going ++ settling_records x)
  next_unended closing next =
      position_unended going here run (before_without made (map proved_without x.done))
      (closing, shown, omega (arith, next, length-map x.done proved_without), withouts x.done refl)
      (earned, withouts_earned here run.exchange run.lawful x.best.value 0 x.done is.each) records

  -- or the payments are
  done_unended : closes x.session.exchange.settings x.session.number x.regret.amount ≡ true → (ms : List Marginal) → x.done ≡ ms → length ms ≡ length (trees_of x.session.exchange) → IsUnended (run_records x.session.exchange going ++ settling_records x)
  done_unended closing [] same all = absurd (omega (arith, all, some_trees here.exchange run.exchange))
  done_unended closing (m ∷ ms) same all =
      subst (λ (xs : List Marginal). IsUnended (run_records x.session.exchange going ++ position_records version_2 (length (exact_of x.session.exchange)) x.session.number (before_without (settlement_of x.best x.regret) (map proved_without xs)))) (sym same)
      (all_unended going here run made (proved_without m) (map proved_without ms) closing shown earned (omega (arith, all, length-map ms proved_without)) (withouts (m ∷ ms) same)
      (subst (λ (xs : List Marginal). AllByRecursion IsRecord (position_records version_2 (length (exact_of x.session.exchange)) x.session.number (before_without (settlement_of x.best x.regret) (map proved_without xs)))) same records))

  closing_unended : closes x.session.exchange.settings x.session.number x.regret.amount ≡ true → IsUnended (run_records x.session.exchange going ++ settling_records x)
  closing_unended closing = by (cases_eq (length x.done) (length (trees_of x.session.exchange)))
    where
      by : (length x.done ≡ length (trees_of x.session.exchange)) ⊎ (length x.done ≡ length (trees_of x.session.exchange) → ⊥) → IsUnended (run_records x.session.exchange going ++ settling_records x)
      by (inl all) = done_unended closing x.done refl all
      by (inr ne) = next_unended closing (omega (arith, ne, is.few))

  -- the session goes on
  before_offer : x.done ≡ [] → settling_records x ≡ position_records version_2 (length (exact_of x.session.exchange)) x.session.number (before_provisional (settlement_of x.best x.regret))
  before_offer none =
      ap (λ (xs : List Marginal). position_records version_2 (length (exact_of x.session.exchange)) x.session.number (before_without (settlement_of x.best x.regret) (map proved_without xs))) none
      ∙ append-nil (line.settle here.number ∷ regret_group_records version_2 (length (exact_of here.exchange)) made)

  going_unended : closes x.session.exchange.settings x.session.number x.regret.amount ≡ false → x.done ≡ [] → IsUnended (run_records x.session.exchange going ++ settling_records x)
  going_unended goes_on none =
      subst (λ (rs : List Record). IsUnended (run_records x.session.exchange going ++ rs)) (sym (before_offer none))
      (position_unended going here run (before_provisional made) (goes_on, shown) earned (subst (AllByRecursion IsRecord) (before_offer none) records))

  pub fresh_unended : x.done ≡ [] → IsUnended (run_records x.session.exchange going ++ settling_records x)
  fresh_unended none = by (closes here.exchange.settings here.number x.regret.amount) refl
    where
      by : (b : Bool) → closes x.session.exchange.settings x.session.number x.regret.amount ≡ b → IsUnended (run_records x.session.exchange going ++ settling_records x)
      by true e = closing_unended e
      by false e = going_unended e none

  -- ---- with the provisional sets

  module _ (o : Offer) (offer : IsOfferOf x o) (goes_on : closes x.session.exchange.settings x.session.number x.regret.amount ≡ false) where
    abbrev weights : List Weights
    weights = weighted_weights x.session.exchange.settings.weight x.session.bounds

    abbrev front : List Record
    front = section_records x.session.exchange ++ goings_in version_2 (length (exact_of x.session.exchange)) 0 going
        ++ position_records version_2 (length (exact_of x.session.exchange)) (length going) (before_provisional (settlement_of x.best x.regret))

    abbrev group : List Record
    group = group_records version_2 (length (exact_of x.session.exchange)) (line.provisional o.provisional.value) (proved_found o.provisional)

    provisional_shown : IsShown (trees_of x.session.exchange) (exact_of x.session.exchange) (weighted_weights x.session.exchange.settings.weight x.session.bounds) Provisional (proved_found o.provisional)
    provisional_shown = found_shown here.exchange run.exchange weights (weighted_are going here run) (empty_sets (trees_of here.exchange)) Provisional (proved_found o.provisional) offer.found.found offer.found.written tt

    awaits_offer : Awaits EarnsStep (section_records x.session.exchange ++ goings_in version_2 (length (exact_of x.session.exchange)) 0 going
        ++ position_records version_2 (length (exact_of x.session.exchange)) (length going) (before_provisional (settlement_of x.best x.regret))) version_2 x.session.exchange
        (bounds_after_rounds x.session.exchange (opening_bounds x.session.exchange) going) (before_provisional (settlement_of x.best x.regret))
    awaits_offer = awaits going here run (before_provisional made) (goes_on, shown) earned

    same_front : section_records x.session.exchange ++ goings_in version_2 (length (exact_of x.session.exchange)) 0 going
        ++ position_records version_2 (length (exact_of x.session.exchange)) (length going) (before_provisional (settlement_of x.best x.regret))
        ≡ section_records x.session.exchange ++ goings_in version_2 (length (exact_of x.session.exchange)) 0 going
        ++ position_records version_2 (length (exact_of x.session.exchange)) x.session.number (before_provisional (settlement_of x.best x.regret))
    same_front = ap (λ (k : ℕ). section_records here.exchange ++ goings_in version_2 (length (exact_of here.exchange)) 0 going ++ position_records version_2 (length (exact_of here.exchange)) k (before_provisional made)) run.number

    offered_are : AllByRecursion IsRecord (offered_records x o)
    offered_are = offered_are_records here.exchange here.number x.best x.regret o.provisional may.number may.settlement (offer_may_be_written going x o run offer)

    pub offer_unended : IsUnended (run_records x.session.exchange going ++ offered_records x o)
    offer_unended =
        let t : State = go_to at_prices (record (state_at (before_provisional made) awaits_offer.state) { offered = o.provisional.best }) in
        let at : List Record = position_records version_2 (length (exact_of here.exchange)) here.number (before_provisional made) in
        let rest : List Record = section_records here.exchange ++ goings_in version_2 (length (exact_of here.exchange)) 0 going in
        let carries : Carries (begun version_2 session_kind) (front ++ group) t =
        (prices_await EarnsStep front version_2 here.exchange (bounds_after_rounds here.exchange (opening_bounds here.exchange) going) made awaits_offer (some_trees here.exchange run.exchange) (proved_found o.provisional)
        (subst (λ (b : List Bounds). IsShown (trees_of here.exchange) (exact_of here.exchange) (weighted_weights here.exchange.settings.weight b) Provisional (proved_found o.provisional)) (sym run.bounds) provisional_shown)
        (subst (λ (b : List Bounds). EarnsLog EarnsStep (trees_of here.exchange) (exact_of here.exchange) (weighted_weights here.exchange.settings.weight b) Provisional (empty_sets (trees_of here.exchange)) o.provisional.log) (sym run.bounds) offer.found.found.earned)).carries in
        let joined : front ++ group ≡ rest ++ (at ++ group) = ap (λ (rs : List Record). rs ++ group) same_front ∙ append_assoc rest at group in
        unended (rest ++ (at ++ group)) t (subst (λ (rs : List Record). Carries (begun version_2 session_kind) rs t) joined carries)
        (all-append IsRecord (run_records here.exchange going) (at ++ group) (run_are going here run) offered_are) tt

pub settling_is_unended : SettlingIsUnended
settling_is_unended going x run is (inl closing) = closing_unended going x run is closing
settling_is_unended going x run is (inr none) = fresh_unended going x run is none

pub offer_is_unended : OfferIsUnended
offer_is_unended going x o run is goes_on offer = offer_unended going x run is o offer goes_on
