-- A session as far as its prices, and its stop at a limit there.
use Rattle.std.proofs.Common.{◌≡◌, ◌<◌, ℕ, List, ◌∷◌, ◌++◌, length, ℤ, refl, sym, subst}
use Rattle.std.specs.List.{AllByRecursion}
use Rattle.ice_defs.specs.Bounds.{Bounds}
use Rattle.ice_defs.specs.Weighing.{weighted_weights}
use Rattle.ice_defs.specs.PricingLimit.{Stage, LimitKind}
use Rattle.ice_defs.specs.declared.Group.TheVariants.{Provisional}
use Rattle.ice_defs.specs.Group.{empty_sets}
use Rattle.ice_defs.specs.Exchange.{Exchange, trees_of, exact_of}
use Rattle.ice_defs.specs.Session.{Proved, Settlement}
use Rattle.ice_journal.specs.Records.{Record, Version, version_2, session_kind}
use Rattle.ice_journal.specs.Records as line
use Rattle.ice_journal.specs.Ranges.{IsRecord}
use Rattle.ice_journal_laws.specs.State.{at_group, at_prices, State, begun, goods_at}
use Rattle.ice_journal_laws.specs.Next.{go_to}
use Rattle.ice_journal_laws.specs.Tests.{BidderSet}
use Rattle.ice_journal_laws.specs.Showing.{group_records, IsShown}
use Rattle.ice_journal_laws.specs.StepsTaken.{Earns}
use Rattle.ice_journal_laws.specs.Earning.{Earning, IsEarnedTaken, EarnsLog}
use Rattle.ice_journal_laws.specs.Positions.{before_provisional}
use Rattle.ice_journal_laws.specs.SoFar.{IsSoFar}
use Rattle.ice_journal_laws.proofs.CarriedGroup.{head_takes}
use Rattle.ice_journal_laws.proofs.CarriedTaken.{earns_join}
use Rattle.ice_journal_laws.proofs.CarriedEarned.{group_earns}
use Rattle.ice_journal_laws.proofs.CarriedPosition.{state_at, Awaits}
use Rattle.ice_journal_laws.proofs.CarriedStops.{limit_rest, limit_so_far}

module _ (E : Earning) (before : List Record) (v : Version) (ex : Exchange) (bounds : List Bounds) (x : Settlement) (awaits : Awaits E before v ex bounds (before_provisional x)) (some : 0 < length (trees_of ex)) (p : Proved)
    (is : IsShown (trees_of ex) (exact_of ex) (weighted_weights ex.settings.weight bounds) Provisional p) (earned : EarnsLog E (trees_of ex) (exact_of ex) (weighted_weights ex.settings.weight bounds) Provisional (empty_sets (trees_of ex)) p.log) where
  abbrev Now : State
  Now = state_at (before_provisional x) awaits.state

  -- the provisional sets are offered
  abbrev Offering : State
  Offering = record (state_at (before_provisional x) awaits.state) { offered = p.sets }

  provisional_earns : Earns (IsEarnedTaken E) (go_to (at_group Provisional) Now) (group_records awaits.state.version (goods_at awaits.state) (line.provisional p.value) p) (go_to at_prices Offering)
  provisional_earns =
      group_earns E (go_to (at_group Provisional) Now) Now Provisional p (line.provisional p.value) tt (head_takes Now Provisional p.value refl) refl
      (subst (λ (y : Exchange). 0 < length (trees_of y)) (sym awaits.exchange) some)
      (subst (λ (y : Exchange). IsShown (trees_of y) (exact_of y) (weighted_weights y.settings.weight awaits.state.bounds) Provisional p) (sym awaits.exchange)
      (subst (λ (b : List Bounds). IsShown (trees_of ex) (exact_of ex) (weighted_weights ex.settings.weight b) Provisional p) (sym awaits.bounds_are) is))
      (subst (λ (y : Exchange). EarnsLog E (trees_of y) (exact_of y) (weighted_weights y.settings.weight awaits.state.bounds) Provisional (empty_sets (trees_of y)) p.log) (sym awaits.exchange)
      (subst (λ (b : List Bounds). EarnsLog E (trees_of ex) (exact_of ex) (weighted_weights ex.settings.weight b) Provisional (empty_sets (trees_of ex)) p.log) (sym awaits.bounds_are) earned))

  -- the session has come as far as its prices
  pub prices_await : Earns (IsEarnedTaken E) (begun v session_kind) (before ++ group_records v (length (exact_of ex)) (line.provisional p.value) p) (go_to at_prices (record (state_at (before_provisional x) awaits.state) { offered = p.sets }))
  prices_await =
      earns_join (IsEarnedTaken E) (begun v session_kind) (go_to (at_group Provisional) Now) (go_to at_prices Offering) before (group_records v (length (exact_of ex)) (line.provisional p.value) p) awaits.earns
      (subst (λ (w : Version). Earns (IsEarnedTaken E) (go_to (at_group Provisional) Now) (group_records w (length (exact_of ex)) (line.provisional p.value) p) (go_to at_prices Offering)) awaits.version
      (subst (λ (y : Exchange). Earns (IsEarnedTaken E) (go_to (at_group Provisional) Now) (group_records awaits.state.version (length (exact_of y)) (line.provisional p.value) p) (go_to at_prices Offering)) awaits.exchange provisional_earns))

-- each front of a stop at a limit is a journal so far
pub session_limit_so_far : (E : Earning) (before : List Record) (s : State) → Earns (IsEarnedTaken E) (begun version_2 session_kind) before (go_to at_prices s) → (stage : Stage) (why : LimitKind) (violation : ℤ) (den : ℕ) (pool : List BidderSet) (front back : List Record)
    → front ++ back ≡ limit_rest pool → AllByRecursion IsRecord (line.head version_2 session_kind ∷ (before ++ line.limit stage why violation den ∷ front))
    → IsSoFar session_kind (line.head version_2 session_kind ∷ (before ++ line.limit stage why violation den ∷ front))
session_limit_so_far E before s h stage why violation den pool front back e lawful = limit_so_far session_kind before front back s stage why violation den pool h.carries e lawful
