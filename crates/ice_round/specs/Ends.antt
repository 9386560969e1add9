-- How a settlement ends: closed, going on, or halted before.
use Rattle.std.specs.Prelude.{ℕ, ◌+◌, ◌≡◌, false, IsTrue, List, [], Option, None, Some}
use Rattle.ice_defs.specs.Steps.{branch_count}
use Rattle.ice_defs.specs.Session.{closes}
use Rattle.ice_defs.specs.Weighing.{weighted_weights}
use Rattle.ice_search.specs.Results.{IsFoundBy, IsSpentBy}
use Rattle.ice_search.specs.declared.results.Found.{Found}
use Rattle.ice_search.specs.declared.results.Spent as search
use Rattle.ice_search.specs.declared.results.SearchEnd as ends
use Rattle.ice_search.specs.declared.results.SearchEnd.TheVariants as variants
use Rattle.ice_regret.specs.Regretted.{rival_search}
use Rattle.ice_regret.specs.declared.lead.Regret.{Regret}
use Rattle.ice_pricing.specs.Provisional.{provisional_of}
use Rattle.ice_price.specs.Ends.{IsPriceEnd}
use Rattle.ice_price.specs.declared.ends.PriceLimit.{PriceLimit}
use Rattle.ice_price.specs.declared.ends.PriceEnd.TheVariants as price
use Rattle.ice_vickrey.specs.Marginals.{IsSpentWithout}
use Rattle.ice_vickrey.specs.declared.marginal.Marginal.{Marginal}
use Rattle.ice_round.specs.SessionAt.{SessionAt}
use Rattle.ice_round.specs.Searches.{final_search, provisional_search, economy_of, settlement_branches, IsSettlementOf}
use Rattle.ice_round.specs.Shown.{IsClosing, IsOpening}
use Rattle.ice_settled.specs.declared.settled.Halt.{Halt}
use Rattle.ice_round.specs.declared.settled.Settled.{Settled}
use Rattle.ice_round.specs.declared.settled.Settled.TheVariants as settled

-- a halt is of the session
pub record IsHaltOf (s : SessionAt) (h : Halt) : Type 0 where
  pub exchange : h.exchange ≡ s.exchange
  pub bounds : h.bounds.items ≡ s.bounds
  pub number : h.number ≡ s.number

module _ (s : SessionAt) where
  -- what was found before a search that spent the branches which those before it left
  pub data IsSpentAt : Option Found → Option Regret → Option Found → List Marginal → search.Spent → Type 0 where
    at_final : {spent : search.Spent} → IsSpentBy (final_search s) s.branches spent → IsSpentAt None None None [] spent
    at_rival : {best : Found} {spent : search.Spent} (left : ℕ)
        → IsFoundBy (final_search s) best → left + branch_count best.log ≡ s.branches
        → IsSpentBy (rival_search s.exchange s.bounds best.best) left spent
        → IsSpentAt (Some best) None None [] spent
    at_without : {best : Found} {regret : Regret} {done : List Marginal} {spent : search.Spent} (left : ℕ)
        → IsTrue (closes s.exchange.settings s.number regret.amount) → IsSettlementOf s best regret
        → left + settlement_branches best regret ≡ s.branches
        → IsSpentWithout (economy_of s best) left done spent
        → IsSpentAt (Some best) (Some regret) None done spent
    at_provisional : {best : Found} {regret : Regret} {spent : search.Spent} (left : ℕ)
        → closes s.exchange.settings s.number regret.amount ≡ false → IsSettlementOf s best regret
        → left + settlement_branches best regret ≡ s.branches
        → IsSpentBy (provisional_search s) left spent
        → IsSpentAt (Some best) (Some regret) None [] spent

  -- what was found before a pricing that ended at a limit
  pub data IsLimitAt : Option Found → Option Regret → Option Found → List Marginal → PriceLimit → Type 0 where
    at_pricing : {best : Found} {regret : Regret} {provisional : Found} {limit : PriceLimit} (left : ℕ)
        → closes s.exchange.settings s.number regret.amount ≡ false → IsSettlementOf s best regret
        → IsFoundBy (provisional_search s) provisional
        → left + (settlement_branches best regret + branch_count provisional.log) ≡ s.branches
        → IsPriceEnd (provisional_of s.exchange (weighted_weights s.exchange.settings.weight s.bounds) provisional.best) (price.Limit limit)
        → IsLimitAt (Some best) (Some regret) (Some provisional) [] limit

-- a search ended early, after these were found
abbrev pub IsStoppedAt : SessionAt → Option Found → Option Regret → List Marginal → ends.SearchEnd → Type 0
IsStoppedAt s best regret done (variants.Spent spent) = IsSpentAt s best regret None done spent
IsStoppedAt s best regret done variants.NoMemory = Unit {0}

-- a halt has what was found before the search that ended early
abbrev pub IsHaltedBy : SessionAt → Halt → ends.SearchEnd → Type 0
IsHaltedBy s h (variants.Spent spent) = IsHaltOf s h × IsSpentAt s h.best h.regret h.provisional h.marginals.items spent
IsHaltedBy s h variants.NoMemory = Unit {0}

-- each end by its cause; want of memory has none
abbrev pub IsSettledAs : SessionAt → Settled → Type 0
IsSettledAs s (settled.Closed c) = IsClosing s c
IsSettledAs s (settled.Going r o) = IsOpening s r o
IsSettledAs s (settled.Spent h spent) = IsHaltOf s h × IsSpentAt s h.best h.regret h.provisional h.marginals.items spent
IsSettledAs s (settled.Limit h limit) = IsHaltOf s h × IsLimitAt s h.best h.regret h.provisional h.marginals.items limit
IsSettledAs s settled.NoMemory = Unit {0}
