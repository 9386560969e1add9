-- The searches of a settlement, and what they find.
use Rattle.std.specs.Prelude.{ℕ, ◌+◌}
use Rattle.ice_defs.specs.Steps.{branch_count}
use Rattle.ice_defs.specs.Weighing.{weighted_weights}
use Rattle.ice_headline_laws.specs.Right.{IsSettled}
use Rattle.ice_search.specs.Instance.{Instance, empty_search}
use Rattle.ice_search.specs.Results.{IsFoundBy}
use Rattle.ice_search.specs.declared.results.Found.{Found}
use Rattle.ice_regret.specs.Regretted.{lower_search, IsRegretOf}
use Rattle.ice_regret.specs.declared.lead.Regret.{Regret}
use Rattle.ice_vickrey.specs.Economy.{Economy}
use Rattle.ice_settled.specs.Shown.{settlement_of}
use Rattle.ice_round.specs.SessionAt.{SessionAt}

-- at lower values
abbrev pub final_search : SessionAt → Instance
final_search s = lower_search s.exchange s.bounds

-- at weighted values
abbrev pub provisional_search : SessionAt → Instance
provisional_search s = empty_search s.exchange (weighted_weights s.exchange.settings.weight s.bounds)

-- the market at lower values, with the value of its final sets
abbrev pub economy_of : SessionAt → Found → Economy
economy_of s best = record { exchange = s.exchange; bounds = s.bounds; total = best.value }

-- the final sets by the first search, their regret by the second, and both are right
pub record IsSettlementOf (s : SessionAt) (best : Found) (r : Regret) : Type 0 where
  pub final : IsFoundBy (final_search s) best
  pub regret : IsRegretOf s.exchange s.bounds best.best r
  pub settled : IsSettled s.exchange s.bounds (settlement_of best r)

-- the branch steps of the two logs
abbrev pub settlement_branches : Found → Regret → ℕ
settlement_branches best regret = branch_count best.log + branch_count regret.log
