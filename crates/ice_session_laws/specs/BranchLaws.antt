-- Where a search is spent there were fewer branches than would be enough, as statements.
use Rattle.std.specs.Prelude.{ℕ, ◌+◌, ◌<◌, ◌≡◌, ◌⊎◌, ◌^◌, List, Option, ℤ}
use Rattle.ice_defs.specs.Set.{Weights}
use Rattle.ice_defs.specs.Bounds.{Bounds}
use Rattle.ice_defs.specs.Steps.{Step, branch_count}
use Rattle.ice_defs.specs.Log.{Passes}
use Rattle.ice_defs.specs.declared.Group.{Group}
use Rattle.ice_defs.specs.Group.{start_of}
use Rattle.ice_defs.specs.Exchange.{Exchange, trees_of, exact_of}
use Rattle.ice_defs.specs.Session.{Going}
use Rattle.ice_search.specs.Results.{IsFoundBy, IsSpentBy}
use Rattle.ice_search.specs.declared.results.Found.{Found}
use Rattle.ice_search.specs.declared.results.Spent.{Spent}
use Rattle.ice_regret.specs.Regretted.{lower_search, rival_search}
use Rattle.ice_regret.specs.declared.lead.Regret.{Regret}
use Rattle.ice_vickrey.specs.declared.marginal.Marginal.{Marginal}
use Rattle.ice_round.specs.SessionAt.{SessionAt}
use Rattle.ice_round.specs.Ends.{IsSpentAt}
use Rattle.ice_session_laws.specs.Running.{IsRunning}
use Rattle.ice_session_laws.specs.Branches.{node_total, enough_for_session, enough_for_regret}

-- a log that passes from the start of a group has fewer branch steps than 2 to the number of nodes
abbrev pub GroupLogIsShort : Type 0
GroupLogIsShort = (ex : Exchange) (ws : List Weights) (target : ℤ) (g : Group) (log : List Step)
    → Passes (trees_of ex) (exact_of ex) ws target (start_of (trees_of ex) g) log → branch_count log < 2 ^ node_total ex

-- the first of a regret's two searches is spent, or the second
abbrev pub FinalIsSpent : Exchange → List Bounds → Type 0
FinalIsSpent ex bounds = (spent : Spent) × IsSpentBy (lower_search ex bounds) ex.settings.branches spent

abbrev pub RivalIsSpent : Exchange → List Bounds → Type 0
RivalIsSpent ex bounds =
    (left : ℕ) × (final : Found) × (spent : Spent) × IsFoundBy (lower_search ex bounds) final
    × (left + branch_count final.log ≡ ex.settings.branches) × IsSpentBy (rival_search ex bounds final.best) left spent

abbrev pub SpentRegretHasFew : Type 0
SpentRegretHasFew = (ex : Exchange) (bounds : List Bounds) → FinalIsSpent ex bounds ⊎ RivalIsSpent ex bounds
    → ex.settings.branches < enough_for_regret ex

abbrev pub SpentSessionHasFew : Type 0
SpentSessionHasFew =
    (going : List Going) (s : SessionAt) (best : Option Found) (regret : Option Regret) (provisional : Option Found) (ms : List Marginal)
    (spent : Spent) → IsRunning going s → IsSpentAt s best regret provisional ms spent
    → s.exchange.settings.branches < enough_for_session s.exchange
