-- Which steps are earned, where that depends on the group and its first assignment.
use Rattle.std.specs.Prelude.{ℕ, suc, Bool, List, [], ◌∷◌}
use Rattle.std.specs.List.{AllByRecursion}
use Rattle.ice_defs.specs.Tree.{Tree}
use Rattle.ice_defs.specs.Set.{Weights}
use Rattle.ice_defs.specs.Trade.{Assignment}
use Rattle.ice_defs.specs.Steps.{Step, Side, steps_with_sides}
use Rattle.ice_defs.specs.Bounds.{Bounds}
use Rattle.ice_defs.specs.Weighing.{lower_weights, weighted_weights, perturbed_weights}
use Rattle.ice_defs.specs.declared.Group.{Group}
use Rattle.ice_defs.specs.declared.Group.TheVariants.{Final, Rival, Provisional, Without}
use Rattle.ice_defs.specs.Group.{start_of, first_sets, empty_sets}
use Rattle.ice_defs.specs.Exchange.{Exchange, trees_of, exact_of}
use Rattle.ice_defs.specs.Session.{Proved, Settlement, Going}
use Rattle.ice_headline_laws.specs.Right.{bounds_after_round}
use Rattle.ice_journal_laws.specs.State.{State, trees_at, exact_at, weights_at}
use Rattle.ice_journal_laws.specs.Tests.{Taken}

-- a step is earned for these trees, goods and weights, with a start and a first assignment, at its
-- side
abbrev pub Earning : Type 1
Earning = List Tree → List Bool → List Weights → Side → Assignment → Side → Step → Type 0

module _ (E : Earning) where
  -- a step that is taken is earned by its own group's weights, start and first assignment
  abbrev pub IsEarnedTaken : State → Taken → Type 0
  IsEarnedTaken s t =
      E (trees_at s) (exact_at s) (weights_at s t.group) (start_of (trees_at s) t.group)
      (first_sets (trees_at s) s.final.sets t.group) t.side t.step

  module _ (ts : List Tree) (exact : List Bool) where
    -- each step of a log is earned
    abbrev pub EarnsLog : List Weights → Group → Assignment → List Step → Type 0
    EarnsLog ws g first log = AllByRecursion (λ p. E ts exact ws (start_of ts g) first p.0 p.1) (steps_with_sides (start_of ts g ∷ []) log)

    -- each step of the logs without a bidder is earned, from bidder b on
    abbrev pub EarnsWithouts : List Weights → ℕ → List Proved → Type 0
    EarnsWithouts ws b [] = Unit {0}
    EarnsWithouts ws b (p ∷ later) = EarnsLog ws (Without b) (empty_sets ts) p.log × EarnsWithouts ws (suc b) later

  module _ (ex : Exchange) where
    -- each step of the two logs of a settlement is earned
    pub record EarnsSettlement (bounds : List Bounds) (x : Settlement) : Type 0 where
      pub final : EarnsLog (trees_of ex) (exact_of ex) (lower_weights bounds) Final (empty_sets (trees_of ex)) x.final.log
      pub rival : EarnsLog (trees_of ex) (exact_of ex) (perturbed_weights x.final.sets bounds) Rival x.final.sets x.rival.log

    -- each step of the three logs of a settlement that goes on is earned
    pub record EarnsGoing (bounds : List Bounds) (g : Going) : Type 0 where
      pub settlement : EarnsSettlement bounds g.settlement
      pub provisional : EarnsLog (trees_of ex) (exact_of ex) (weighted_weights ex.settings.weight bounds) Provisional
          (empty_sets (trees_of ex)) g.provisional.log

    -- each step of all logs of these settlements is earned, each at the bounds that the rounds
    -- before it leave
    abbrev pub EarnGoings : List Bounds → List Going → Type 0
    EarnGoings bounds [] = Unit {0}
    EarnGoings bounds (g ∷ later) = EarnsGoing bounds g × EarnGoings (bounds_after_round ex bounds g) later
