-- What a search finds is a group that is shown and earned, and its records are in their ranges.
use Rattle.std.proofs.Common.{List, length, ℤ}
use Rattle.ice_defs.specs.Set.{Weights}
use Rattle.ice_defs.specs.Trade.{Assignment}
use Rattle.ice_defs.specs.Bounds.{Bounds}
use Rattle.ice_defs.specs.Sweep.{EarnsStep}
use Rattle.ice_defs.specs.Searched.{IsFound, IsSpentSearch}
use Rattle.ice_defs.specs.declared.Group.{Group}
use Rattle.ice_defs.specs.declared.Group.TheVariants.{Assign, Final, Rival, Provisional, Without}
use Rattle.ice_defs.specs.Group.{start_of, group_weights}
use Rattle.ice_defs.specs.Exchange.{Exchange, trees_of, exact_of}
use Rattle.ice_defs.specs.Lawful.{IsExchange}
use Rattle.ice_defs.specs.Session.{Proved}
use Rattle.ice_defs.specs.Conditions.{AreBoundsOf, AreWeightsOf}
use Rattle.ice_bound.proofs.Modest.{lower_modest, weighted_modest, perturbed_modest}
use Rattle.ice_search.specs.Results.{AreWritten}
use Rattle.ice_journal_laws.specs.Showing.{LeavesOut, IsShown}
use Rattle.ice_journal_laws.specs.Earning.{EarnsLog}
use Rattle.ice_journal_laws.proofs.CarriedRegret.{some_trees}
use Rattle.ice_journal_laws.proofs.CarriedSpentSession.{IsWholeSearch}
use Rattle.ice_write.specs.Writable.{AreWritable}
use Rattle.ice_write.proofs.Writable.{writable}
use Rattle.ice_session_laws.proofs.Worth.{IsWorth, worth_is}

-- the weights of a group are modest
pub weights_are : (ex : Exchange) (bounds : List Bounds) (final : Assignment) (g : Group) → IsExchange ex → AreBoundsOf (trees_of ex) bounds → AreWeightsOf (trees_of ex) (group_weights ex.settings.weight bounds final g)
weights_are ex bounds final Assign lawful are = lower_modest (trees_of ex) bounds are
weights_are ex bounds final Final lawful are = lower_modest (trees_of ex) bounds are
weights_are ex bounds final Rival lawful are = perturbed_modest final (trees_of ex) bounds are
weights_are ex bounds final Provisional lawful are = weighted_modest ex.settings.weight (trees_of ex) bounds lawful.settings.weight are
weights_are ex bounds final (Without b) lawful are = lower_modest (trees_of ex) bounds are

module _ (ex : Exchange) (lawful : IsExchange ex) (ws : List Weights) (weights : AreWeightsOf (trees_of ex) ws) (first : Assignment) where
  -- ---- a whole search

  module _ (g : Group) (p : Proved) (is : IsFound (trees_of ex) (exact_of ex) ws (start_of (trees_of ex) g) first p) (written : AreWritten (length (exact_of ex)) p.log) where
    pub found_shown : LeavesOut g p.sets → IsShown (trees_of ex) (exact_of ex) ws g p
    found_shown out = record { feasible = is.attained.feasible; value = is.attained.has; left_out = out; counts = written.counts; passes = is.passes }

    pub found_earned : EarnsLog EarnsStep (trees_of ex) (exact_of ex) ws g first p.log
    found_earned = is.earned

    pub found_worth : IsWorth p.value
    found_worth = worth_is ex ws p.sets p.value lawful weights is.attained.feasible is.attained.has

    pub found_writable : AreWritable (length (exact_of ex)) p.sets p.log
    found_writable = writable ex ws p.value (start_of (trees_of ex) g) p.sets p.log lawful is.attained.feasible is.passes written.counts written.ranged

  -- ---- a search that is spent

  module _ (g : Group) (p : Proved) (bound : ℤ) (is : IsSpentSearch (trees_of ex) (exact_of ex) ws (start_of (trees_of ex) g) first p bound) (written : AreWritten (length (exact_of ex)) p.log) where
    pub spent_worth : IsWorth p.value
    spent_worth = worth_is ex ws p.sets p.value lawful weights is.attained.feasible is.attained.has

    pub spent_writable : AreWritable (length (exact_of ex)) p.sets p.log
    spent_writable = writable ex ws bound (start_of (trees_of ex) g) p.sets p.log lawful is.attained.feasible is.passes written.counts written.ranged

    pub spent_whole : IsWholeSearch ex p
    spent_whole = record { some = some_trees ex lawful; count = is.attained.feasible.same_length; counts = written.counts; ws = ws; target = bound; start = start_of (trees_of ex) g; passes = is.passes }
