-- Laws of true values, as statements.
use Rattle.std.specs.Prelude.{ℕ, ◌<◌, ◌≡◌, List, length, map, ℤ, pos}
use Rattle.std.specs.List.{AllByRecursion}
use Rattle.ice_defs.specs.declared.Verdict.TheVariants.{Accepted}
use Rattle.ice_defs.specs.Set.{IsSatisfied}
use Rattle.ice_defs.specs.Trade.{Assignment, tree_of, set_of, IsFeasible, total_value, IsBestOfAll}
use Rattle.ice_defs.specs.Bounds.{Bounds, bounds_of}
use Rattle.ice_defs.specs.Weighing.{lower_weights}
use Rattle.ice_defs.specs.Market.{Market}
use Rattle.ice_defs.specs.Regret.{IsRegret}
use Rattle.ice_defs.specs.Prices.{Prices}
use Rattle.ice_defs.specs.Round.{Judged, IsRound, next_bounds}
use Rattle.ice_defs.specs.Exchange.{Exchange, trees_of, names_of}
use Rattle.ice_defs.specs.Lawful.{AreBounds, IsExchange}
use Rattle.ice_defs.specs.Session.{standings}
use Rattle.ice_trial.specs.Truths.{AreExact, AreTruths, truth_bids}

-- where all values are exact, an assignment that none beats has no regret
abbrev pub ExactBoundsHaveNoRegret : Type 0
ExactBoundsHaveNoRegret = (market : Market) (bounds : List Bounds) (final : Assignment) (regret : ℤ)
    → length bounds ≡ length market.trees
    → ((b : ℕ) → b < length market.trees → AreBounds (length (tree_of market.trees b)) (bounds_of bounds b))
    → AreExact bounds → IsFeasible market.trees market.exact final
    → IsBestOfAll market.trees market.exact (lower_weights bounds) (total_value final (lower_weights bounds))
    → IsRegret market bounds final regret → regret ≡ pos 0

-- where each bidder states its true values in a round, all
-- are accepted, and they are the next bounds
abbrev pub TruthsAreAccepted : Type 0
TruthsAreAccepted = (ex : Exchange) (bounds truths : List Bounds) (sets : Assignment) (p : Prices) (improve : ℤ) (judged : List Judged)
    → IsExchange ex → length bounds ≡ length ex.bidders
    → ((b : ℕ) → b < length ex.bidders → AreBounds (length (tree_of (trees_of ex) b)) (bounds_of bounds b))
    → length sets ≡ length ex.bidders → ((b : ℕ) → b < length ex.bidders → IsSatisfied (tree_of (trees_of ex) b) (set_of sets b))
    → AreTruths bounds truths → IsRound p improve (standings ex bounds sets) judged
    → map (λ j. j.submission) judged ≡ truth_bids (names_of ex) truths
    → AllByRecursion (λ j. j.verdict ≡ Accepted) judged × (next_bounds (standings ex bounds sets) judged ≡ truths)
