-- Sessions in which a proxy bids for each bidder, and the true values that their bounds hold.
use Rattle.std.specs.Prelude.{◌≡◌, List, [], ◌∷◌, ℤ}
use Rattle.std.specs.List.{AllByRecursion, AllZip}
use Rattle.ice_defs.specs.declared.Verdict.TheVariants.{Accepted}
use Rattle.ice_defs.specs.Bounds.{Bounds, IsInside}
use Rattle.ice_defs.specs.Prices.{Prices}
use Rattle.ice_defs.specs.Round.{Judged, Standing}
use Rattle.ice_defs.specs.Exchange.{Exchange, opening_bounds}
use Rattle.ice_defs.specs.Session.{standings, Going, Session}
use Rattle.ice_headline_laws.specs.Right.{bounds_after_round}
use Rattle.ice_proxy.specs.Proposals.{IsProxyBid}

-- one submission per bidder in order, each its proxy bid
abbrev pub IsProxyRound : Prices → ℤ → List Standing → List (List ℤ) → List Judged → Type 0
IsProxyRound p improve [] truths [] = Unit {0}
IsProxyRound p improve (b ∷ bidders) (truth ∷ truths) (j ∷ judged) = IsProxyBid p improve b truth j.submission
    × IsProxyRound p improve bidders truths judged
IsProxyRound p improve bidders truths judged = ⊥

-- every settlement that goes on has such a round
abbrev pub IsProxyFrom : Exchange → List (List ℤ) → List Bounds → List Going → Type 0
IsProxyFrom ex truths bounds [] = Unit {0}
IsProxyFrom ex truths bounds (g ∷ later) =
    IsProxyRound g.prices ex.settings.improve (standings ex bounds g.provisional.sets) truths g.judged
    × IsProxyFrom ex truths (bounds_after_round ex bounds g) later

abbrev pub IsProxySession : List (List ℤ) → Session → Type 0
IsProxySession truths s = IsProxyFrom s.exchange truths (opening_bounds s.exchange) s.going

-- ---- what their bounds hold

-- each bidder's true values lie inside its bounds
abbrev pub HoldTruths : List Bounds → List (List ℤ) → Type 0
HoldTruths bounds truths = AllZip (IsInside 1) bounds truths

abbrev pub AreAccepted : List Judged → Type 0
AreAccepted judged = AllByRecursion (λ j. j.verdict ≡ Accepted) judged

-- so it is at each settlement from these bounds on, and each bid is accepted
abbrev pub HoldThroughout : Exchange → List (List ℤ) → List Bounds → List Going → Type 0
HoldThroughout ex truths bounds [] = HoldTruths bounds truths
HoldThroughout ex truths bounds (g ∷ later) = HoldTruths bounds truths × AreAccepted g.judged
    × HoldThroughout ex truths (bounds_after_round ex bounds g) later
