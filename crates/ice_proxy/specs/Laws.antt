-- Laws of proxy bidders, as statements.
use Rattle.std.specs.Prelude.{ℕ, ◌<◌, ◌≤◌, ◌≡◌, ◌^◌, List, length, ℤ, pos, ◌+ℤ◌, ◌-ℤ◌, ◌*ℤ◌, ◌≤ℤ◌, ◌<ℤ◌}
use Rattle.ice_defs.specs.declared.Verdict.TheVariants.{Accepted}
use Rattle.ice_defs.specs.Tree.{Tree}
use Rattle.ice_defs.specs.Set.{NodeSet, IsSatisfied, weight_of}
use Rattle.ice_defs.specs.Bounds.{Bounds, IsInside}
use Rattle.ice_defs.specs.Market.{Trades, IsFeasibleTrade, IsTotalWorth, trades_of}
use Rattle.ice_defs.specs.Prices.{Prices}
use Rattle.ice_defs.specs.Rules.{IsLoss, Improves}
use Rattle.ice_defs.specs.Judging.{IsNarrowed, IsJudged}
use Rattle.ice_defs.specs.Round.{Standing}
use Rattle.ice_defs.specs.Exchange.{opening_bounds, market_of}
use Rattle.ice_defs.specs.Lawful.{AreBounds}
use Rattle.ice_defs.specs.Session.{Session}
use Rattle.ice_headline_laws.specs.Right.{IsRight, final_bounds}
use Rattle.ice_proxy.specs.Proposals.{proposal, IsAcceptable, IsProxyAttempt}
use Rattle.ice_proxy.specs.Sessions.{IsProxySession, HoldTruths, HoldThroughout}

-- ---- one proposal

-- it holds the truth, reaches nowhere beyond the old bounds, and its bounds are lawful
pub record IsAround (nodes : ℕ) (old : Bounds) (truth : List ℤ) (new : Bounds) : Type 0 where
  pub bounds : AreBounds nodes new
  pub holds : IsInside 1 new truth
  pub narrowed : IsNarrowed old new

abbrev pub ProposalIsAround : Type 0
ProposalIsAround = (nodes : ℕ) (old : Bounds) (truth : List ℤ) (attempt : ℕ) → AreBounds nodes old → IsInside 1 old truth
    → IsAround nodes old truth (proposal old truth attempt)

-- the first one is the old bounds
abbrev pub FirstProposalIsOld : Type 0
FirstProposalIsOld = (nodes : ℕ) (old : Bounds) (truth : List ℤ) → AreBounds nodes old → IsInside 1 old truth → proposal old truth 0 ≡ old

-- from attempt 31 on it is the truth itself
abbrev pub LateProposalIsTruth : Type 0
LateProposalIsTruth = (nodes : ℕ) (old : Bounds) (truth : List ℤ) (attempt : ℕ) → AreBounds nodes old → IsInside 1 old truth → 31 ≤ attempt
    → proposal old truth attempt ≡ record { lo = truth; hi = truth }

-- ---- the least attempt that is accepted

abbrev pub ProxyAttemptThere : Type 0
ProxyAttemptThere = (p : Prices) (improve : ℤ) (b : Standing) (truth : List ℤ) → IsSatisfied b.tree b.set
    → AreBounds (length b.tree) b.bounds → IsInside 1 b.bounds truth
    → (attempt : ℕ) × IsProxyAttempt p improve b truth attempt

abbrev pub ProxyAttemptIsOne : Type 0
ProxyAttemptIsOne = (p : Prices) (improve : ℤ) (b : Standing) (truth : List ℤ) (one other : ℕ) → IsProxyAttempt p improve b truth one
    → IsProxyAttempt p improve b truth other → one ≡ other

-- ---- tighter bounds

-- inside the wide bounds lie the narrow ones
pub record IsTighter (nodes : ℕ) (wide narrow : Bounds) : Type 0 where
  pub low : (n : ℕ) → n < nodes → weight_of wide.lo n ≤ℤ weight_of narrow.lo n
  pub high : (n : ℕ) → n < nodes → weight_of narrow.hi n ≤ℤ weight_of wide.hi n

-- what is accepted stays so where it is tightened
abbrev pub TighterIsAccepted : Type 0
TighterIsAccepted = (t : Tree) (p : Prices) (improve : ℤ) (s : NodeSet) (old one other : Bounds) → IsSatisfied t s
    → AreBounds (length t) old → AreBounds (length t) one → AreBounds (length t) other
    → IsTighter (length t) one other → IsJudged t p improve s old one Accepted → IsJudged t p improve s old other Accepted

-- a later attempt lies inside an earlier one, so from the least attempt on all are accepted
abbrev pub LaterIsTighter : Type 0
LaterIsTighter = (nodes : ℕ) (old : Bounds) (truth : List ℤ) (one other : ℕ) → AreBounds nodes old → IsInside 1 old truth → one ≤ other
    → IsTighter nodes (proposal old truth one) (proposal old truth other)

abbrev pub LaterIsAccepted : Type 0
LaterIsAccepted = (p : Prices) (improve : ℤ) (b : Standing) (truth : List ℤ) (one other : ℕ) → IsSatisfied b.tree b.set
    → AreBounds (length b.tree) b.bounds → IsInside 1 b.bounds truth
    → one ≤ other → IsAcceptable p improve b (proposal b.bounds truth one) → IsAcceptable p improve b (proposal b.bounds truth other)

-- each attempt halves the widths: so many times, they are at most the old one
abbrev pub WidthsAreHalved : Type 0
WidthsAreHalved = (nodes : ℕ) (old : Bounds) (truth : List ℤ) (attempt : ℕ) → AreBounds nodes old → IsInside 1 old truth → (n : ℕ)
    → n < nodes
    → (pos (2 ^ attempt) *ℤ (weight_of (proposal old truth attempt).hi n -ℤ weight_of (proposal old truth attempt).lo n))
    ≤ℤ (weight_of old.hi n -ℤ weight_of old.lo n)

-- ---- a required improvement above the loss

-- where more is required than a bidder may lack, the second rule asks nothing
abbrev pub LargeImproveAsksNothing : Type 0
LargeImproveAsksNothing = (t : Tree) (p : Prices) (improve loss : ℤ) (s : NodeSet) (old new : Bounds) → IsSatisfied t s
    → AreBounds (length t) new → IsLoss t p s old loss → loss <ℤ (improve *ℤ pos p.den)
    → Improves t p s old new improve

-- ---- sessions

-- at each settlement the bounds hold the truths, and each bid is accepted
abbrev pub ProxiesHold : Type 0
ProxiesHold = (s : Session) (truths : List (List ℤ)) → IsRight s → HoldTruths (opening_bounds s.exchange) truths → IsProxySession truths s
    → HoldThroughout s.exchange truths (opening_bounds s.exchange) s.going × HoldTruths (final_bounds s) truths

-- at the true values no feasible trade beats the final one by more than the regret
abbrev pub NoTradeBeatsAtTruths : Session → List (List ℤ) → Type 0
NoTradeBeatsAtTruths s truths =
    (trades : Trades) (worth : ℤ) → IsFeasibleTrade (market_of s.exchange) trades → IsTotalWorth (market_of s.exchange) truths trades worth
    → (final_worth : ℤ) × IsTotalWorth (market_of s.exchange) truths
    (trades_of (market_of s.exchange) s.closed.settlement.final.sets) final_worth
    × (worth ≤ℤ (final_worth +ℤ s.closed.settlement.regret))

abbrev pub ProxiesReachRegret : Type 0
ProxiesReachRegret = (s : Session) (truths : List (List ℤ)) → IsRight s → HoldTruths (opening_bounds s.exchange) truths
    → IsProxySession truths s → NoTradeBeatsAtTruths s truths
