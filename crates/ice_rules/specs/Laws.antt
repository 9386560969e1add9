-- A law of verdicts.
use Rattle.std.specs.Prelude.{◌<◌, ◌≡◌, length, ℤ, pos, ◌≤ℤ◌}
use Rattle.ice_defs.specs.declared.Verdict.TheVariants.{Accepted}
use Rattle.ice_defs.specs.Tree.{Tree, IsTree}
use Rattle.ice_defs.specs.Set.{NodeSet, IsSatisfied, Weights}
use Rattle.ice_defs.specs.Bounds.{Bounds, IsInside}
use Rattle.ice_defs.specs.Prices.{Prices}
use Rattle.ice_defs.specs.Judging.{IsJudged}

-- a bid that states its true values exactly, inside its bounds, is never refused for them
abbrev pub ExactBidIsAccepted : Type 0
ExactBidIsAccepted =
    (t : Tree) (p : Prices) (improve : ℤ) (s : NodeSet) (old : Bounds) (v : Weights)
    → IsTree t → 0 < p.den → pos 0 ≤ℤ improve → IsSatisfied t s → length v ≡ length t → IsInside 1 old v
    → IsJudged t p improve s old (record { lo = v; hi = v }) Accepted
