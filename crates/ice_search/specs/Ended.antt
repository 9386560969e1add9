-- How the turns of a search end.
use Rattle.std.specs.Prelude.{ℕ, ◌≡◌}
use Rattle.ice_search_log.specs.Searching.{IsAboveWhole, IsNext}
use Rattle.ice_search.specs.Nodes.{IsSplitNode}
use Rattle.ice_search.specs.State.{State, LooksAt}
use Rattle.ice_search.specs.declared.run.Ended.{Ended}
use Rattle.ice_search.specs.declared.run.Ended.TheVariants.{Whole, Spent}

-- nothing above the value is left, or no branch where the next part would be split
abbrev pub HasEnded : State → ℕ → Ended → Type 0
HasEnded s left Whole = IsAboveWhole s.parts s.value
HasEnded s left (Spent number node) =
    (left ≡ 0) × LooksAt s number × IsNext s.parts s.value number × IsSplitNode s.instance.trees s.side node.bidder node.node
