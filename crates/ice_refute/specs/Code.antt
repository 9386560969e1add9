-- A step of the code as a step of the definitions.
use Rattle.std.specs.Prelude.{ℕ, ◌≡◌, List, length, map}
use Rattle.ice_defs.specs.Steps as steps
use Rattle.ice_refute.specs.declared.step.Step.{Step}
use Rattle.ice_refute.specs.declared.step.Step.TheVariants.{Branch, Leaf, Dead}

abbrev pub step_of : Step → steps.Step
step_of (Branch bidder node) = steps.branch bidder node
step_of (Leaf m) = steps.leaf m
step_of (Dead bidder) = steps.dead bidder

abbrev pub steps_of : List Step → List steps.Step
steps_of log = map step_of log

-- a leaf has one multiplier per good
abbrev pub CountsGoods : ℕ → steps.Step → Type 0
CountsGoods goods (steps.branch b n) = Unit {0}
CountsGoods goods (steps.leaf m) = length m ≡ goods
CountsGoods goods (steps.dead b) = Unit {0}
