-- The bidder that stands here, under a name.
use Rattle.std.specs.Prelude.{ℕ, List}
use Rattle.ice_defs.specs.Round.{Standing}
use Rattle.ice_rules.specs.declared.standing.Standing as rules

abbrev pub bidder_at : List ℕ → rules.Standing → Standing
bidder_at name at = record { name = name; tree = at.tree.now; bounds = at.bounds.now; set = at.set.now }
