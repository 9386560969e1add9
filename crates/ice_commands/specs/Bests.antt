-- The best sets of all bidders, and their lines.
use Rattle.std.specs.Prelude.{ℕ, suc, ◌≡◌, List, [], ◌∷◌, ◌++◌}
use Rattle.std.specs.List.{flat_map}
use Rattle.ice_defs.specs.Prices.{Prices}
use Rattle.ice_defs.specs.Exchange.{Exchange}
use Rattle.ice_commands.specs.declared.best_set.BestSet.{BestSet}
use Rattle.ice_commands.specs.Output.{best_lines, best_end}
use Rattle.ice_commands.specs.BestServed.{IsBestNet}

-- these are the best sets of the bidders with these names, from this one on
abbrev pub AreBestSets : Exchange → Prices → ℕ → List (List ℕ) → List BestSet → Type 0
AreBestSets ex p b [] [] = Unit {0}
AreBestSets ex p b [] (best ∷ bests) = ⊥
AreBestSets ex p b (name ∷ names) [] = ⊥
AreBestSets ex p b (name ∷ names) (best ∷ bests) = (best.name ≡ name) × IsBestNet ex p b best.set best.net
    × AreBestSets ex p (suc b) names bests

abbrev pub lines_of : BestSet → List ℕ
lines_of best = best_lines best.name best.net best.set

abbrev pub best_text : List BestSet → List ℕ
best_text bests = flat_map lines_of bests ++ best_end
