-- A passing log closes all sides, and each of its steps stands in one.
use Rattle.std.proofs.Common.{◌+◌, ◌≡◌, Bool, List, [], ◌∷◌, length, Ok, ℤ, refl, arith, ◌∙◌}
use Rattle.ice_defs.specs.declared.Mark.TheVariants.{Never}
use Rattle.ice_defs.specs.Tree.{Tree}
use Rattle.ice_defs.specs.Set.{Weights}
use Rattle.ice_defs.specs.Derived.{Means}
use Rattle.ice_defs.specs.Steps.{Step, Side, with_mark, steps_with_sides}
use Rattle.ice_defs.specs.Log.{ReadsBy, branches, is_dead_leaf, closes, is_dead}
use Rattle.ice_refute.specs.Laws.{open_after, LogCloses}

-- the steps that a side takes leave the other sides
record IsTaken (side : Side) (sides : List Side) (log left : List Step) : Type 0 where
  closed : open_after (side ∷ sides) log ≡ open_after sides left
  placed_all : length (steps_with_sides (side ∷ sides) log) + length left ≡ length (steps_with_sides sides left) + length log

module _ (means : Means) (ts : List Tree) (exact : List Bool) (ws : List Weights) (target : ℤ) where
  taken : {side : Side} {log left : List Step} → ReadsBy means ts exact ws target side log (Ok left) → (sides : List Side) → IsTaken side sides log left
  taken (branches {side = side} {b = b} {n = n} free must never) sides =
      let first = taken must (with_mark side b n Never ∷ sides) in
      let second = taken never sides in
      record { closed = first.closed ∙ second.closed; placed_all = omega (arith, first.placed_all, second.placed_all) }
  taken (is_dead_leaf signs is) sides = record { closed = refl; placed_all = omega arith }
  taken (closes signs is small) sides = record { closed = refl; placed_all = omega arith }
  taken (is_dead is) sides = record { closed = refl; placed_all = omega arith }

pub log_closes : LogCloses
log_closes means ts exact ws target start log passes =
    let all = taken means ts exact ws target passes [] in
    (all.closed, omega (arith, all.placed_all))
