use Rattle.std.proofs.Common.{◌≡◌, ◌≤◌, ◌+◌, ◌*◌, sum, replicate}
use Rattle.ice_gen.specs.Generated.{draws}
use Rattle.ice_gen.specs.Drawing.{state_after}
use Rattle.ice_gen.proofs.buyer.package_value.Given as goal

abbrev pub invariant-loop-good : goal.invariant-loop-good
invariant-loop-good l =
    (l.truth ≡ 10 * l._good + sum (draws (replicate l._good 30) l.initial.generator))
    × (l.truth ≤ 39 * l._good)
    × (l.generator ≡ state_after l._good l.initial.generator)
