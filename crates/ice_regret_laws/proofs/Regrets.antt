-- There is one regret, and it isn't negative.
use Rattle.std.proofs.Common.{List, ℤ, pos, ◌≤ℤ◌, arith}
use Rattle.std.proofs.lemmas.Int.{ints}
use Rattle.std.proofs.Math.IntN.{*ℤ-zero}
use Rattle.ice_defs.specs.Trade.{Assignment}
use Rattle.ice_defs.specs.Bounds.{Bounds}
use Rattle.ice_defs.specs.Market.{Market}
use Rattle.ice_defs.specs.Regret.{IsRegret}
use Rattle.ice_regret_laws.specs.Laws.{RegretIsOne, RegretIsNotNegative}
use Rattle.ice_defs.proofs.Multiples.{times_cancel}

regret-le : (market : Market) (bounds : List Bounds) (final : Assignment) (one other : ℤ) → IsRegret market bounds final one → IsRegret market bounds final other → one ≤ℤ other
regret-le market bounds final one other is most =
    let (k, v, a, profile, ok, e) = is.attained in
    times_cancel k one other profile.whole (omega (arith, ints, e, most.bound k v a profile ok))

pub regret_is_one : RegretIsOne
regret_is_one market bounds final one other x y = omega (arith, ints, regret-le market bounds final one other x y, regret-le market bounds final other one y x)

pub regret_is_not_negative : RegretIsNotNegative
regret_is_not_negative market bounds final regret feasible is =
    let (k, v, a, profile, ok, e) = is.attained in
    times_cancel k (pos 0) regret profile.whole (omega (arith, ints, is.bound k v final profile feasible, *ℤ-zero (pos k)))
