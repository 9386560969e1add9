-- The workspace of a search, seen from outside.
use Rattle.std.proofs.Common.{ℕ, ◌≡◌, Bool, List, ℤ, arith, ap, ◌∙◌, subst}
use Rattle.ice_defs.specs.declared.Mark.{Mark}
use Rattle.ice_defs.specs.declared.Mark.TheVariants.{Free}
use Rattle.ice_defs.specs.Tree.{Tree}
use Rattle.ice_defs.specs.Set.{Weights}
use Rattle.ice_defs.specs.Bound.{Multipliers, IsBound, IsNetSum}
use Rattle.ice_defs.specs.Steps.{Side, with_mark}
use Rattle.ice_defs.specs.Log.{IsFreeNode}
use Rattle.ice_defs.specs.Sweep.{Sweeps}
use Rattle.ice_defs.specs.Conditions.{AreFixingsOf}
use Rattle.ice_refute.proofs.Kept.{with_mark-back}

-- the same sum and the same bound by other names
pub summed_there : (ts ts2 : List Tree) (ws ws2 : List Weights) (m m2 : Multipliers) (xs ys : Side) (total : ℤ) → ts2 ≡ ts → ws2 ≡ ws → m2 ≡ m → xs ≡ ys
    → IsNetSum ts2 ws2 m2 xs total → IsNetSum ts ws m ys total
summed_there ts ts2 ws ws2 m m2 xs ys total t w n x is =
    subst (λ a. IsNetSum a ws m ys total) t (subst (λ a. IsNetSum ts2 a m ys total) w (subst (λ a. IsNetSum ts2 ws2 a ys total) n (subst (λ a. IsNetSum ts2 ws2 m2 a total) x is)))

pub bound_there : (ts ts2 : List Tree) (ws ws2 : List Weights) (m m2 : Multipliers) (xs ys : Side) (v : ℤ) → ts2 ≡ ts → ws2 ≡ ws → m2 ≡ m → xs ≡ ys
    → IsBound ts2 ws2 m2 xs v → IsBound ts ws m ys v
bound_there ts ts2 ws ws2 m m2 xs ys v t w n x (total, is, low, high) = (total, summed_there ts ts2 ws ws2 m m2 xs ys total t w n x is, low, high)

-- a mark on a free node is taken back
pub taken_back : (ts : List Tree) (side marked : Side) (b n : ℕ) (m : Mark) → AreFixingsOf ts side → IsFreeNode ts side b n → marked ≡ with_mark side b n m → with_mark marked b n Free ≡ side
taken_back ts side marked b n m fit free e = ap (λ xs. with_mark xs b n Free) e ∙ with_mark-back side b n m (omega (arith, free.0, fit.same_length)) free.2

-- the same sweep by other names
pub swept_there : (ts ts2 : List Tree) (exact exact2 : List Bool) (ws ws2 : List Weights) (xs ys : Side) (from from2 to to2 : Multipliers)
    → ts2 ≡ ts → exact2 ≡ exact → ws2 ≡ ws → xs ≡ ys → from2 ≡ from → to2 ≡ to → Sweeps ts2 exact2 ws2 xs from2 to2 → Sweeps ts exact ws ys from to
swept_there ts ts2 exact exact2 ws ws2 xs ys from from2 to to2 t e w x f m is =
    subst (λ a. Sweeps a exact ws ys from to) t
    (subst (λ a. Sweeps ts2 a ws ys from to) e
    (subst (λ a. Sweeps ts2 exact2 a ys from to) w
    (subst (λ a. Sweeps ts2 exact2 ws2 a from to) x (subst (λ a. Sweeps ts2 exact2 ws2 xs a to) f (subst (λ a. Sweeps ts2 exact2 ws2 xs from2 a) m is)))))
