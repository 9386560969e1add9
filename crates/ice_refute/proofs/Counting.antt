-- A passing log over n free nodes has fewer than 2^n branch steps.
use Rattle.std.proofs.Common.{ℕ, zero, suc, ◌+◌, ◌*◌, ◌^◌, ◌<◌, ◌≤◌, ◌≡◌, Bool, List, length, Ok, ℤ, refl, arith, ap, ◌∙◌}
use Rattle.ice_defs.specs.declared.Mark.{Mark}
use Rattle.ice_defs.specs.declared.Mark.TheVariants.{Must, Never}
use Rattle.ice_defs.specs.Tree.{Tree}
use Rattle.ice_defs.specs.Set.{Weights}
use Rattle.ice_defs.specs.Trade.{fixing_of}
use Rattle.ice_defs.specs.Derived.{Means}
use Rattle.ice_defs.specs.Steps.{Step, Side, with_mark, branch_count}
use Rattle.ice_defs.specs.Log.{IsFreeNode, ReadsBy, branches, is_dead_leaf, closes, is_dead}
use Rattle.ice_defs.specs.Conditions.{AreFixingsOf}
use Rattle.ice_bound.proofs.Fixings.{marked_fixings}
use Rattle.ice_refute.specs.Waiting.{is_free, free_count}
use Rattle.ice_refute.specs.Laws.{LogIsShort}
use Rattle.ice_refute.proofs.Kept.{number, free_count-with_mark}

power_positive : (n : ℕ) → 1 ≤ 2 ^ n
power_positive zero = omega arith
power_positive (suc n) = omega (arith, power_positive n)

-- a power of the free nodes halves at a branch
halved : (f g : ℕ) → f + 1 ≡ g → 2 ^ g ≡ 2 ^ f + 2 ^ f
halved f g e = ap (λ k. 2 ^ k) (let same : g ≡ suc f = omega (arith, e) in same) ∙ omega arith

one_less : (ts : List Tree) (side : Side) (b n : ℕ) (m : Mark) → AreFixingsOf ts side → IsFreeNode ts side b n → is_free m ≡ is_free Must → free_count (with_mark side b n m) + 1 ≡ free_count side
one_less ts side b n m are free taken =
    let there : b < length side = omega (arith, free.0, are.same_length) in
    let node : n < length (fixing_of side b) = omega (arith, free.1, are.nodes b free.0) in
    omega (arith, free_count-with_mark side b n m there node, ap (λ y. number (is_free y)) free.2, ap number taken)

-- the steps that are read: fewer branches than leaves of a
-- full tree, and one more closing step than branches
record IsCounted (free branches_before branches_left steps_before steps_left : ℕ) : Type 0 where
  few : branches_before + 1 ≤ branches_left + 2 ^ free
  odd : steps_before + 2 * branches_left ≡ steps_left + 2 * branches_before + 1

module _ (means : Means) (ts : List Tree) (exact : List Bool) (ws : List Weights) (target : ℤ) where
  closing : (free b n : ℕ) → IsCounted free b b (n + 1) n
  closing free b n = record { few = omega (arith, power_positive free); odd = omega arith }

  counted : {side : Side} {log left : List Step} → ReadsBy means ts exact ws target side log (Ok left) → AreFixingsOf ts side
      → IsCounted (free_count side) (branch_count log) (branch_count left) (length log) (length left)
  counted (branches {side = side} {b = b} {n = n} {rest = rest} free must never) are =
      let first = counted must (marked_fixings ts side b n Must are) in
      let second = counted never (marked_fixings ts side b n Never are) in
      let must_less = halved _ _ (one_less ts side b n Must are free refl) in
      let never_less = halved _ _ (one_less ts side b n Never are free refl) in
      record {
        few = omega (arith, first.few, second.few, must_less, never_less);
        odd = omega (arith, first.odd, second.odd);
      }
  counted (is_dead_leaf {side = side} {rest = rest} signs is) are = record { few = omega (arith, power_positive (free_count side)); odd = omega arith }
  counted (closes {side = side} {rest = rest} signs is small) are = record { few = omega (arith, power_positive (free_count side)); odd = omega arith }
  counted (is_dead {side = side} {rest = rest} is) are = record { few = omega (arith, power_positive (free_count side)); odd = omega arith }

pub log_is_short : LogIsShort
log_is_short means ts exact ws target start log are passes =
    let all = counted means ts exact ws target passes are in
    let double : 2 ^ (free_count start + 1) ≡ 2 ^ free_count start + 2 ^ free_count start = halved (free_count start) (free_count start + 1) refl in
    (omega (arith, all.few), omega (arith, all.few, all.odd, double))
