-- What holds at each step of a polish.
use Rattle.std.proofs.Common.{◌≡◌, length, ℤ, ◌≤ℤ◌, ◌<ℤ◌, arith, ap, sym, ◌∙◌, subst, inl, inr}
use Rattle.std.proofs.lemmas.Int.{ints, by_lt_z}
use Rattle.ice_defs.specs.Bound.{Multipliers, IsNetSum}
use Rattle.ice_defs.specs.Trade.{total_value}
use Rattle.ice_defs.specs.Sweep.{IsLive}
use Rattle.ice_defs.specs.Conditions.{AreMultipliersOf}
use Rattle.ice_bound.specs.Kept.{Standing}
use Rattle.ice_subgradient.specs.declared.incumbent.Incumbent.{Incumbent}
use Rattle.ice_subgradient.specs.declared.polishing.Evaluated.{Evaluated}
use Rattle.ice_subgradient.specs.Offers.{AreCovered, IsOffered}
use Rattle.ice_subgradient.specs.Polished.{IsSameSide, IsPolished}
use Rattle.ice_subgradient.proofs.Offering.{offered_again}

pub begun : (old : Standing) (before after : Incumbent) (least : Evaluated) → AreMultipliersOf old.exact old.multipliers → IsNetSum old.trees old.weights old.multipliers old.marks least.total
    → least.m ≡ old.multipliers → IsOffered old.trees old.exact old.weights old.marks before after → (AreCovered old → total_value old.sets old.weights ≤ℤ after.value)
    → length after.sets ≡ length old.trees → IsPolished old before after least
begun old before after least lawful sum same offered first sets = record {
  lawful = subst (AreMultipliersOf old.exact) (sym same) lawful;
  sum = subst (λ m. IsNetSum old.trees old.weights m old.marks least.total) (sym same) sum;
  falls = (least.total, sum, omega (arith, ints));
  offered = offered;
  first = first;
  sets = sets;
}

pub still_live : (old now : Standing) → IsSameSide old now → IsLive old.trees old.marks → IsLive now.trees now.marks
still_live old now same live = subst (λ ts. IsLive ts now.marks) (sym same.trees) (subst (IsLive old.trees) (sym same.marks) live)

pub same_again : (old mid now : Standing) → IsSameSide old mid → IsSameSide mid now → IsSameSide old now
same_again old mid now a b = record { trees = b.trees ∙ a.trees; weights = b.weights ∙ a.weights; marks = b.marks ∙ a.marks; exact = b.exact ∙ a.exact }

module _ (old now : Standing) (same : IsSameSide old now) where
  sum_here : (m : Multipliers) (total : ℤ) → now.multipliers ≡ m → IsNetSum now.trees now.weights now.multipliers now.marks total → IsNetSum old.trees old.weights m old.marks total
  sum_here m total here sum =
      subst (λ ts. IsNetSum ts old.weights m old.marks total) same.trees
      (subst (λ ws. IsNetSum now.trees ws m old.marks total) same.weights
      (subst (λ n. IsNetSum now.trees now.weights n old.marks total) here
      (subst (λ side. IsNetSum now.trees now.weights now.multipliers side total) same.marks sum)))

  offered_here : (after later : Incumbent) → IsOffered now.trees now.exact now.weights now.marks after later → IsOffered old.trees old.exact old.weights old.marks after later
  offered_here after later offered =
      subst (λ ts. IsOffered ts old.exact old.weights old.marks after later) same.trees
      (subst (λ exact. IsOffered now.trees exact old.weights old.marks after later) same.exact
      (subst (λ ws. IsOffered now.trees now.exact ws old.marks after later) same.weights
      (subst (λ side. IsOffered now.trees now.exact now.weights side after later) same.marks offered)))

  no_less : (after later : Incumbent) → IsOffered old.trees old.exact old.weights old.marks after later → after.value ≤ℤ later.value
  no_less after later (inl is) = omega (arith, ints, ap (λ (x : Incumbent). x.value) is)
  no_less after later (inr raised) = omega (arith, ints, raised.more)

  -- one more look, at other multipliers of the same side
  pub one_more : (before after later : Incumbent) (least next : Evaluated) (m : Multipliers) (total : ℤ) → IsPolished old before after least
      → now.multipliers ≡ m → AreMultipliersOf old.exact m → IsNetSum now.trees now.weights now.multipliers now.marks total
      → IsOffered now.trees now.exact now.weights now.marks after later → length later.sets ≡ length now.trees
      → (total <ℤ least.total → next ≡ record { m = m; total = total }) → (least.total ≤ℤ total → next ≡ least) → IsPolished old before later next
  one_more before after later least next m total is here lawful sum offered sets less else_same =
      by_lt_z total least.total (λ below. subst (IsPolished old before later) (sym (less below)) (lower below)) (λ above. subst (IsPolished old before later) (sym (else_same above)) stays)
    where
      again : IsOffered old.trees old.exact old.weights old.marks before later
      again = offered_again old.trees old.exact old.weights old.marks before after later is.offered (offered_here after later offered)

      first : AreCovered old → total_value old.sets old.weights ≤ℤ later.value
      first covered = omega (arith, ints, is.first covered, no_less after later (offered_here after later offered))

      there : length later.sets ≡ length old.trees
      there = sets ∙ ap length same.trees

      stays : IsPolished old before later least
      stays = record { lawful = is.lawful; sum = is.sum; falls = is.falls; offered = again; first = first; sets = there }

      lower : total <ℤ least.total → IsPolished old before later (record { m = m; total = total })
      lower below =
          let (start, at_start, up) = is.falls in
          record { lawful = lawful; sum = sum_here m total here sum; falls = (start, at_start, omega (arith, ints, up, below)); offered = again; first = first; sets = there }
