-- Steps at a side, seen from outside.
use Rattle.std.proofs.Common.{◌≡◌, refl, sym, subst}
use Rattle.std.specs.Prelude.{pos, ◌+ℤ◌, ◌*ℤ◌, ◌≤ℤ◌, ◌<ℤ◌}
use Rattle.ice_defs.specs.Conditions.{AreMultipliersOf}
use Rattle.ice_bound.specs.Kept.{Standing}
use Rattle.ice_subgradient.specs.declared.incumbent.Incumbent.{Incumbent}
use Rattle.ice_subgradient.specs.declared.polishing.Evaluated.{Evaluated}
use Rattle.ice_subgradient.specs.Offers.{IsOffered}
use Rattle.ice_subgradient.specs.Polished.{IsPolished}
use Rattle.ice_search.specs.Instance.{Instance}
use Rattle.ice_search.specs.declared.sweep.Bounded.{Bounded}
use Rattle.ice_search.specs.Workspace.{IsPolishedAt}
use Rattle.ice_search.proofs.Standing.{summed_there}

-- what steps on kept bounds come to
pub polished_at : (x : Instance) (kept : Standing) (before after : Incumbent) (least : Evaluated) (at : Bounded)
    → kept.trees ≡ x.trees → kept.weights ≡ x.weights → kept.exact ≡ x.exact → at.m ≡ least.m
    → (pos 64 *ℤ at.key) ≤ℤ least.total → least.total <ℤ (pos 64 *ℤ at.key +ℤ pos 64)
    → IsPolished kept before after least → IsPolishedAt x kept.marks before after at
polished_at x kept before after least at t w e n low high is =
    record {
      multipliers = subst (AreMultipliersOf x.exact) (sym n) (subst (λ a. AreMultipliersOf a least.m) e is.lawful);
      bound = (least.total, summed_there x.trees kept.trees x.weights kept.weights at.m least.m kept.marks kept.marks least.total t w (sym n) refl is.sum, low, high);
      offered = subst (λ a. IsOffered a x.exact x.weights kept.marks before after) t
          (subst (λ a. IsOffered kept.trees a x.weights kept.marks before after) e
          (subst (λ a. IsOffered kept.trees kept.exact a kept.marks before after) w is.offered));
    }
