-- A node without children.
use Rattle.std.proofs.Common.{ℕ, ◌≡◌, ◌≢◌, ◌↔◌, Bool, true, [], Option, Some, None, ℤ, pos, refl, arith, inl, ⊎_elim}
use Rattle.std.specs.Prelude.{IfSome, IfNone}
use Rattle.std.proofs.lemmas.Int.{ints}
use Rattle.ice_defs.specs.declared.NodeKind.{NodeKind}
use Rattle.ice_defs.specs.declared.NodeKind.TheVariants.{Choose, Buy, Sell}
use Rattle.ice_defs.specs.declared.Mark.{Mark}
use Rattle.ice_defs.specs.declared.Mark.TheVariants.{Must, Never}
use Rattle.ice_defs.specs.Tree.{IsInterval, least_of, most_of}
use Rattle.ice_best.specs.Table.{IsPick, IsNeededBy}

no_least : (kind : NodeKind) → IsInterval kind 0 → least_of kind ≡ 0
no_least (Choose least most) fits = omega (arith, fits.0, fits.1)
no_least (Buy good units) fits = refl
no_least (Sell good units) fits = refl

-- nothing is chosen among no children
pub leaf_pick : (mark : Mark) (gain : ℕ → ℤ) (needed possible : ℕ → Bool) (kind : NodeKind) (chosen : ℕ → Bool) (sum : Option ℤ) → IsInterval kind 0
    → IfSome sum (λ v. (v ≡ pos 0) × (mark ≢ Never)) → IfNone sum (mark ≡ Never)
    → IsPick mark gain needed possible (least_of kind) (most_of kind) [] chosen sum
leaf_pick mark gain needed possible kind chosen None fits some never = record { some_mark = tt; some_sum = tt; some_best = tt; none = inl never }
leaf_pick mark gain needed possible kind chosen (Some v) fits (zero, free) never = record {
  some_mark = free;
  some_sum = zero;
  some_best = record {
    choice = record {
      enough = omega (arith, no_least kind fits);
      few = omega arith;
      takes_needed = λ k h. absurd (omega (arith, h));
      takes_possible = λ k h. absurd (omega (arith, h));
    };
    best = λ T choice. omega (arith, ints);
  };
  none = tt;
}

-- no child needs it
pub leaf_need : (mark : Mark) (needed : ℕ → Bool) (need : Bool) → (need ≡ true) ↔ (mark ≡ Must) → (need ≡ true) ↔ IsNeededBy mark needed []
leaf_need mark needed need by = (λ yes. inl (by.0 yes), λ is. ⊎_elim by.1 (λ (k, h, e). absurd (omega (arith, h))) is)
