use Rattle.std.proofs.Common.{◌≡◌, ◌∙◌, None, List, ℤ, length, ap}
use Rattle.ice_defs.specs.Bounds.{Bounds}
use Rattle.ice_tree.specs.Bounds.{bounds_refusal}
use Rattle.ice_fair.proofs.Lows.{lowered-unrefused}
use Rattle.ice_fair.proofs.low.lowered.Goals as goal

abbrev values : List ℤ → List ℤ → Bounds
values lo hi = record { lo = lo; hi = hi }

pub unreachable-requires : goal.unreachable-requires
unreachable-requires c =
    let lo : c.deref.result.now ≡ c.args.bounds.now.lo = c.deref.ensures.0 ∙ c.low_values-values.ensures in
    let hi : c.deref-2.result.now ≡ c.args.bounds.now.lo = c.deref-2.ensures.0 ∙ c.low_values-values.ensures in
    let fine : bounds_refusal (length c.args.tree.now) c.deref.result.now c.deref-2.result.now ≡ None =
    ap (λ (los : List ℤ). bounds_refusal (length c.args.tree.now) los c.deref-2.result.now) lo
    ∙ ap (λ (his : List ℤ). bounds_refusal (length c.args.tree.now) c.args.bounds.now.lo his) hi
    ∙ lowered-unrefused (length c.args.tree.now) c.args.bounds.now c.requires in
    let due = c.in_default.ensures.refused in
    cc (fine, due)

pub returns : goal.returns
returns c =
    let lo : c.deref.result.now ≡ c.args.bounds.now.lo = c.deref.ensures.0 ∙ c.low_values-values.ensures in
    let hi : c.deref-2.result.now ≡ c.args.bounds.now.lo = c.deref-2.ensures.0 ∙ c.low_values-values.ensures in
    c.in-Ok.ensures.made ∙ ap (λ z. values z c.deref-2.result.now) lo ∙ ap (λ z. values c.args.bounds.now.lo z) hi
