use Rattle.std.proofs.Common.{rules, ◌≡◌, length, List}
use Rattle.ice_gen.specs.declared.valued.Valued.{Valued}
use Rattle.ice_gen.specs.Generated.{truth_of_values}
use Rattle.ice_gen.proofs.Keeping.{IsOk-from_none, bounds_refusal-truth}
use Rattle.ice_gen.proofs.growing.ValuedTreeMaker.finish.Goals as goal

pub unwrap-truth-requires : goal.unwrap-truth-requires
unwrap-truth-requires c =
    let vs : List Valued = c.self.inside.values.items in
    let lo : c.deref-2.result.now ≡ (truth_of_values vs).lo = search rules in
    let hi : c.deref-3.result.now ≡ (truth_of_values vs).hi = search rules in
    let nodes : length vs ≡ length c.unwrap-tree.result.0 = search rules in
    IsOk-from_none _ _ c.set_bounds.ensures.refused (rw (lo, hi) (bounds_refusal-truth vs _ nodes c.self.invariant.modest))
