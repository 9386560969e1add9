use Rattle.std.proofs.Common.{rules, ◌∙◌}
use Rattle.std.proofs.lemmas.Int.{to_z-of_z}
use mir.Syntax.{w128}
use mir.Val.{SFits}
use Rattle.ice_subgradient.proofs.Stepping.{begun}
use Rattle.ice_subgradient.proofs.polishing.begin.Goals as goal

pub returns : goal.returns
returns c =
    let fits : SFits w128 c.look-total.result = search rules in
    rw (to_z-of_z w128 c.look-total.result fits)
    (begun c.args.kept.now c.args.incumbent.now c.look-total.new.incumbent _ c.multipliers.ensures.fit c.look-total.ensures.sum (c.copy.ensures ∙ c.multipliers.ensures.value)
    c.look-total.ensures.offered c.look-total.ensures.first c.look-total.ensures.sets)
