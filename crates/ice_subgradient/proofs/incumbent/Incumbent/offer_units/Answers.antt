use Rattle.std.proofs.Common.{rules, arith, ◌∙◌, inr, ◌<ℤ◌}
use Rattle.std.proofs.lemmas.Int.{ints, to_z-of_z}
use mir.Syntax.{w128}
use mir.Val.{SFits}
use Rattle.ice_defs.specs.Trade.{total_value}
use Rattle.ice_subgradient.specs.Offers.{AreCovered}
use Rattle.ice_subgradient.proofs.Offering.{covered_raises}
use Rattle.ice_subgradient.proofs.incumbent.Incumbent.offer_units.Goals as goal

pub returns-clause-offered : goal.returns-clause-offered
returns-clause-offered c =
    let fits : SFits w128 c.sets_value-value.result = search rules in
    let covered : AreCovered c.args.kept.now = search rules in
    let more : c.args.self.now.value <ℤ total_value c.args.kept.now.sets c.args.kept.now.weights = omega (arith, ints, c.sets_value-value.ensures) in
    inr (covered_raises c.args.kept.now c.requires.live c.sets.ensures.relaxed c.args.self.now.value _ covered (c.copy_from.ensures ∙ c.sets.ensures.value)
    (to_z-of_z w128 c.sets_value-value.result fits ∙ c.sets_value-value.ensures) more)
