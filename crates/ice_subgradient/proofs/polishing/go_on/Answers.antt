use Rattle.std.proofs.Common.{rules, subst}
use Rattle.std.proofs.lemmas.Int.{to_z-of_z}
use mir.Syntax.{w128}
use mir.Val.{SFits}
use Rattle.ice_defs.specs.Conditions.{AreMultipliersOf}
use Rattle.ice_subgradient.specs.Polished.{IsSameSide}
use Rattle.ice_subgradient.proofs.Stepping.{still_live, same_again, one_more}
use Rattle.ice_subgradient.proofs.polishing.go_on.Goals as goal

pub look-total-requires-clause-live : goal.look-total-requires-clause-live
look-total-requires-clause-live c =
    let same : IsSameSide c.args.kept.now c.put_multipliers.new.self = search rules in
    still_live c.args.kept.now c.put_multipliers.new.self same c.requires.live

pub returns-clause-polished : goal.returns-clause-polished
returns-clause-polished c = λ start before side is.
    let total = c.look-total.result in
    let fits : SFits w128 total = search rules in
    let moved : IsSameSide c.args.kept.now c.put_multipliers.new.self = search rules in
    let same = same_again start c.args.kept.now c.put_multipliers.new.self side moved in
    let m = c.multipliers_of-m.result in
    let lawful : AreMultipliersOf start.exact m = subst (λ e. AreMultipliersOf e m) side.exact c.multipliers_of-m.ensures in
    one_more start c.put_multipliers.new.self same before c.args.incumbent.now c.look-total.new.incumbent c.args.least.now c.lower.new.self m total is
    c.put_multipliers.ensures.multipliers lawful c.look-total.ensures.sum c.look-total.ensures.offered c.look-total.ensures.sets
    (rw (to_z-of_z w128 total fits) at c.lower.ensures.less) (rw (to_z-of_z w128 total fits) at c.lower.ensures.else_same)
