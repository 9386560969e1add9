use Rattle.std.proofs.Common.{rules, set, ap, ◌∙◌, subst}
use Rattle.std.proofs.lemmas.Int.{to_z-of_z}
use mir.Syntax.{w64, w128}
use mir.Val.{SFits, to_z, of_z}
use Rattle.ice_defs.specs.Bound.{IsNetSum}
use Rattle.ice_mult.proofs.moving.MovingGood.sum_at.Goals as goal

pub unreachable-requires : goal.unreachable-requires
unreachable-requires c = c.args.self.now.live (_, (c.in-Err.ensures.dead.there, c.in-Err.ensures.dead.dead))

pub returns-clause-sum : goal.returns-clause-sum
returns-clause-sum c =
    let fits : SFits w128 c.in-Ok.total = search rules in
    let number_fits : SFits w64 c.args.number = search rules in
    let moved =
    c.put.ensures ∙ ap (λ l. set l c.args.self.now.good (to_z w64 (of_z w64 c.args.number))) c.copy-moved.ensures
    ∙ ap (λ z. set c.args.self.now.m.now c.args.self.now.good z) (to_z-of_z w64 c.args.number number_fits) in
    rw (to_z-of_z w128 c.in-Ok.total fits) (subst (λ m. IsNetSum c.args.self.now.trees.now c.args.self.now.weights.now m c.args.self.now.fixings.now c.in-Ok.total) moved c.in-Ok.ensures.sum)
