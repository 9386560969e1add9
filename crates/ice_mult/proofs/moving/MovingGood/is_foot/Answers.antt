use Rattle.std.proofs.Common.{rules, arith, ◌≡◌, ◌+◌, ◌-◌, ◌∙◌, subst}
use Rattle.std.proofs.lemmas.Int.{ints, to_z-of_z}
use mir.Syntax.{w64}
use mir.Val.{SFits}
use Rattle.ice_bound.specs.Direction.{toward}
use Rattle.ice_mult.specs.Foot.{IsSumAt, Falls}
use Rattle.ice_mult.proofs.Tangents.{tangent}
use Rattle.ice_mult.proofs.Feet.{one_falls, one_rests}
use Rattle.ice_mult.proofs.moving.MovingGood.is_foot.Goals as goal

pub returns-clause-foot : goal.returns-clause-foot
returns-clause-foot c = λ up.
    let back : c.args.steps - 1 + 1 ≡ c.args.steps = omega arith in
    let fits : SFits w64 c.at.result = search rules in
    record {
      falls = subst (λ k. Falls (IsSumAt c.args.self.now) c.args.direction k) back
          (one_falls (IsSumAt c.args.self.now) c.args.direction
          (c.args.steps - 1) _ _ c.pair_at-before.ensures.here c.pair_at-before.ensures.after (omega (arith, ints)));
      rests = one_rests (IsSumAt c.args.self.now)
          (tangent c.args.self.now.m.now c.args.self.now.good c.args.self.now.there c.args.self.now.trees.now c.args.self.now.weights.now c.args.self.now.fixings.now) c.args.direction c.args.steps _ _
          (subst (λ k. IsSumAt c.args.self.now (toward c.args.direction k) c.pair_at-before.result.after) back
          c.pair_at-before.ensures.after)
          (subst (λ z. IsSumAt c.args.self.now z c.sum_at-after.result) (to_z-of_z w64 c.at.result fits ∙ c.at.ensures)
          c.sum_at-after.ensures.sum) (omega (arith, ints, up));
    }
