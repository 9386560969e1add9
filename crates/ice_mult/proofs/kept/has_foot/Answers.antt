use Rattle.std.proofs.Common.{rules, ◌∙◌, ap, sym, subst, set}
use Rattle.std.proofs.lemmas.Int.{to_z-of_z}
use mir.Syntax.{w64}
use mir.Val.{SFits}
use Rattle.ice_bound.specs.Direction.{toward}
use Rattle.ice_mult.specs.Foot.{Falls}
use Rattle.ice_mult.specs.Moved.{MayMove, IsMoved, IsSumWith}
use Rattle.ice_mult.proofs.Settling.{falls_back, rests_back, may_still}
use Rattle.ice_mult.proofs.kept.has_foot.Goals as goal

pub rests-requires-clause-may : goal.rests-requires-clause-may
rests-requires-clause-may c =
    let fits : SFits w64 c.at.result = search rules in
    let kept = c.args.kept.now in
    let moved : IsMoved kept c.args.good (toward c.args.direction c.args.steps) c.put_multiplier.new.self = record {
      alike = record { trees = c.put_multiplier.ensures.trees; weights = c.put_multiplier.ensures.weights; marks = c.put_multiplier.ensures.marks; exact = c.put_multiplier.ensures.exact };
      multipliers = c.put_multiplier.ensures.multipliers ∙ ap (λ z. set kept.multipliers c.args.good z) (to_z-of_z w64 c.at.result fits ∙ c.at.ensures);
    } in
    may_still kept c.put_multiplier.new.self c.args.good (toward c.args.direction c.args.steps) moved c.requires.may

pub falls-requires-clause-may : goal.falls-requires-clause-may
falls-requires-clause-may c =
    let fits : SFits w64 c.at.result = search rules in
    let kept = c.args.kept.now in
    let moved : IsMoved kept c.args.good (toward c.args.direction c.args.steps) c.put_multiplier.new.self = record {
      alike = record { trees = c.put_multiplier.ensures.trees; weights = c.put_multiplier.ensures.weights; marks = c.put_multiplier.ensures.marks; exact = c.put_multiplier.ensures.exact };
      multipliers = c.put_multiplier.ensures.multipliers ∙ ap (λ z. set kept.multipliers c.args.good z) (to_z-of_z w64 c.at.result fits ∙ c.at.ensures);
    } in
    subst (λ st. MayMove st c.args.good) (sym c.rests.ensures.same)
    (may_still kept c.put_multiplier.new.self c.args.good (toward c.args.direction c.args.steps) moved c.requires.may)

pub returns-then-rests-clause-foot : goal.returns-then-rests-clause-foot
returns-then-rests-clause-foot c = λ yes.
    let fits : SFits w64 c.at.result = search rules in
    let kept = c.args.kept.now in
    let g = c.args.good in
    let d = c.args.direction in
    let k = c.args.steps in
    let mid = c.put_multiplier.new.self in
    let moved : IsMoved kept g (toward d k) mid = record {
      alike = record { trees = c.put_multiplier.ensures.trees; weights = c.put_multiplier.ensures.weights; marks = c.put_multiplier.ensures.marks; exact = c.put_multiplier.ensures.exact };
      multipliers = c.put_multiplier.ensures.multipliers ∙ ap (λ z. set kept.multipliers g z) (to_z-of_z w64 c.at.result fits ∙ c.at.ensures);
    } in
    record {
      falls = falls_back kept mid g (toward d k) moved d k (subst (λ st. Falls (IsSumWith st g) d k) c.rests.ensures.same (c.falls.ensures.falls yes));
      rests = rests_back kept mid g (toward d k) moved d k (c.rests.ensures.rests c.if-rests.true);
    }
