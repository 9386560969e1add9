use Rattle.std.proofs.Common.{◌≡◌, ◌<◌, ◌∙◌, ap, subst, refl, pos, List, length, arith, rules}
use mir.Syntax.{w128}
use mir.Val.{SFits}
use Rattle.std.proofs.lemmas.Int.{to_z-of_z}
use Rattle.std.proofs.lemmas.List.{get_or_read}
use Rattle.ice_defs.specs.Fraction.{Fraction, whole_number, fraction_at}
use Rattle.ice_fair_stage.specs.Certified.{IsCertificate, weights_at}
use Rattle.ice_fair_stage.proofs.turn.end_turn.Goals as goal

pub returns-clause-ended : goal.returns-clause-ended
returns-clause-ended c =
    let fits : SFits w128 c.args.violation = search rules in
    let size : c.from.result ≡ c.args.trade.now.goods = c.from.ensures ∙ c.goods.ensures.value in
    let there : c.from.result < length c.args.solution.now.point.items = omega (arith, size, c.requires.solved.long) in
    record {
      prices_are = refl;
      violation_is = to_z-of_z w128 c.args.violation fits;
      distance_is = get_or_read c.args.solution.now.point.items c.from.result c.index.result.now there c.index.ensures (whole_number (pos 0)) ∙ ap (fraction_at c.args.solution.now.point.items) size;
      certificate = subst (λ (ys : List Fraction). IsCertificate (length c.args.trade.now.trees) c.args.pool.now (weights_at c.args.trade.now c.args.at.now ys) c.in_ok-certificate.certificate) c.deref.ensures.value c.in_ok-certificate.ensures.value;
    }
