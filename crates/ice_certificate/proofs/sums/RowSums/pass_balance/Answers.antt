use Rattle.std.proofs.Common.{◌≡◌, ◌∙◌, ap, sym, pos, ◌*ℤ◌, arith, rules, to_z, of_z}
use mir.Syntax.{w128}
use mir.Val.{SFits}
use Rattle.std.proofs.lemmas.Int.{ints, to_z-of_z}
use Rattle.ice_certificate.proofs.sums.RowSums.pass_balance.Goals as goal

pub returns-clause-yes : goal.returns-clause-yes
returns-clause-yes c h =
    let fits : SFits w128 c.args.violation = search rules in
    let same : c.args.violation *ℤ pos c.args.self.now.weight ≡ to_z w128 (of_z w128 c.worth_at_top-rest.result) =
    ap (λ n. c.args.violation *ℤ pos n) (sym c.weight.ensures) ∙ ap (λ z. z *ℤ pos c.weight.result) (sym (to_z-of_z w128 c.args.violation fits)) ∙ c.is_product.ensures.0 h in
    record {
      proper = c.requires.den;
      weights = search rules;
      equal = omega (arith, ints, same, c.worth_at_top-rest.ensures.value, c.worth_at_top-rest.ensures.low, c.worth_at_top-rest.ensures.high);
    }
