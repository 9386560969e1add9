use Rattle.std.proofs.Common.{◌≡◌, ◌≤◌, ◌^◌, length, ap, arith, rules}
use Rattle.std.proofs.lemmas.List.Elements.{recursion_from_All}
use Rattle.ice_defs.specs.Rows.{Row, Certificate}
use Rattle.ice_pricing.proofs.certificate.Certificate.is_limited.Goals as goal

pub returns-clause-yes : goal.returns-clause-yes
returns-clause-yes c =
    let den = ap (λ (x : Certificate). x.den) c.self.view_is in
    let rows = ap (λ (x : Certificate). length x.rows) c.self.view_is in
    let read : length c.deref-row-items.result.now ≡ length c.self.inside.rows.items = search rules in
    let not_zero = c.if-self-eq0.false in
    let few : length c.self.inside.rows.items ≤ 200 = search rules in
    λ h. record {
      positive = omega (arith, den, not_zero);
      den_fits = omega (arith, den, c.if-self-gt-GREATEST_WEIGHT.false);
      few = omega (arith, rows, few);
      weights_fit = recursion_from_All (λ (row : Row). row.weight ≤ 2 ^ 32) c.args.self.now.rows
          (λ k d lt. c.loop-row.invariant k d (omega (arith, lt, rows, read, c.loop-row-test.false)));
    }
