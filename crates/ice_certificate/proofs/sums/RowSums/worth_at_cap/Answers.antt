use Rattle.std.proofs.Common.{◌≡◌, ◌∙◌, ap, pos, ◌-ℤ◌, ◌*ℤ◌, arith, rules, to_z, of_z}
use mir.Syntax.{w128}
use Rattle.std.proofs.lemmas.Int.{ints}
use Rattle.ice_row_laws.specs.Sums.{wanted_in}
use Rattle.ice_certificate.proofs.sums.RowSums.worth_at_cap.Goals as goal

pub returns-clause-value : goal.returns-clause-value
returns-clause-value c =
    let cost : c.cap_cost.result ≡ c.args.cap *ℤ wanted_in c.args.goods c.args.self.now = search rules in
    let made : to_z w128 (of_z w128 (to_z w128 (of_z w128 c.worth.result) -ℤ to_z w128 (of_z w128 (pos 100 *ℤ to_z w128 (of_z w128 c.cap_cost.result))))) ≡ c.worth.result -ℤ (pos 100 *ℤ c.cap_cost.result) =
    omega (arith, ints, c.worth.ensures.low, c.worth.ensures.high, c.cap_cost.ensures.low, c.cap_cost.ensures.high) in
    made ∙ ap (λ z. z -ℤ (pos 100 *ℤ c.cap_cost.result)) c.worth.ensures.value ∙ ap (λ z. c.args.self.now.worth -ℤ (pos 100 *ℤ z)) cost

pub returns-clause-low : goal.returns-clause-low
returns-clause-low c = omega (arith, ints, c.worth.ensures.low, c.worth.ensures.high, c.cap_cost.ensures.low, c.cap_cost.ensures.high)

pub returns-clause-high : goal.returns-clause-high
returns-clause-high c = omega (arith, ints, c.worth.ensures.low, c.worth.ensures.high, c.cap_cost.ensures.low, c.cap_cost.ensures.high)
