use Rattle.std.proofs.Common.{◌≡◌, ◌≤◌, ◌∙◌, ◌^◌, [], ◌∷◌, ap, pos, neg_ℤ, ◌-ℤ◌, arith, to_z, of_z}
use mir.Syntax.{w128}
use Rattle.std.proofs.lemmas.Int.{ints}
use Rattle.ice_defs.specs.Fraction.{fraction_at}
use Rattle.ice_defs.specs.Program.{Program}
use Rattle.ice_defs.specs.PricingRun.{num_over}
use Rattle.ice_fair_stage.specs.Stages.{FairStage, with_rows, set_row}
use Rattle.ice_fair_stage.proofs.Sets.{bidder-rows, number-within, on_ok-map}
use Rattle.ice_fair_stage.proofs.program.add_bidder.Goals as goal

pub add_set-requires-clause-least : goal.add_set-requires-clause-least
add_set-requires-clause-least c =
    number-within (10 ^ 21) (to_z w128 (of_z w128 c.payment-paid.result)) (omega arith) (omega (arith, ints, c.payment-paid.ensures.low, c.payment-paid.ensures.high)) (omega (arith, ints, c.payment-paid.ensures.low, c.payment-paid.ensures.high))

pub add_set-requires-2-clause-low : goal.add_set-requires-2-clause-low
add_set-requires-2-clause-low c =
    let cut : c.at.inside.cut ≡ c.args.at.now.cut = ap (λ (s : FairStage). s.cut) c.at.view_is in
    let few : c.args.at.now.cut ≤ 1000 = c.requires.stage.payments.few in
    omega (arith, ints, cut, few, c.from-factor.ensures)

pub add_set-requires-2-clause-least : goal.add_set-requires-2-clause-least
add_set-requires-2-clause-least c =
    number-within (10 ^ 21) (to_z w128 (of_z w128 (pos 0 -ℤ to_z w128 (of_z w128 c.payment-paid.result)))) (omega arith) (omega (arith, ints, c.payment-paid.ensures.low, c.payment-paid.ensures.high)) (omega (arith, ints, c.payment-paid.ensures.low, c.payment-paid.ensures.high))

pub returns : goal.returns
returns c =
    let cut : c.at.inside.cut ≡ c.args.at.now.cut = ap (λ (s : FairStage). s.cut) c.at.view_is in
    let few : c.args.at.now.cut ≤ 1000 = c.requires.stage.payments.few in
    let factor : to_z w128 (of_z w128 c.from-factor.result) ≡ pos c.args.at.now.cut = omega (arith, ints, cut, few, c.from-factor.ensures) in
    let minus : to_z w128 (of_z w128 (pos 0 -ℤ to_z w128 (of_z w128 c.from-factor.result))) ≡ neg_ℤ (pos c.args.at.now.cut) = omega (arith, ints, cut, few, c.from-factor.ensures) in
    let least : to_z w128 (of_z w128 c.payment-paid.result) ≡ num_over c.args.at.now.cut (fraction_at c.args.at.now.payments c.args.bidder) =
    omega (arith, ints, c.payment-paid.ensures.value, c.payment-paid.ensures.low, c.payment-paid.ensures.high) in
    let less : to_z w128 (of_z w128 (pos 0 -ℤ to_z w128 (of_z w128 c.payment-paid.result))) ≡ neg_ℤ (num_over c.args.at.now.cut (fraction_at c.args.at.now.payments c.args.bidder)) =
    omega (arith, ints, c.payment-paid.ensures.value, c.payment-paid.ensures.low, c.payment-paid.ensures.high) in
    let rows = bidder-rows c.args.trade.now c.args.at.now c.args.bidder c.at.inside.cut c.args.program.now (to_z w128 (of_z w128 c.from-factor.result)) (to_z w128 (of_z w128 (pos 0 -ℤ to_z w128 (of_z w128 c.from-factor.result)))) (to_z w128 (of_z w128 c.payment-paid.result)) (to_z w128 (of_z w128 (pos 0 -ℤ to_z w128 (of_z w128 c.payment-paid.result)))) cut factor minus least less in
    on_ok-map c.add_set-2.result
    (λ (e : c.add_set-2.new.program ≡ with_rows c.add_set.new.program (set_row c.args.trade.now c.args.bidder c.at.inside.cut (to_z w128 (of_z w128 (pos 0 -ℤ to_z w128 (of_z w128 c.from-factor.result)))) (to_z w128 (of_z w128 (pos 0 -ℤ to_z w128 (of_z w128 c.payment-paid.result)))) ∷ [])).
    e ∙ ap (λ (p : Program). with_rows p (set_row c.args.trade.now c.args.bidder c.at.inside.cut (to_z w128 (of_z w128 (pos 0 -ℤ to_z w128 (of_z w128 c.from-factor.result)))) (to_z w128 (of_z w128 (pos 0 -ℤ to_z w128 (of_z w128 c.payment-paid.result)))) ∷ [])) c.in_ok-add_set.ensures ∙ rows) c.add_set-2.ensures
