use Rattle.std.proofs.Common.{◌≡◌, ◌∙◌, ap, sym, rules, arith, length, ℤ}
use Rattle.std.proofs.lemmas.Int.{to_z-of_z}
use mir.Syntax.{w128}
use mir.Val.{SFits}
use Rattle.ice_defs.specs.Sum.{sum_over}
use Rattle.ice_headline_laws.specs.Right.{own_values}
use Rattle.ice_headline_laws.proofs.OwnValues.{own_count, own_sum}
use Rattle.ice_trade.proofs.Weighted.{length-trees}
use Rattle.ice_round.proofs.payments.pay.Goals as goal

pub threshold-requires-clause-some : goal.threshold-requires-clause-some
threshold-requires-clause-some c =
    let values : c.deref.result.now ≡ own_values c.args.bounds.now c.args.best.now.best = c.deref.ensures.value ∙ c.in_ok-values.ensures.value in
    omega (arith, ap length values, own_count c.args.bounds.now c.args.best.now.best, c.requires.bounds.same_length, length-trees c.args.exchange.now, c.bidders-bidders.ensures.lawful.bidders_count.0)

pub threshold-requires-clause-few : goal.threshold-requires-clause-few
threshold-requires-clause-few c =
    let values : c.deref.result.now ≡ own_values c.args.bounds.now c.args.best.now.best = c.deref.ensures.value ∙ c.in_ok-values.ensures.value in
    omega (arith, ap length values, own_count c.args.bounds.now c.args.best.now.best, c.requires.bounds.same_length, length-trees c.args.exchange.now, c.bidders-bidders.ensures.lawful.bidders_count.1)

pub threshold-requires-clause-same_length : goal.threshold-requires-clause-same_length
threshold-requires-clause-same_length c =
    let values : c.deref.result.now ≡ own_values c.args.bounds.now c.args.best.now.best = c.deref.ensures.value ∙ c.in_ok-values.ensures.value in
    omega (arith, ap length values, own_count c.args.bounds.now c.args.best.now.best, c.requires.count, c.requires.bounds.same_length)

pub threshold-requires-clause-limited : goal.threshold-requires-clause-limited
threshold-requires-clause-limited c = c.requires.limited

pub threshold-requires-clause-summed : goal.threshold-requires-clause-summed
threshold-requires-clause-summed c =
    let values : c.deref.result.now ≡ own_values c.args.bounds.now c.args.best.now.best = c.deref.ensures.value ∙ c.in_ok-values.ensures.value in
    let total = c.args.best.now.value in
    let fits : SFits w128 total = search rules in
    rw (to_z-of_z w128 total fits)
    (ap (sum_over (λ (v : ℤ). v)) values ∙ own_sum c.args.bounds.now c.args.best.now.best (c.requires.feasible.same_length ∙ sym c.requires.bounds.same_length) ∙ c.requires.value)
