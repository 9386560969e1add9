use Rattle.std.proofs.Common.{◌≡◌, ◌∙◌, map, ap}
use Rattle.ice_defs.specs.Lawful.{IsExchange}
use Rattle.ice_defs.specs.PricingRun.{num_over}
use Rattle.ice_defs.specs.Weighing.{weighted_weights}
use Rattle.ice_fair.proofs.Keeping.{kept-of}
use Rattle.ice_fair.proofs.last.Last.new.Goals as goal

pub invariant_of-result : goal.invariant_of-result
invariant_of-result c =
    let lawful : IsExchange c.args.exchange = c.bidders-bidders.ensures.lawful in
    let weights : c.in_ok-weights.weights ≡ weighted_weights c.args.exchange.settings.weight c.in_ok-low.low.items =
    c.in_ok-weights.ensures.value ∙ ap (weighted_weights c.args.exchange.settings.weight) c.deref.ensures.value in
    let nums : c.in_ok-nums.nums.items ≡ map (num_over c.args.cut) c.args.payments.items = c.in_ok-nums.ensures ∙ ap (map (num_over c.args.cut)) c.deref-2.ensures.value in
    kept-of c.args.exchange c.args.bounds.now c.in_ok-low.low.items c.in_ok-weights.weights c.args.sets c.args.payments.items c.args.cut c.in_ok-low.ensures.value weights c.in_ok-nums.nums.items
    lawful c.in_ok-low.ensures.bounds c.requires.count c.in_ok-weights.ensures.nodes c.in_ok-weights.ensures.modest c.requires.paid c.requires.cut c.requires.few c.requires.short nums
