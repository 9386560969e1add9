use Rattle.std.proofs.Common.{◌≡◌, ◌∙◌, length, sym}
use Rattle.ice_defs.proofs.Weights.{length-perturbed_list, weight_of-perturbed_list}
use Rattle.ice_best_at_prices.proofs.Modest.{perturbed-modest}
use Rattle.ice_rules.proofs.profiles.against.Goals as goal

pub returns-clause-values : goal.returns-clause-values
returns-clause-values c =
    let b = c.args.bounds.now in
    let are = c.len-nodes.ensures.bounds in
    let same : length b.hi ≡ length b.lo = are.hi_count ∙ sym are.lo_count in
    rw c.perturbed.ensures (record {
      nodes = length-perturbed_list c.args.set.now b.lo b.hi same;
      each = λ n h. weight_of-perturbed_list c.args.set.now b.lo b.hi n same h;
    })

pub returns-clause-small : goal.returns-clause-small
returns-clause-small c = rw c.perturbed.ensures (perturbed-modest c.args.set.now (length c.args.bounds.now.lo) c.args.bounds.now c.len-nodes.ensures.bounds)
