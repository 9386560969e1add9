use Rattle.std.proofs.Common.{◌<◌, length, subst, arith}
use Rattle.ice_defs.specs.Tree.{Tree}
use Rattle.ice_defs.specs.Exchange.{trees_of}
use Rattle.ice_check_offer.specs.Broken.{IsBroken}
use Rattle.ice_check_offer.proofs.Breaking.{broken_there}
use Rattle.ice_check_offer.proofs.rows.broken_row.Goals as goal

pub returns : goal.returns
returns c =
    let ts = trees_of c.args.exchange.now in
    let x = c.args.set.now in
    let there : c.args.bidder < length ts = omega arith in
    broken_there ts c.args.bidder x c.broken_rule.result there
    (subst (λ (t : Tree). IsBroken t x c.broken_rule.result) c.tree.ensures c.broken_rule.ensures)
