use Rattle.std.proofs.Common.{◌≡◌, ◌<◌, ◌≤◌, ◌^◌, length, get_or, ap, arith, rules}
use Rattle.std.proofs.lemmas.List.Elements.{All-from_recursion}
use Rattle.ice_defs.specs.Rows.{Row, IsRow}
use Rattle.ice_pricing.proofs.Summing.{summed-more}
use Rattle.ice_pricing.proofs.certificate.Certificate.sums.Goals as goal

pub loop-row-preserved : goal.loop-row-preserved
loop-row-preserved c =
    let there : c.loop-row.row-index < length c.args.self.now.rows = search rules in
    let read : c.row-item.result ≡ get_or c.args.self.now.rows c.loop-row.row-index c.row-item.result = search rules in
    let each = All-from_recursion (λ (row : Row). row.weight ≤ 2 ^ 32) c.args.self.now.rows c.requires.weights_fit c.loop-row.row-index c.row-item.result there in
    let most : c.row-item.result.weight ≤ 2 ^ 32 = omega (arith, each, ap (λ (row : Row). row.weight) read) in
    let is : IsRow c.args.trade.now.trees c.args.trade.now.weights c.args.trade.now.sets c.row-item.result = search rules in
    summed-more c.args.trade.now c.args.self.now.rows c.loop-row.row-index c.row-item.result c.loop-row.sums c.add_to.new.sums there read most c.loop-row.invariant is c.add_to.ensures
