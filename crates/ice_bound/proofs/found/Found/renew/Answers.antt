use Rattle.std.proofs.Common.{rules, ◌<◌, length, get_or-set_same}
use Rattle.ice_bound.proofs.Tables.{other_table}
use Rattle.ice_bound.proofs.found.Found.renew.Goals as goal

pub find-requires-clause-table : goal.find-requires-clause-table
find-requires-clause-table c =
    let there : c.args.bidder < length c.args.self.now.tables.items = search rules in (
      c.args.weights.now,
      c.args.m.now,
      c.args.fixing.now,
      λ d. other_table c.args.tree.now c.args.weights.now c.args.m.now c.args.fixing.now _ c.fill.new.self (get_or-set_same c.args.self.now.tables.items c.args.bidder c.fill.new.self d there) c.fill.ensures,
    )

pub returns-clause-renewed : goal.returns-clause-renewed
returns-clause-renewed c =
    let there : c.args.bidder < length c.args.self.now.tables.items = search rules in
    c.find.ensures.renewed c.args.weights.now c.args.m.now c.args.fixing.now
    (λ d. other_table c.args.tree.now c.args.weights.now c.args.m.now c.args.fixing.now _ c.fill.new.self
    (get_or-set_same c.args.self.now.tables.items c.args.bidder c.fill.new.self d there) c.fill.ensures)
