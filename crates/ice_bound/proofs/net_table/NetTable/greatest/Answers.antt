use Rattle.ice_bound.proofs.Tables.{net_of_table, small_of_table}
use Rattle.ice_bound.proofs.net_table.NetTable.greatest.Goals as goal

pub returns-clause-net : goal.returns-clause-net
returns-clause-net c = λ t w m x is.
    let weights = c.args.self.now.nets.weights in
    net_of_table t w m x c.args.self.now is c.greatest.result (c.greatest.ensures.some t weights x is.entries) (c.greatest.ensures.none t weights x is.entries)

pub returns-clause-small : goal.returns-clause-small
returns-clause-small c = λ t w m x is. small_of_table t w m x c.args.self.now is c.greatest.result (c.greatest.ensures.some t c.args.self.now.nets.weights x is.entries)
