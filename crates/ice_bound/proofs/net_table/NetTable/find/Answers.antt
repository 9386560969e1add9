use Rattle.ice_bound.proofs.Tables.{small_of_table, found_by_table, nodes_by_table}
use Rattle.ice_bound.proofs.net_table.NetTable.find.Goals as goal

pub returns-clause-found : goal.returns-clause-found
returns-clause-found c = λ w m x is.
    let t = c.args.tree.now in
    let weights = c.args.self.now.nets.weights in
    found_by_table t w m x c.args.self.now is c.greatest.result c.best_set.new.out (c.greatest.ensures.some t weights x is.entries) (c.greatest.ensures.none t weights x is.entries)
    (c.best_set.ensures.set weights x is.entries)

pub returns-clause-small : goal.returns-clause-small
returns-clause-small c = λ w m x is.
    small_of_table c.args.tree.now w m x c.args.self.now is c.greatest.result (c.greatest.ensures.some c.args.tree.now c.args.self.now.nets.weights x is.entries)

pub returns-clause-nodes : goal.returns-clause-nodes
returns-clause-nodes c = λ w m x is.
    let t = c.args.tree.now in
    let weights = c.args.self.now.nets.weights in
    nodes_by_table t w m x c.args.self.now is c.greatest.result c.best_set.new.out (c.greatest.ensures.some t weights x is.entries) (c.best_set.ensures.set weights x is.entries)
    (c.greatest.ensures.none t weights x is.entries) (c.best_set.ensures.empty weights x is.entries)
