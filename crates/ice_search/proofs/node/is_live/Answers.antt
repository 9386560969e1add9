use Rattle.ice_mult.proofs.Found.{sum_is_live}
use Rattle.ice_search.proofs.Splitting.{dead_is_not}
use Rattle.ice_search.proofs.node.is_live.Goals as goal

pub returns-in-Sum-clause-yes : goal.returns-in-Sum-clause-yes
returns-in-Sum-clause-yes c is = sum_is_live c.args.kept.now.trees c.args.kept.now.weights c.args.kept.now.multipliers c.args.kept.now.marks c.in-Sum.field-0 c.in-Sum.ensures.answer

pub returns-in-Dead-clause-no : goal.returns-in-Dead-clause-no
returns-in-Dead-clause-no c isnt = dead_is_not c.args.kept.now.trees c.args.kept.now.marks c.in-Dead.field-0 c.in-Dead.ensures.answer
