use Rattle.std.proofs.Common.{rules, ◌∙◌, sym, subst}
use Rattle.ice_bound.specs.Tables.{IsNetTable}
use Rattle.ice_bound.proofs.found.Found.find.Goals as goal

pub put-requires-clause-nodes : goal.put-requires-clause-nodes
put-requires-clause-nodes c =
    let (w, m, x, is) = c.requires.table in
    let table : IsNetTable c.args.tree.now w m x c.index.result.now = subst (IsNetTable c.args.tree.now w m x) (sym c.index.ensures) (is c.index.result.now) in
    c.find-net.ensures.nodes w m x table ∙ sym c.requires.set

pub returns-clause-renewed : goal.returns-clause-renewed
returns-clause-renewed c = λ w m x is.
    let table : IsNetTable c.args.tree.now w m x c.index.result.now = subst (IsNetTable c.args.tree.now w m x) (sym c.index.ensures) (is c.index.result.now) in
    let found = c.find-net.ensures.found w m x table in
    let small = c.find-net.ensures.small w m x table in
    let nodes = c.find-net.ensures.nodes w m x table in
    search rules
