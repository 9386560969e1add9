use Rattle.std.proofs.Common.{[], ◌∷◌, ◌++◌, codes}
use Rattle.std.proofs.lemmas.Result.{err_from_is_err_and}
use Rattle.ice_edge.proofs.Puts.{then_put}
use Rattle.ice_statement.proofs.Puts.{fails_first}
use Rattle.ice_statement.proofs.putting.put_named.Goals as goal

pub returns-in_err-put_word : goal.returns-in_err-put_word
returns-in_err-put_word g c =
    let p = err_from_is_err_and c.from_residual.result c.from_residual.ensures.1 in
    fails_first (codes "statement ") (c.args.name.now ++ 10 ∷ []) c.from_residual.result p.0 p.1 c.in_err-put_word.ensures

pub returns : goal.returns
returns g c =
    then_put (codes "statement ") (c.args.name.now ++ 10 ∷ []) c.put_name.result (g.K.Sink.taken c.put_name.new.out) c.in_ok-put_word.ensures c.put_name.ensures
