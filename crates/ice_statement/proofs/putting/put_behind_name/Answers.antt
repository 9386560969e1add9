use Rattle.std.proofs.lemmas.Result.{err_from_is_err_and}
use Rattle.ice_edge.proofs.Puts.{then_put}
use Rattle.ice_statement_laws.specs.Statement.{ended}
use Rattle.ice_statement_laws.specs.Texts.{line_text, bytes_of_lines}
use Rattle.ice_statement_laws.specs.Gathering.{new_gathering, lines_gathered}
use Rattle.ice_statement.proofs.Puts.{fails_first}
use Rattle.ice_statement.proofs.putting.put_behind_name.Goals as goal

pub returns-in_err-put_gathered : goal.returns-in_err-put_gathered
returns-in_err-put_gathered g c = λ journal is.
    let p = err_from_is_err_and c.from_residual.result c.from_residual.ensures.1 in
    fails_first (bytes_of_lines (lines_gathered (new_gathering c.args.name.now) journal)) (line_text ended) c.from_residual.result p.0 p.1 (c.in_err-put_gathered.ensures journal is)

pub returns : goal.returns
returns g c = λ journal is.
    then_put (bytes_of_lines (lines_gathered (new_gathering c.args.name.now) journal)) (line_text ended) c.put_ended.result (g.K.Sink.taken c.put_ended.new.out) (c.in_ok-put_gathered.ensures journal is) c.put_ended.ensures
