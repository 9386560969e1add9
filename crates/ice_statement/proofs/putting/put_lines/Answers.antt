use Rattle.std.proofs.Common.{sym, subst, ◌++◌}
use Rattle.std.proofs.lemmas.Result.{err_from_is_err_and}
use Rattle.ice_edge.specs.Puts.{IsPut}
use Rattle.ice_edge.proofs.Puts.{then_put}
use Rattle.ice_statement_laws.specs.Statement.{named, ended}
use Rattle.ice_statement_laws.specs.Texts.{line_text, bytes_of_lines}
use Rattle.ice_statement_laws.specs.Gathering.{new_gathering, lines_gathered}
use Rattle.ice_statement.proofs.Puts.{fails_first}
use Rattle.ice_statement.proofs.Gathers.{parts_of_all}
use Rattle.ice_statement.proofs.putting.put_lines.Goals as goal

pub returns-in_err-put_named : goal.returns-in_err-put_named
returns-in_err-put_named g c = λ journal is.
    let p = err_from_is_err_and c.from_residual.result c.from_residual.ensures.1 in
    subst (λ t. IsPut t c.from_residual.result (g.K.Sink.taken c.args.out.now) (g.K.Sink.taken c.put_named.new.out)) (sym (parts_of_all c.args.name.now journal))
    (fails_first (line_text (named c.args.name.now)) (bytes_of_lines (lines_gathered (new_gathering c.args.name.now) journal) ++ line_text ended) c.from_residual.result p.0 p.1 c.in_err-put_named.ensures)

pub returns : goal.returns
returns g c = λ journal is.
    subst (λ t. IsPut t c.put_behind_name.result (g.K.Sink.taken c.args.out.now) (g.K.Sink.taken c.put_behind_name.new.out)) (sym (parts_of_all c.args.name.now journal))
    (then_put (line_text (named c.args.name.now)) (bytes_of_lines (lines_gathered (new_gathering c.args.name.now) journal) ++ line_text ended) c.put_behind_name.result (g.K.Sink.taken c.put_behind_name.new.out) c.in_ok-put_named.ensures (c.put_behind_name.ensures journal is))
