use Rattle.std.proofs.Common.{subst}
use Rattle.ice_edge.specs.Puts.{IsPut}
use Rattle.ice_statement_laws.specs.Texts.{bytes_of_lines}
use Rattle.ice_statement_laws.proofs.Gathered.{gathered_is_statement}
use Rattle.ice_statement.proofs.putting.put_statement.Goals as goal

pub returns : goal.returns
returns g c = λ journal own is own_is.
    subst (λ lines. IsPut (bytes_of_lines lines) c.put_lines.result (g.K.Sink.taken c.args.out.now) (g.K.Sink.taken c.put_lines.new.out))
    (gathered_is_statement journal c.args.name.now own own_is) (c.put_lines.ensures journal is)
