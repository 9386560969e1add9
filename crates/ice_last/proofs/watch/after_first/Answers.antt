use Rattle.std.proofs.Common.{sym, ◌∙◌}
use Rattle.std.proofs.lemmas.Bool.{false≢true}
use Rattle.ice_journal.specs.Lines.{record_of}
use Rattle.ice_last.proofs.Watched.{first_other}
use Rattle.ice_last.proofs.watch.after_first.Goals as goal

pub returns-else-is_session_head : goal.returns-else-is_session_head
returns-else-is_session_head c = first_other (record_of c.args.line.now) (λ is. false≢true (sym c.if-is_session_head.false ∙ c.is_session_head.ensures.1 is))
