use Rattle.std.proofs.Common.{sym, subst}
use Rattle.ice_journal.specs.Lines.{record_of}
use Rattle.ice_check_records.specs.declared.head.Head.{Head}
use Rattle.ice_check_records.specs.Openings.{IsOpening}
use Rattle.ice_check_records.proofs.head.Head.opening.Goals as goal

pub returns-in-Session : goal.returns-in-Session
returns-in-Session c = subst (λ (h : Head). IsOpening h (record_of c.args.line.now) c.session_opening.result) (sym c.in-Session.is) (c.session_opening.ensures c.in-Session.field-0)
