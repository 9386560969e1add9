use Rattle.ice_journal.specs.Lines.{record_of}
use Rattle.ice_last.proofs.Watched.{session_goes}
use Rattle.ice_last.proofs.watch.after_more.Goals as goal

pub returns : goal.returns
returns c = λ records h.
    session_goes (record_of c.args.line.now) c.args.payments.items c.take_payment.new.payments.items records c.in_ok-take_payment.ensures h.0 h.1
