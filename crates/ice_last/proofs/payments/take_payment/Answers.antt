use Rattle.std.proofs.Common.{subst}
use Rattle.ice_journal.specs.declared.line.Line.{Line}
use Rattle.ice_journal.specs.Lines.{record_of, fraction_of}
use Rattle.ice_journal.specs.Ranges.{IsRecord}
use Rattle.ice_last.proofs.Watched.{payment_lowest}
use Rattle.ice_last.proofs.payments.take_payment.Goals as goal

pub push_payment-requires : goal.push_payment-requires
push_payment-requires c =
    payment_lowest c.in-Payment.name c.in-Payment.vickrey (fraction_of c.in-Payment.discount) (fraction_of c.in-Payment.payment)
    (subst (λ (l : Line). IsRecord (record_of l)) c.in-Payment.is c.requires)
