use Rattle.std.proofs.Common.{sym, subst}
use Rattle.ice_journal.specs.Lines.{record_of}
use Rattle.ice_check_records.specs.declared.next.Next.{Next}
use Rattle.ice_check_records.specs.declared.next.Next.TheVariants as coming
use Rattle.ice_check_records.specs.Taking.{IsTaken}
use Rattle.ice_check_records.proofs.Ending.{payment_taken}
use Rattle.ice_check_records.proofs.groups.Groups.take_payment.Goals as goal

pub returns : goal.returns
returns c =
    let g = c.args.self.now in
    let r = record_of c.args.line.now in
    subst (λ (m : Next). IsTaken (coming.Payment c.args.bidder) g r (record g { next = m })) (sym c.behind_payment-self.ensures)
    (payment_taken g r c.requires.kept c.requires.ready.0 c.args.bidder c.requires.ready.1 c.in_ok-pay.ensures)
