-- What the records of a charge state.
use Rattle.ice_defs.specs.Session.{Payment}
use Rattle.ice_journal.specs.Lines.{fraction_of}
use Rattle.ice_journal.specs.Records.{Record}
use Rattle.ice_journal.specs.Records as line
use Rattle.ice_journal_laws.specs.Fields.{Closing}
use Rattle.ice_check_charge.specs.declared.lines.StatedCut.{StatedCut}
use Rattle.ice_check_charge.specs.declared.lines.StatedPayment.{StatedPayment}

abbrev pub closing_of : StatedCut → Closing
closing_of x = record { cut = fraction_of x.cut; surplus = fraction_of x.surplus }

abbrev pub cut_record : StatedCut → Record
cut_record x = line.threshold (fraction_of x.cut) (fraction_of x.surplus)

abbrev pub payment_of : StatedPayment → Payment
payment_of x = record { name = x.name.now; vickrey = x.vickrey; discount = fraction_of x.discount; payment = fraction_of x.payment }

abbrev pub payment_record : StatedPayment → Record
payment_record x = line.payment x.name.now x.vickrey (fraction_of x.discount) (fraction_of x.payment)
