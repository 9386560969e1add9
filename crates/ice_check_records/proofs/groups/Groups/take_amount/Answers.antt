use Rattle.ice_journal.specs.Lines.{record_of}
use Rattle.ice_check_records.specs.declared.next.Next.TheVariants as coming
use Rattle.ice_check_records.specs.Groups.{known_in}
use Rattle.ice_journal_laws.proofs.Settling.{amount_missing}
use Rattle.ice_check_records.proofs.groups.Groups.take_amount.Goals as goal

pub returns-in-None : goal.returns-in-None
returns-in-None c =
    let g = c.args.self.now in
    λ s quiet. amount_missing (known_in g coming.Amount s) (record_of c.args.line.now) c.in-None.ensures
