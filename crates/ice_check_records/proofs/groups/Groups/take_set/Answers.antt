use Rattle.ice_journal.specs.Lines.{record_of}
use Rattle.ice_check_records.specs.declared.next.Next.TheVariants as coming
use Rattle.ice_check_records.specs.Groups.{at_hand, known_in}
use Rattle.ice_journal_laws.proofs.Sets.{set_missing}
use Rattle.ice_check_records.proofs.groups.Groups.take_set.Goals as goal

pub returns-in-None : goal.returns-in-None
returns-in-None c =
    let g = c.args.self.now in
    λ s quiet. set_missing (known_in g (coming.Set c.args.group) s) c.args.group (at_hand g) (record_of c.args.line.now) c.in-None.ensures
