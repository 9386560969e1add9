use Rattle.std.proofs.Common.{sym, subst}
use Rattle.ice_journal.specs.Lines.{record_of}
use Rattle.ice_journal_laws.specs.declared.rule.Rule.TheVariants as rule
use Rattle.ice_journal_laws.proofs.Settling.{passed}
use Rattle.ice_check_offer.specs.declared.fault.Fault.TheVariants.{Here}
use Rattle.ice_check_records.specs.declared.next.Next.{Next}
use Rattle.ice_check_records.specs.declared.next.Next.TheVariants as coming
use Rattle.ice_check_records.specs.Groups.{known_in}
use Rattle.ice_check_records.specs.Taking.{Fails}
use Rattle.ice_check_records.proofs.groups.Groups.take.Goals as goal

pub returns-in-Nothing : goal.returns-in-Nothing
returns-in-Nothing c =
    let g = c.args.self.now in
    let r = record_of c.args.line.now in
    subst (λ (now : Next). Fails now g r (Here rule.Order)) (sym c.in-Nothing.is) (λ s quiet. passed (known_in g coming.Nothing s) r)
