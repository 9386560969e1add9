use Rattle.std.proofs.Common.{rules, ◌≡◌, sym, subst}
use Rattle.ice_journal.specs.Lines.{record_of}
use Rattle.ice_check_records.specs.declared.groups.Groups.{Groups}
use Rattle.ice_check_records.specs.Taking.{IsTaken, Fails}
use Rattle.ice_check_records.specs.Gaps.{LeadsInside}
use Rattle.ice_check_records.proofs.Gapping.{sets_pass, sets_fail}
use Rattle.ice_check_records.proofs.gap.GapStage.in_sets.Goals as goal

pub returns-in-Ok-clause-leads : goal.returns-in-Ok-clause-leads
returns-in-Ok-clause-leads c = λ p is.
    let g = c.args.groups.value in
    let r = record_of c.args.line.now in
    let same : c.deref_mut.result.now ≡ g = search rules in
    let taken : IsTaken g.next g r c.take.new.self = subst (λ (x : Groups). IsTaken x.next x r c.take.new.self) same c.in-Ok.ensures in
    let x = sets_pass c.args.number c.args.spent g c.take.new.self r c.requires.sets.0 c.requires.sets.1 taken p is in
    record { after = x.after; leads = x.leads; stands = x.stands }

pub returns-in-Err-clause-leads : goal.returns-in-Err-clause-leads
returns-in-Err-clause-leads c =
    let g = c.args.groups.value in
    let r = record_of c.args.line.now in
    let same : c.deref_mut.result.now ≡ g = search rules in
    let fails : Fails g.next g r c.in-Err.fault = subst (λ (x : Groups). Fails x.next x r c.in-Err.fault) same c.in-Err.ensures in
    subst (LeadsInside c.args.number c.args.spent g r) (sym c.failed.ensures) (sets_fail c.args.number c.args.spent g r c.in-Err.fault c.requires.sets.0 c.requires.sets.1 fails)
