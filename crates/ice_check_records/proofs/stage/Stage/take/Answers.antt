use Rattle.std.proofs.Common.{rules, ◌≡◌, suc, refl, sym, subst}
use Rattle.ice_journal.specs.Lines.{record_of}
use Rattle.ice_journal_laws.specs.Progress.{passing, failed}
use Rattle.ice_check_records.specs.declared.groups.Groups.{Groups}
use Rattle.ice_check_records.specs.declared.stage.Stage.{Stage}
use Rattle.ice_check_records.specs.Taking.{failure_at, IsTaken, Fails}
use Rattle.ice_check_records.specs.Stages.{IsProgress}
use Rattle.ice_check_records.proofs.Staged.{goes_behind, fails_behind, stays_put}
use Rattle.ice_check_records.proofs.stage.Stage.take.Goals as goal

pub returns-in-Err-clause-after : goal.returns-in-Err-clause-after
returns-in-Err-clause-after c = λ p is.
    let g = c.in-Behind.groups.value in
    let r = record_of c.args.line.now in
    let n = c.args.number in
    let fault = c.in-Err.fault in
    let same : c.deref_mut.result.now ≡ g = search rules in
    let fails : Fails g.next g r fault = subst (λ (x : Groups). Fails x.next x r fault) same c.in-Err.ensures in
    record {
      after = failed (failure_at n fault);
      leads = fails_behind g r fault n p fails (subst (λ (s : Stage). IsProgress n s p) c.in-Behind.is is);
      stands = subst (λ (s : Stage). IsProgress (suc n) s (failed (failure_at n fault))) (sym c.failed.ensures) refl;
    }

pub returns-in_default-clause-after : goal.returns-in_default-clause-after
returns-in_default-clause-after c = λ p is.
    let g = c.in-Behind.groups.value in
    let r = record_of c.args.line.now in
    let n = c.args.number in
    let after = c.take.new.self in
    let same : c.deref_mut.result.now ≡ g = search rules in
    let taken : IsTaken g.next g r after = subst (λ (x : Groups). IsTaken x.next x r after) same c.in_default.ensures in
    let x = goes_behind g after r n p taken (subst (λ (s : Stage). IsProgress n s p) c.in-Behind.is is) in
    record { after = passing x.state; leads = x.leads; stands = (x.state, refl, x.line, x.stands) }

pub returns-in-OtherKind-2-clause-after : goal.returns-in-OtherKind-2-clause-after
returns-in-OtherKind-2-clause-after c = λ p is. stays_put c.args.number c.args.self.now p (record_of c.args.line.now) c.in-OtherKind.is is
