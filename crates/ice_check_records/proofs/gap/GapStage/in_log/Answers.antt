use Rattle.std.proofs.Common.{rules, ◌≡◌, ℤ, Bool, true, false, refl, sym, ◌∙◌, ap, subst}
use Rattle.std.proofs.lemmas.Int.{to_z-of_z}
use mir.Syntax.{w128}
use mir.Val.{SFits, to_z, of_z}
use Rattle.ice_journal.specs.Lines.{record_of}
use Rattle.ice_check_offer.specs.declared.fault.Fault.{Fault}
use Rattle.ice_check_records.specs.declared.gap.GapStage.{GapStage}
use Rattle.ice_check_records.specs.declared.groups.Groups.{Groups}
use Rattle.ice_check_records.specs.Taking.{failure_at}
use Rattle.ice_check_records.specs.Gaps.{failed_gap, TakesGapFurther, WalksOn, StopsAt}
use Rattle.ice_check_records.proofs.Gapping.{log_closes, log_goes, log_fails, log_kept, step_ready}
use Rattle.ice_check_records.proofs.gap.GapStage.in_log.Goals as goal

pub returns-in-Ok-true-clause-leads : goal.returns-in-Ok-true-clause-leads
returns-in-Ok-true-clause-leads c = λ p is.
    let g = c.args.groups.value in
    let r = record_of c.args.line.now in
    let after = c.take_aimed.new.self in
    let same : c.deref_mut.result.now ≡ g = search rules in
    let fits : SFits w128 c.args.spent.bound = search rules in
    let w : WalksOn c.args.spent.bound g r true after =
    subst (λ (x : Groups). WalksOn c.args.spent.bound x r true after) same
    (subst (λ (z : ℤ). WalksOn z c.deref_mut.result.now r true after) (to_z-of_z w128 c.args.spent.bound fits)
    (subst (λ (b : Bool). WalksOn (to_z w128 (of_z w128 c.args.spent.bound)) c.deref_mut.result.now r b after) c.in-Ok-true.field-0-test c.in-Ok-true.ensures)) in
    let ready = step_ready g c.requires.log.0 c.requires.log.1 c.requires.ready in
    log_closes c.args.number c.args.spent g r c.requires.log.0 c.requires.log.1 c.requires.kept ready.0 ready.1 p is after true w refl

pub returns-in-Ok-false-clause-leads : goal.returns-in-Ok-false-clause-leads
returns-in-Ok-false-clause-leads c = λ p is.
    let g = c.args.groups.value in
    let r = record_of c.args.line.now in
    let after = c.take_aimed.new.self in
    let same : c.deref_mut.result.now ≡ g = search rules in
    let fits : SFits w128 c.args.spent.bound = search rules in
    let w : WalksOn c.args.spent.bound g r false after =
    subst (λ (x : Groups). WalksOn c.args.spent.bound x r false after) same
    (subst (λ (z : ℤ). WalksOn z c.deref_mut.result.now r false after) (to_z-of_z w128 c.args.spent.bound fits)
    (subst (λ (b : Bool). WalksOn (to_z w128 (of_z w128 c.args.spent.bound)) c.deref_mut.result.now r b after) c.in-Ok-false.field-0-test c.in-Ok-false.ensures)) in
    let ready = step_ready g c.requires.log.0 c.requires.log.1 c.requires.ready in
    let x = log_goes c.args.number c.args.spent g r c.requires.log.0 c.requires.log.1 c.requires.kept ready.0 ready.1 p is after false w refl in
    record { after = x.after; leads = x.leads; stands = x.stands }

pub returns-in-Ok-false-clause-kept : goal.returns-in-Ok-false-clause-kept
returns-in-Ok-false-clause-kept c =
    let g = c.args.groups.value in
    let r = record_of c.args.line.now in
    let after = c.take_aimed.new.self in
    let target : ℤ = to_z w128 (of_z w128 c.args.spent.bound) in
    let same : c.deref_mut.result.now ≡ g = search rules in
    let w : WalksOn target g r false after =
    subst (λ (x : Groups). WalksOn target x r false after) same
    (subst (λ (b : Bool). WalksOn target c.deref_mut.result.now r b after) c.in-Ok-false.field-0-test c.in-Ok-false.ensures) in
    let ready = step_ready g c.requires.log.0 c.requires.log.1 c.requires.ready in
    log_kept target g after r c.requires.log.0 c.requires.log.1 c.requires.kept ready.0 w

pub returns-in-Err-clause-leads : goal.returns-in-Err-clause-leads
returns-in-Err-clause-leads c = λ p is.
    let n = c.args.number in
    let g = c.args.groups.value in
    let r = record_of c.args.line.now in
    let same : c.deref_mut.result.now ≡ g = search rules in
    let fits : SFits w128 c.args.spent.bound = search rules in
    let stops : StopsAt c.args.spent.bound g r c.in-Err.fault =
    subst (λ (x : Groups). StopsAt c.args.spent.bound x r c.in-Err.fault) same
    (subst (λ (z : ℤ). StopsAt z c.deref_mut.result.now r c.in-Err.fault) (to_z-of_z w128 c.args.spent.bound fits) c.in-Err.ensures) in
    let ready = step_ready g c.requires.log.0 c.requires.log.1 c.requires.ready in
    subst (λ (s : GapStage). TakesGapFurther n s p r) (sym (c.failed.ensures ∙ ap (λ (f : Fault). failed_gap (failure_at n f)) stops.1))
    (log_fails n c.args.spent g r c.requires.log.0 c.requires.log.1 c.requires.kept ready.0 ready.1 p is stops.0 stops.2)
