use Rattle.std.proofs.Common.{sym, subst, arith}
use Rattle.std.specs.Prelude.{Some}
use Rattle.ice_tree.proofs.Satisfied.{set_fault-first}
use Rattle.ice_journal_laws.specs.declared.rule.Rule.{Rule}
use Rattle.ice_check_offer.specs.Broken.{IsBroken}
use Rattle.ice_check_offer.proofs.Breaking.{broken_by}
use Rattle.ice_check_offer.proofs.broken.broken_rule.Goals as goal

pub returns-in-Err : goal.returns-in-Err
returns-in-Err c =
    let t = c.args.tree.now in
    let s = c.args.set.now in
    let f = c.in-Err.fault in
    subst (λ (x : Rule). IsBroken t s (Some x)) (sym c.of.ensures)
    (broken_by t s f.rule (omega arith) (set_fault-first t s f.node f.rule c.in-Err.ensures.fault))
