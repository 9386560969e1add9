use Rattle.std.proofs.Common.{length, sym, subst, ap, ◌∙◌}
use Rattle.ice_defs.specs.Trade.{set_of}
use Rattle.ice_verdicts.specs.Judges.{Round, IsRoundOf}
use Rattle.ice_statement_laws.specs.Statement.{offered}
use Rattle.ice_audit.specs.declared.next.Next.TheVariants as next
use Rattle.ice_audit.specs.Taking.{GoesOn}
use Rattle.ice_audit.proofs.Tools.{first_set, one_set}
use Rattle.ice_audit.proofs.Stepping.{offered_taken, all_satisfied}
use Rattle.ice_audit.proofs.settlements.Settlements.offer.Goals as goal

pub offer-requires-clause-count : goal.offer-requires-clause-count
offer-requires-clause-count c = ap length c.put.ensures ∙ one_set c.args.self.now.offered c.args.set.now c.requires.kept.count ∙ sym c.requires.kept.one

pub offer-requires-clause-satisfied : goal.offer-requires-clause-satisfied
offer-requires-clause-satisfied c =
    all_satisfied c.args.self.now c.put.new.self c.args.set.now c.requires.kept c.requires.satisfied (ap (λ sets. set_of sets 0) c.put.ensures ∙ first_set c.args.self.now.offered c.args.set.now c.requires.kept.count)

pub returns : goal.returns
returns c =
    let x = c.args.self.now in
    subst (λ (r : Round). GoesOn x (offered c.args.set.now) (record x { offered = c.put.new.self; judge = r; next = next.Prices })) (sym c.offer.ensures.sets)
    (offered_taken x c.args.set.now c.put.new.self c.requires.next c.requires.kept c.requires.satisfied
    (ap length c.put.ensures ∙ one_set x.offered c.args.set.now c.requires.kept.count)
    (ap (λ sets. set_of sets 0) c.put.ensures ∙ first_set x.offered c.args.set.now c.requires.kept.count)
    (subst (IsRoundOf x.exchange) c.offer.ensures.sets c.offer.ensures.round))
