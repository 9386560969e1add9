use Rattle.std.proofs.Common.{refl, sym, subst}
use Rattle.ice_journal.specs.Records as line
use Rattle.ice_verdicts.specs.Judges.{IsRoundOf}
use Rattle.ice_statement_laws.specs.Statement.{shown}
use Rattle.ice_audit.specs.declared.next.Next.TheVariants as next
use Rattle.ice_audit.specs.declared.settlements.Settlements.{Settlements}
use Rattle.ice_audit.specs.Taking.{GoesOn}
use Rattle.ice_audit.proofs.Judged.{settlement_taken}
use Rattle.ice_audit.proofs.settlements.Settlements.begin_next.Goals as goal

pub returns : goal.returns
returns c =
    let x = c.args.self.now in
    subst (λ (y : Settlements). GoesOn x (shown (line.settle c.args.number)) (record y { number = c.args.number; next = next.Regret })) (sym c.keep_bounds.ensures.judge)
    (settlement_taken x c.requires.kept c.args.number _ c.requires.next c.requires.follows refl (subst (λ (y : Settlements). IsRoundOf x.exchange y.judge) c.keep_bounds.ensures.judge c.keep_bounds.ensures.round))
