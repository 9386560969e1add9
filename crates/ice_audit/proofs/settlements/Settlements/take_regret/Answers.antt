use Rattle.std.proofs.Common.{rules, ℤ, sym, subst}
use Rattle.std.proofs.lemmas.Int.{to_z-of_z}
use mir.Syntax.{w64}
use mir.Val.{SFits}
use Rattle.ice_journal.specs.Records as line
use Rattle.ice_statement_laws.specs.Statement.{shown}
use Rattle.ice_audit.specs.declared.next.Next.TheVariants as next
use Rattle.ice_audit.specs.Taking.{GoesOn}
use Rattle.ice_audit.proofs.Stepping.{regret_taken}
use Rattle.ice_audit.proofs.settlements.Settlements.take_regret.Goals as goal

pub returns-in-Regret : goal.returns-in-Regret
returns-in-Regret c =
    let x = c.args.self.now in
    let fits : SFits w64 c.args.amount = search rules in
    subst (λ (a : ℤ). GoesOn x (shown (line.regret c.args.amount)) (record x { next = next.Kept a })) (sym (to_z-of_z w64 c.args.amount fits))
    (regret_taken x c.args.amount c.in-Regret.is c.requires.kept)
