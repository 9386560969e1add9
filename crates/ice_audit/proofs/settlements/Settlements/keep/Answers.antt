use Rattle.std.proofs.Common.{rules, ℤ, sym, subst, refl, ap, ◌∙◌}
use Rattle.std.proofs.lemmas.Int.{to_z-of_z}
use mir.Syntax.{w64}
use mir.Val.{SFits}
use Rattle.ice_defs.specs.Session.{closes}
use Rattle.ice_statement_laws.specs.Statement.{kept}
use Rattle.ice_audit.specs.declared.next.Next.{Next}
use Rattle.ice_audit.specs.Standing.{behind_kept}
use Rattle.ice_audit.specs.Taking.{GoesOn}
use Rattle.ice_audit.proofs.Stepping.{kept_taken}
use Rattle.ice_audit.proofs.settlements.Settlements.keep.Goals as goal

pub returns : goal.returns
returns c =
    let x = c.args.self.now in
    let fits : SFits w64 c.args.regret = search rules in
    subst (λ (n : Next). GoesOn x (kept c.args.set.now) (record x { kept = c.args.set.now; next = n }))
    (sym (c.behind_kept-self.ensures ∙ ap (λ (a : ℤ). behind_kept (closes x.exchange.settings x.number a)) (to_z-of_z w64 c.args.regret fits)))
    (kept_taken x c.args.regret c.args.set.now c.requires.next c.requires.kept c.requires.satisfied (closes x.exchange.settings x.number c.args.regret) refl)
