use Rattle.std.proofs.Common.{◌∙◌, ℤ, ap, rules}
use Rattle.std.proofs.lemmas.Int.{to_z-of_z}
use mir.Syntax.{w64}
use mir.Val.{SFits}
use Rattle.ice_derivation.specs.Walks.{with_one}
use Rattle.ice_derivation.proofs.Standing.{closed_kept}
use Rattle.ice_derivation.proofs.derivations.Derivations.leave_step.Goals as goal

pub returns-then-is_closed-clause-kept : goal.returns-then-is_closed-clause-kept
returns-then-is_closed-clause-kept c =
    let d = c.args.self.now in
    let fits : SFits w64 c.args.self.now.limit = search rules in
    closed_kept c.args.trees.now d c.push.new.self
    (c.push.ensures ∙ ap (λ (z : ℤ). with_one d.walk (record { amounts = d.amounts; limit = z })) (to_z-of_z w64 d.limit fits))
    c.requires.of c.requires.log (c.is_closed.ensures.0 c.if-is_closed.true)
