use Rattle.std.proofs.Common.{[], ◌∷◌, ◌++◌, List, ℕ, sym, ◌∙◌, ap, subst, arith, append_assoc, length-append}
use Rattle.ice_check.specs.Standing.{StandsFor}
use Rattle.ice_check.proofs.Standing.{more_fed}
use Rattle.ice_check.proofs.checker.Checker.feed.Goals as goal

pub loop-text-preserved : goal.loop-text-preserved
loop-text-preserved c =
    let text = c.in-Some.text.now in
    more_fed c.args.piece.now c.loop-text.rest.now (text ++ 10 ∷ []) c.in-Some.after.now c.args.self.now c.loop-text.self c.end_line.new.self c.loop-text.invariant
    (c.in-Some.ensures.0 ∙ sym (append_assoc text (10 ∷ []) c.in-Some.after.now))
    (omega (arith, c.in_ok-end_line.ensures.count, length-append text (10 ∷ [])))
    c.in_ok-end_line.ensures.after c.in_ok-end_line.ensures.stays

pub returns-clause-after : goal.returns-clause-after
returns-clause-after c = λ bytes stands.
    let fed = c.loop-text.invariant in
    subst (λ (b : List ℕ). StandsFor c.go_on.new.self b) (append_assoc bytes fed.taken c.loop-text.rest.now ∙ ap (λ (l : List ℕ). bytes ++ l) (sym fed.parts))
    (c.go_on.ensures.after (bytes ++ fed.taken) (fed.stands bytes stands))
