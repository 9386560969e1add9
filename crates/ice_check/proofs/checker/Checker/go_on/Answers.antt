use Rattle.std.proofs.Common.{refl, sym, subst}
use Rattle.ice_check.specs.declared.begun.Begun.{Begun}
use Rattle.ice_check.specs.Standing.{Checking, StandsFor, IsTextOf}
use Rattle.ice_check.proofs.Standing.{line_goes_on}
use Rattle.ice_check.proofs.checker.Checker.go_on.Goals as goal

pub returns-clause-after : goal.returns-clause-after
returns-clause-after c = λ bytes h.
    line_goes_on _ _ bytes c.args.text.now c.requires.one_line refl refl
    (λ text is. c.push.ensures text (subst (λ (b : Begun). IsTextOf b text) (sym c.deref_mut.ensures.value) is))
    (subst (λ (v : Checking). StandsFor v bytes) (sym c.self.view_is) h)
