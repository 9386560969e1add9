use Rattle.std.proofs.Common.{◌≡◌, false, sym, subst, rules}
use Rattle.std.specs.Prelude.{is_some}
use Rattle.ice_section.specs.Kept.{IsHeld}
use Rattle.ice_section.proofs.HeldSections.{held_settings}
use Rattle.ice_section.proofs.section.Section.take_settings.Goals as goal
use Rattle.std.proofs.Common.{Some}

pub invariant_of-self : goal.invariant_of-self
invariant_of-self c =
    let none : is_some c.self.inside.maker ≡ false = search rules in
    subst (λ m. IsHeld (Some m) c.self.inside.draft) (sym c.in-Ok.ensures) (held_settings c.self.inside.maker c.self.inside.draft c.args.settings.now c.self.invariant none c.requires)
