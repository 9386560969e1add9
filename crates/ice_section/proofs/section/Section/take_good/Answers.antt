use Rattle.std.proofs.Common.{◌≡◌, ◌≤◌, false, subst, rules}
use Rattle.std.specs.Prelude.{is_some}
use Rattle.ice_section.specs.Kept.{IsHeld}
use Rattle.ice_section.proofs.HeldSections.{held_good}
use Rattle.ice_section.proofs.section.Section.take_good.Goals as goal

pub invariant_of-self-2 : goal.invariant_of-self-2
invariant_of-self-2 c =
    let none : is_some c.self.inside.draft ≡ false = search rules in
    let before = subst (λ m. IsHeld m c.self.inside.draft) c.in-Some.is c.self.invariant in
    held_good c.add_good.result c.in-Some.maker c.add_good.new.maker c.self.inside.draft (record { name = c.args.name.now; exact = c.args.exact }) before
    (subst (λ n. n ≤ 0) c.bidders.ensures.value c.if-bidders-gt0.false) none c.add_good.ensures.name c.add_good.ensures.made c.add_good.ensures.unchanged
