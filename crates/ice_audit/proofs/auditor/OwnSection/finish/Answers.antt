use Rattle.std.proofs.Common.{false, length, map, replicate, ◌∙◌, ap, subst}
use Rattle.ice_defs.specs.Tree.{Tree}
use Rattle.ice_defs.specs.Exchange.{Exchange, trees_of, opening_bounds}
use Rattle.ice_section.specs.Section.{exchange_in}
use Rattle.ice_verdicts.specs.Judges.{IsRoundOf}
use Rattle.ice_audit.proofs.Sectioned.{settled}
use Rattle.ice_audit.proofs.auditor.OwnSection.finish.Goals as goal

pub returns-in-Ok-new : goal.returns-in-Ok-new
returns-in-Ok-new c =
    let x = c.in-Ok-new.settlements in
    let is = c.in-Ok.ensures.exchange ∙ ap exchange_in c.replace-section.ensures.value in
    settled c.args.self.now x c.requires.kept c.requires.complete
    (c.in-Ok-new.ensures.exchange ∙ is)
    (subst (λ (ex : Exchange). IsRoundOf ex x.judge) is c.in-Ok-new.ensures.round)
    (c.in-Ok-new.ensures.bounds ∙ ap opening_bounds is)
    (c.in-Ok-new.ensures.after ∙ ap opening_bounds is)
    (c.in-Ok-new.ensures.marks ∙ ap (λ (ex : Exchange). replicate (length ex.bidders) false) is)
    (c.in-Ok-new.ensures.offered ∙ ap (λ (ex : Exchange). map (λ (t : Tree). replicate (length t) false) (trees_of ex)) is)
    c.in-Ok-new.ensures.number c.in-Ok-new.ensures.next
