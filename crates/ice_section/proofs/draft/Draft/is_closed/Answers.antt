use Rattle.std.proofs.Common.{length, ap, sym, ◌∙◌, eqb}
use Rattle.ice_section.proofs.KeptNodes.{closed_when}
use Rattle.ice_section.proofs.draft.Draft.is_closed.Goals as goal

pub returns : goal.returns
returns c =
    c.is_empty.ensures
    ∙ ap (λ n. eqb n 0) (sym (closed_when c.self.inside.maker.draft.tree c.self.inside.maker.draft.opened c.self.inside.to_come.items c.self.invariant) ∙ ap (λ d. length d.draft.opened) c.self.view_is)
