use Rattle.std.proofs.Common.{◌≡◌, ◌<◌, length, ap, sym, ◌∙◌, subst}
use Rattle.std.proofs.lemmas.Bool.{false≢true, and_from, lt-ltb, eq-eqb}
use Rattle.ice_section.proofs.KeptNodes.{closed_when}
use Rattle.ice_section.proofs.draft.Draft.finish.Goals as goal

pub unreachable-requires : goal.unreachable-requires
unreachable-requires c =
    let m = c.self.inside.maker.draft in
    let xs = c.self.inside.to_come.items in
    let some : 0 < length m.tree = subst (λ d. 0 < length d.draft.bidder.tree) (sym c.self.view_is) c.requires.some in
    let none : length m.opened ≡ 0 = sym c.self.invariant ∙ sym (closed_when m.tree m.opened xs c.self.invariant) ∙ ap (λ d. length d.draft.opened) c.self.view_is ∙ ap length c.requires.closed in
    false≢true (c.in_default.ensures.complete.1 (and_from _ _ (lt-ltb 0 (length m.tree) some) (eq-eqb (length m.opened) 0 none)))
