use Rattle.std.proofs.Common.{sym, subst, ◌∙◌, ◌≡◌, true}
use Rattle.std.specs.Prelude.{slice_index}
use Rattle.ice_search_log.specs.Parts.{part_at}
use Rattle.ice_search_log.specs.Nodes.{HasNoNode}
use Rattle.ice_search.specs.State.{state_of, LooksAt}
use Rattle.ice_search.proofs.Turning.{low, live, closed}
use Rattle.ice_search.proofs.Opened.{left_others, left_within}
use Rattle.ice_search.proofs.progress.Progress.close.Goals as goal

pub offer-requires-clause-live : goal.offer-requires-clause-live
offer-requires-clause-live c =
    let s = state_of c.self.inside.space c.self.inside.incumbent c.self.inside.parts.items c.self.inside.open_parts.items in
    live s c.self.invariant c.args.number (subst (λ t. LooksAt t c.args.number) (sym c.self.view_is) c.requires.looks)

pub offer-requires-clause-low : goal.offer-requires-clause-low
offer-requires-clause-low c =
    let s = state_of c.self.inside.space c.self.inside.incumbent c.self.inside.parts.items c.self.inside.open_parts.items in
    low s c.self.invariant

pub invariant_of-self : goal.invariant_of-self
invariant_of-self c =
    let s = state_of c.self.inside.space c.self.inside.incumbent c.self.inside.parts.items c.self.inside.open_parts.items in
    let looks = subst (λ t. LooksAt t c.args.number) (sym c.self.view_is) c.requires.looks in
    let numbers = c.self.inside.open_parts.items in
    let left = c.take_out.new.open_parts.items in
    let number = subst (λ t. c.args.number ≡ slice_index t.open_parts c.args.place) (sym c.self.view_is) c.requires.number in
    closed s c.self.invariant c.args.number looks c.offer.new.incumbent left c.self.inside.space.side
    (subst (λ t. (part_at t.parts c.args.number).swept ≡ true) (sym c.self.view_is) c.requires.swept) c.offer.ensures.offered
    (c.offer.ensures.closed (subst (λ t. HasNoNode t.instance.trees t.side) (sym c.self.view_is) c.requires.none))
    (λ j listed ne. left_others numbers left (slice_index numbers c.args.place) c.take_out.ensures.others j listed (λ e. ne (e ∙ sym number)))
    (left_within numbers left (slice_index numbers c.args.place) c.take_out.ensures.others)
