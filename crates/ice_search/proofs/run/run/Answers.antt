use Rattle.std.proofs.Common.{length, sym, subst, ◌∙◌, ◌≡◌, ◌<◌, true}
use Rattle.ice_search_log.specs.Parts.{part_at}
use Rattle.ice_search_log.specs.Nodes.{HasNoNode}
use Rattle.ice_search_log.specs.Searching.{IsNext}
use Rattle.ice_search.specs.Nodes.{IsSplitNode}
use Rattle.ice_search.specs.State.{LooksAt}
use Rattle.ice_search.proofs.Choosing.{next_of}
use Rattle.ice_search.proofs.run.run.Goals as goal

pub close-requires-clause-none : goal.close-requires-clause-none
close-requires-clause-none c = subst (λ t. HasNoNode t.instance.trees t.side) (sym c.find_node.ensures.same) c.in_default-find_node.ensures.none

pub split-requires-clause-next : goal.split-requires-clause-next
split-requires-clause-next c =
    let s = c.loop-place.progress in
    let number = c.look_at-number.result in
    let same = c.look_at-number.ensures.rest in
    let there : number < length s.parts = subst (λ t. number < length t.parts) same c.look_at-number.ensures.looks.there in
    let swept = subst (λ t. (part_at t.parts number).swept ≡ true) same (sym c.is_swept.ensures ∙ c.if-not-is_swept.false) in
    subst (λ t. IsNext t.parts t.value number) (sym (c.find_node.ensures.same ∙ same)) (next_of s c.in-Some.place number c.in-Some.ensures.some c.in-Some.ensures.opened c.look_at-number.ensures.number there swept)

pub returns-then-has_dived-clause-ended : goal.returns-then-has_dived-clause-ended
returns-then-has_dived-clause-ended c =
    let s = c.loop-place.progress in
    let number = c.look_at-number.result in
    let same = c.look_at-number.ensures.rest in
    let there : number < length s.parts = subst (λ t. number < length t.parts) same c.look_at-number.ensures.looks.there in
    let swept = subst (λ t. (part_at t.parts number).swept ≡ true) same (sym c.is_swept.ensures ∙ c.if-not-is_swept.false) in (
      c.if-left-eq0.true,
      subst (λ t. LooksAt t number) (sym c.find_node.ensures.same) c.look_at-number.ensures.looks,
      subst (λ t. IsNext t.parts t.value number) (sym (c.find_node.ensures.same ∙ same)) (next_of s c.in-Some.place number c.in-Some.ensures.some c.in-Some.ensures.opened c.look_at-number.ensures.number there swept),
      subst (λ t. IsSplitNode t.instance.trees t.side c.in-Some-find_node.node.bidder c.in-Some-find_node.node.node) (sym c.find_node.ensures.same) c.in-Some-find_node.ensures.some,
    )
