use Rattle.std.proofs.Common.{arith, length, ap, sym, ◌∙◌, subst}
use Rattle.ice_defs.specs.Steps.{with_mark}
use Rattle.ice_defs.specs.Trade.{fixing_of}
use Rattle.ice_defs.specs.Derived.{goods_alone}
use Rattle.ice_search_log.specs.Parts.{side_at}
use Rattle.ice_search_log.proofs.Marked.{side_is_start}
use Rattle.ice_search_log.specs.Code.{parts_of}
use Rattle.ice_search.specs.Instance.{IsInstance}
use Rattle.ice_search.proofs.Following.{below, fixings_at, node_there}
use Rattle.ice_search.proofs.sides.+put_side.Goals as goal

pub returns-then-number-eq0 : goal.returns-then-number-eq0
returns-then-number-eq0 t c =
    let x = c.args.problem.now in
    c.copy_fixings.ensures ∙ ap (λ y. y.start) c.problem.view_is
    ∙ sym (side_is_start goods_alone x.trees x.exact x.weights x.start x.first (parts_of c.args.parts.now) c.requires.search) ∙ ap (side_at x.start (parts_of c.args.parts.now)) (sym c.if-number-eq0.true)

pub put_side-requires : goal.put_side-requires
put_side-requires t c =
    let is = below c.args.problem.now c.args.parts.now c.args.number c.index-parts-number.result c.requires.search (omega arith) c.requires.there c.index-parts-number.is in
    let above = is.0 in
    (omega (arith, above, c.decreases), (c.requires.search, (omega (arith, above, c.requires.there), c.requires.marks)))

pub mark-requires-clause-bidder : goal.mark-requires-clause-bidder
mark-requires-clause-bidder t c =
    let x = c.args.problem.now in
    let part = c.index-parts-number.result in
    let lawful = subst IsInstance c.problem.view_is c.problem.invariant in
    let is = below x c.args.parts.now c.args.number part c.requires.search (omega arith) c.requires.there c.index-parts-number.is in
    let above = is.0 in
    let there = (node_there x (side_at x.start (parts_of c.args.parts.now) part.above) part.bidder part.node (fixings_at x c.args.parts.now part.above lawful c.requires.search (omega (arith, above, c.requires.there))) is.2).0 in
    omega (arith, there, ap length c.put_side.ensures)

pub mark-requires-clause-node : goal.mark-requires-clause-node
mark-requires-clause-node t c =
    let x = c.args.problem.now in
    let part = c.index-parts-number.result in
    let lawful = subst IsInstance c.problem.view_is c.problem.invariant in
    let is = below x c.args.parts.now c.args.number part c.requires.search (omega arith) c.requires.there c.index-parts-number.is in
    let above = is.0 in
    let there = (node_there x (side_at x.start (parts_of c.args.parts.now) part.above) part.bidder part.node (fixings_at x c.args.parts.now part.above lawful c.requires.search (omega (arith, above, c.requires.there))) is.2).1 in
    omega (arith, there, ap (λ xs. length (fixing_of xs part.bidder)) c.put_side.ensures)

pub returns : goal.returns
returns t c =
    let part = c.index-parts-number.result in
    let is = below c.args.problem.now c.args.parts.now c.args.number part c.requires.search (omega arith) c.requires.there c.index-parts-number.is in
    c.mark.ensures ∙ ap (λ xs. with_mark xs part.bidder part.node part.mark) c.put_side.ensures ∙ sym is.1
