use Rattle.std.proofs.Common.{rules, FitsSigned, arith, refl, Option, None, ◌<ℤ◌, ◌≤ℤ◌, ◌+◌, ◌≡◌, get_or, ap, sym, ◌∙◌, subst, Some, to_z, of_z}
use Rattle.std.specs.Int.{w128}
use Rattle.std.proofs.lemmas.List.{length-map}
use Rattle.std.proofs.lemmas.Int.{to_z-of_z}
use Rattle.std.specs.Option.{option_map}
use Rattle.ice_search_log.specs.declared.part.Split.{Split}
use Rattle.ice_search_log.specs.Code.{split_of, part_of, parts_of}
use Rattle.ice_search_log.proofs.Assembling.{part_read}
use Rattle.ice_search.specs.Open.{bound_at, IsHigher, IsAboveFirst}
use Rattle.ice_search.proofs.Looking.{number_there, taken, passed}
use Rattle.ice_search.proofs.frontier.greatest.Goals as goal
use Rattle.ice_search.proofs.frontier.greatest.Goals.{then-is_above, else-is_above}

pub bounds-parts-open_parts : goal.bounds-parts-open_parts
bounds-parts-open_parts c =
    let there = number_there (parts_of c.args.parts.now) c.args.open_parts.now c.args.value c.requires c.loop-place.place (omega arith) in
    omega (arith, there, length-map c.args.parts.now part_of)

pub loop-place-preserved : goal.loop-place-preserved
loop-place-preserved c =
    let parts = c.args.parts.now in
    let numbers = c.args.open_parts.now in
    let value = to_z w128 (of_z w128 c.args.value) in
    let place = c.loop-place.place in
    let found = c.loop-place.found in
    let part = c.index-parts-open_parts.result in
    let there = number_there (parts_of parts) numbers value c.requires place (omega arith) in
    let read = part_read parts (get_or numbers place 0) part (omega (arith, there, length-map parts part_of)) c.index-parts-open_parts.is in
    let fits : FitsSigned w128 c.bound_at.result = search rules in
    let bound = to_z-of_z w128 c.bound_at.result fits ∙ c.bound_at.ensures in
    elim c.if-is_above.branch [
      | then-is_above w ↦
          let next = taken (parts_of parts) numbers value place found (part_of part) read c.loop-place.invariant.higher c.loop-place.invariant.above
          (ap (option_map split_of) (c.is_above.ensures.whole w.if-is_above.true)) (subst (λ b. b <ℤ part.key) bound (c.is_above.ensures.above w.if-is_above.true)) in
          record {
            higher = subst (IsHigher (parts_of parts) numbers value (place + 1)) (sym w.found-is) next.0;
            above = subst (λ f. IsAboveFirst (parts_of parts) numbers (place + 1) (bound_at (parts_of parts) numbers value f)) (sym w.found-is) next.1;
          }
      | else-is_above w ↦
          let next = passed (parts_of parts) numbers value place found (part_of part) read c.loop-place.invariant.higher c.loop-place.invariant.above
          (λ whole. subst (λ b. part.key ≤ℤ b) bound (c.is_above.ensures.no w.if-is_above.false (is_none-of part.split whole))) in
          record {
            higher = subst (IsHigher (parts_of parts) numbers value (place + 1)) (sym w.found-is) next.0;
            above = subst (λ f. IsAboveFirst (parts_of parts) numbers (place + 1) (bound_at (parts_of parts) numbers value f)) (sym w.found-is) next.1;
          }
    ]
  where
    is_none-of : (o : Option Split) → option_map split_of o ≡ None → o ≡ None
    is_none-of None e = refl
    is_none-of (Some s) e = absurd (cc)
