use Rattle.std.proofs.Common.{rules, arith, FitsSigned, length, get_or, ap, sym, ◌∙◌, subst}
use Rattle.std.specs.Int.{w128}
use Rattle.std.proofs.lemmas.List.{length-map}
use Rattle.std.proofs.lemmas.Int.{to_z-of_z}
use Rattle.ice_search_log.specs.Code.{part_of, parts_of}
use Rattle.ice_search_log.proofs.Assembling.{part_read}
use Rattle.ice_search.specs.Open.{bound_at, IsHigher}
use Rattle.ice_search.proofs.Looking.{number_there, place_there}
use Rattle.ice_search.proofs.frontier.bound_at.Goals as goal

pub bounds-parts-open_parts : goal.bounds-parts-open_parts
bounds-parts-open_parts c =
    let parts = parts_of c.args.parts.now in
    let numbers = c.args.open_parts.now in
    let there = number_there parts numbers c.args.value c.requires.numbers c.in-Some.place
    (place_there parts numbers c.args.value (length numbers) c.in-Some.place (subst (IsHigher parts numbers c.args.value (length numbers)) c.in-Some.is c.requires.place)) in
    omega (arith, there, length-map c.args.parts.now part_of)

pub returns-in-Some : goal.returns-in-Some
returns-in-Some c =
    let parts = c.args.parts.now in
    let numbers = c.args.open_parts.now in
    let number = get_or numbers c.in-Some.place 0 in
    let higher = subst (IsHigher (parts_of parts) numbers c.args.value (length numbers)) c.in-Some.is c.requires.place in
    let there = number_there (parts_of parts) numbers c.args.value c.requires.numbers c.in-Some.place (place_there (parts_of parts) numbers c.args.value (length numbers) c.in-Some.place higher) in
    let fits : FitsSigned w128 c.key_of.result = search rules in
    let read = part_read parts number c.index-parts-open_parts.result (omega (arith, there, length-map parts part_of)) c.index-parts-open_parts.is in
    to_z-of_z w128 c.key_of.result fits ∙ c.key_of.ensures ∙ sym (ap (λ p. p.key) read) ∙ sym (ap (bound_at (parts_of parts) numbers c.args.value) c.in-Some.is)
