use Rattle.std.proofs.Common.{arith, length, sym, ap, ◌∙◌, ◌<◌}
use Rattle.std.proofs.lemmas.List.{length-map, get_or_default}
use Rattle.ice_search_log.specs.Parts.{side_at}
use Rattle.ice_search_log.specs.Code.{part_of, parts_of}
use Rattle.ice_search.proofs.Looking.{number_there}
use Rattle.ice_search.proofs.progress.Progress.look_at.Goals as goal

pub look_at-requires-clause-there : goal.look_at-requires-clause-there
look_at-requires-clause-there c =
    let parts = c.self.inside.parts.items in
    let numbers = c.self.inside.open_parts.items in
    let here : c.args.place < length numbers = omega (arith, c.requires, ap (λ s. length s.open_parts) c.self.view_is) in
    let there = number_there (parts_of parts) numbers c.self.inside.incumbent.value c.self.invariant.numbered c.args.place here in
    let number = c.index-number.ensures ∙ get_or_default numbers c.args.place c.index-number.result.now 0 here in
    omega (arith, there, number, length-map parts part_of, ap length c.deref.ensures.value)

pub returns-clause-looks : goal.returns-clause-looks
returns-clause-looks c =
    let parts = c.self.inside.parts.items in
    let numbers = c.self.inside.open_parts.items in
    let here : c.args.place < length numbers = omega (arith, c.requires, ap (λ s. length s.open_parts) c.self.view_is) in
    let there = number_there (parts_of parts) numbers c.self.inside.incumbent.value c.self.invariant.numbered c.args.place here in
    let number = c.index-number.ensures ∙ get_or_default numbers c.args.place c.index-number.result.now 0 here in
    record {
      there = omega (arith, there, number);
      side = c.look_at.ensures.side ∙ ap (λ xs. side_at c.self.inside.space.instance.start (parts_of xs) c.index-number.result.now) c.deref.ensures.value
          ∙ ap (λ x. side_at x.start (parts_of parts) c.index-number.result.now) (sym c.look_at.ensures.instance);
    }
