use Rattle.std.proofs.Common.{◌≡◌, ◌≤◌, ◌++◌, ◌∷◌, [], ℕ, List, length, map, ap, sym, ◌∙◌, arith}
use Rattle.std.specs.List.{flat_map}
use Rattle.std.proofs.lemmas.List.{map-append, length-map}
use Rattle.std.proofs.lemmas.Bool.{false≢true}
use Rattle.ice_journal.specs.Lines.{numbered_of, numbers_of}
use Rattle.ice_journal.specs.Listed.{least_of, most_of, IsOf}
use Rattle.ice_journal.specs.Spelling.{numbered_fields}
use Rattle.ice_journal.proofs.Climbing.{bad_number, fields_done, climbs_push, all_push, next_push, fields_push}
use Rattle.ice_journal.proofs.numbered.numbers.Goals as goal

pub returns-in_err-number : goal.returns-in_err-number
returns-in_err-number c =
    let counted : length (numbers_of c.loop-listed.read.items) ≡ length c.loop-listed.read.items = length-map c.loop-listed.read.items numbered_of in
    rw c.from_residual-in_err-number.ensures (
    bad_number c.args.listed (least_of c.args.listed) (most_of c.args.listed) c.args.fields c.in_ok-count.count c.loop-listed.least (numbers_of c.loop-listed.read.items) c.loop-listed.fields (record {
      left = c.count.new.fields;
      only = λ n rest in_range e. c.in_ok-count.ensures.2 n rest in_range e;
      left_is = c.loop-listed.invariant.0;
      numbers = (c.loop-listed.invariant.1, c.loop-listed.invariant.2);
      fits = omega (arith, counted, c.loop-listed.invariant.4);
    }) (omega (arith, counted, c.len.ensures.value, c.loop-listed-test.true)) c.loop-listed.invariant.3 c.in_err-number.ensures)

pub loop-listed-preserved : goal.loop-listed-preserved
loop-listed-preserved c =
    let ns = numbers_of c.loop-listed.read.items in
    let n = numbered_of c.in_ok-number.number in
    let now : numbers_of c.push.new.self.items ≡ numbers_of c.loop-listed.read.items ++ numbered_of c.in_ok-number.number ∷ [] = ap (map numbered_of) c.push.ensures.items ∙ map-append numbered_of c.loop-listed.read.items (c.in_ok-number.number ∷ []) in
    let least : c.loop-listed.least ≤ n.number = c.in_ok-number.ensures.0.0 in (
      rw now (c.loop-listed.invariant.0 ∙ ap (λ (fs : List (List ℕ)). flat_map numbered_fields ns ++ fs) c.in_ok-number.ensures.1 ∙ fields_push ns n c.one_number.new.fields),
      rw now (climbs_push 0 ns n c.loop-listed.invariant.1 (omega (arith, least, c.loop-listed.invariant.3))),
      rw now (all_push (IsOf c.args.listed) ns n c.loop-listed.invariant.2 c.in_ok-number.ensures.0.1),
      rw now (omega (arith, next_push 0 ns n, c.from-least.ensures)),
      omega (arith, c.len.ensures.value, c.loop-listed-test.true, c.push.ensures.len),
    )

pub returns-else-is_end : goal.returns-else-is_end
returns-else-is_end c = λ ys lawful e.
    let counted : length (numbers_of c.loop-listed.read.items) ≡ length c.loop-listed.read.items = length-map c.loop-listed.read.items numbered_of in
    let none = fields_done c.args.listed (least_of c.args.listed) (most_of c.args.listed) c.args.fields c.in_ok-count.count (numbers_of c.loop-listed.read.items) c.loop-listed.fields (record {
      left = c.count.new.fields;
      only = λ n rest in_range e. c.in_ok-count.ensures.2 n rest in_range e;
      left_is = c.loop-listed.invariant.0;
      numbers = (c.loop-listed.invariant.1, c.loop-listed.invariant.2);
      fits = omega (arith, counted, c.loop-listed.invariant.4);
    }) (omega (arith, counted, c.len.ensures.value, c.loop-listed-test.false)) ys lawful e in
    false≢true (sym c.if-is_end.false ∙ c.is_end.ensures.1 none)
