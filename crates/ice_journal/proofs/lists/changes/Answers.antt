use Rattle.std.proofs.Common.{◌≡◌, ◌≤◌, ◌++◌, ◌∷◌, [], ℕ, List, length, map, ap, sym, ◌∙◌, arith}
use Rattle.std.specs.List.{flat_map}
use Rattle.std.proofs.lemmas.List.{map-append, length-map}
use Rattle.std.proofs.lemmas.Bool.{false≢true}
use Rattle.ice_journal.specs.Lines.{change_of, changes_of}
use Rattle.ice_journal.specs.Spelling.{change_fields}
use Rattle.ice_journal.proofs.Changed.{bad_change, fields_done, ascends_push, all_push, next_push, fields_push}
use Rattle.ice_journal.proofs.lists.changes.Goals as goal

pub returns-in_err-change : goal.returns-in_err-change
returns-in_err-change c =
    let counted : length (changes_of c.loop-fields.changed) ≡ length c.loop-fields.changed.items = length-map c.loop-fields.changed.items change_of in
    rw c.from_residual-in_err-change.ensures (
    bad_change c.args.fields c.in_ok-count.count c.loop-fields.least (changes_of c.loop-fields.changed) c.loop-fields.fields (record {
      first = c.in_ok-next.field-0.now;
      left = c.next.new.self;
      entry_is = c.in_ok-next.ensures;
      only = λ n le e. c.in_ok-count.ensures.2 n (omega arith, le) e;
      left_is = c.loop-fields.invariant.0;
      changes = (c.loop-fields.invariant.1, c.loop-fields.invariant.2);
      fits = omega (arith, counted, c.loop-fields.invariant.4);
    }) (omega (arith, counted, c.len.ensures.value, c.loop-fields-test.true)) c.loop-fields.invariant.3 c.in_err-change.ensures)

pub loop-fields-preserved : goal.loop-fields-preserved
loop-fields-preserved c =
    let cs = changes_of c.loop-fields.changed in
    let d = change_of c.in_ok-change.change in
    let now : changes_of c.push.new.self ≡ changes_of c.loop-fields.changed ++ change_of c.in_ok-change.change ∷ [] = ap (map change_of) c.push.ensures.items ∙ map-append change_of c.loop-fields.changed.items (c.in_ok-change.change ∷ []) in
    let least : c.loop-fields.least ≤ d.good = c.in_ok-change.ensures.0.0 in (
      rw now (c.loop-fields.invariant.0 ∙ ap (λ (fs : List (List ℕ)). flat_map change_fields cs ++ fs) c.in_ok-change.ensures.1 ∙ fields_push cs d c.one_change.new.fields),
      rw now (ascends_push 0 cs d c.loop-fields.invariant.1 (omega (arith, least, c.loop-fields.invariant.3))),
      rw now (all_push cs d c.loop-fields.invariant.2 c.in_ok-change.ensures.0.1),
      rw now (omega (arith, next_push 0 cs d, c.from-least.ensures)),
      omega (arith, c.len.ensures.value, c.loop-fields-test.true, c.push.ensures.len),
    )

pub returns-else-is_end : goal.returns-else-is_end
returns-else-is_end c = λ ys lawful e.
    let counted : length (changes_of c.loop-fields.changed) ≡ length c.loop-fields.changed.items = length-map c.loop-fields.changed.items change_of in
    let none = fields_done c.args.fields c.in_ok-count.count (changes_of c.loop-fields.changed) c.loop-fields.fields (record {
      first = c.in_ok-next.field-0.now;
      left = c.next.new.self;
      entry_is = c.in_ok-next.ensures;
      only = λ n le e. c.in_ok-count.ensures.2 n (omega arith, le) e;
      left_is = c.loop-fields.invariant.0;
      changes = (c.loop-fields.invariant.1, c.loop-fields.invariant.2);
      fits = omega (arith, counted, c.loop-fields.invariant.4);
    }) (omega (arith, counted, c.len.ensures.value, c.loop-fields-test.false)) ys lawful e in
    false≢true (sym c.if-is_end.false ∙ c.is_end.ensures.1 none)
