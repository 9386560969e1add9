use Rattle.std.proofs.Common.{◌≡◌, ◌∷◌, List, ℕ, length, decimal, ap, ◌∙◌, arith}
use Rattle.ice_journal.proofs.Counted.{bad_value, all_values}
use Rattle.ice_journal.proofs.lists.counted_values.Goals as goal

pub returns-in_err-value : goal.returns-in_err-value
returns-in_err-value c = rw c.from_residual-in_err-value.ensures (
    bad_value c.args.fields.now c.in_ok-count.count c.loop-fields.values.items c.loop-fields.fields c.next-in-loop-fields.new.self c.in_ok-next-2.field-0.now (record {
      first = c.in_ok-next.field-0.now;
      left = c.next.new.self;
      entry_is = c.in_ok-next.ensures;
      only = λ n le e. c.in_ok-count.ensures.2 n (omega arith, le) e;
      left_is = c.loop-fields.invariant.0;
      values = c.loop-fields.invariant.1;
      fits = c.loop-fields.invariant.2;
    }) (omega (arith, c.len.ensures.value, c.loop-fields-test.true)) c.in_ok-next-2.ensures c.in_err-value.ensures)

pub returns : goal.returns
returns c =
    let same : c.in_ok-count.count ≡ length c.loop-fields.values.items = omega (arith, c.len.ensures.value, c.loop-fields-test.false, c.loop-fields.invariant.2) in (
      (omega (arith, same, c.in_ok-count.ensures.0.1), c.loop-fields.invariant.1),
      c.in_ok-next.ensures
          ∙ ap (λ (f : List ℕ). f ∷ c.next.new.self) (c.in_ok-count.ensures.1 ∙ ap decimal same)
          ∙ ap (λ (r : List (List ℕ)). decimal (length c.loop-fields.values.items) ∷ r) c.loop-fields.invariant.0,
      all_values c.args.fields.now c.in_ok-count.count c.loop-fields.values.items c.loop-fields.fields (record {
        first = c.in_ok-next.field-0.now;
        left = c.next.new.self;
        entry_is = c.in_ok-next.ensures;
        only = λ n le e. c.in_ok-count.ensures.2 n (omega arith, le) e;
        left_is = c.loop-fields.invariant.0;
        values = c.loop-fields.invariant.1;
        fits = c.loop-fields.invariant.2;
      }) (omega (arith, same)),
    )
