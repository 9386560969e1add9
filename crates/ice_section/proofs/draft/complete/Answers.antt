use Rattle.std.proofs.Common.{◌≡◌, ◌-◌, ◌+◌, length, reverse, ap, sym, ◌∙◌, refl, rules}
use Rattle.std.proofs.lemmas.List.{nil_from_length, length-reverse}
use Rattle.std.proofs.lemmas.Result.{err_from_is_err_and}
use Rattle.ice_section.proofs.KeptNodes.{kept_length, step_fewer, step_closed, step_refused, length_fewer, none_left}
use Rattle.ice_tree.specs.Making.{all_but_first}
use Rattle.ice_section.proofs.draft.complete.Goals as goal

pub returns-then-left-gt1-clause-counted : goal.returns-then-left-gt1-clause-counted
returns-then-left-gt1-clause-counted c =
    let xs = c.loop-to_come.to_come.items in
    let size : length xs ≡ (c.len-innermost.result - 1) + 1 = search rules in
    length_fewer c.args.maker.now.draft.tree c.loop-to_come.maker.draft (ap (λ m. m.draft.tree) c.loop-to_come.invariant.same) xs c.deref.result.now (c.len-innermost.result - 1) c.deref.ensures.0 size c.loop-to_come.invariant.kept
    c.deref_mut.result.now _ c.deref_mut.ensures.value

pub returns-then-left-gt1-clause-done : goal.returns-then-left-gt1-clause-done
returns-then-left-gt1-clause-done c =
    let xs = c.loop-to_come.to_come.items in
    let size : length xs ≡ (c.len-innermost.result - 1) + 1 = search rules in
    c.loop-to_come.invariant.done
    ∙ step_fewer c.args.maker.now.draft.tree c.loop-to_come.maker.draft (ap (λ m. m.draft.tree) c.loop-to_come.invariant.same) xs c.deref.result.now (c.len-innermost.result - 1) c.deref.ensures.0 size c.loop-to_come.invariant.kept
    c.deref_mut.result.now c.deref_mut.ensures.value c.if-left-gt1.true

pub returns-clause-counted : goal.returns-clause-counted
returns-clause-counted c =
    let none : length c.loop-to_come.to_come.items ≡ 0 = search rules in
    (none_left c.args.maker.now.draft.tree c.loop-to_come.maker.draft.opened c.loop-to_come.to_come.items (nil_from_length _ none) c.loop-to_come.invariant.kept).1

pub returns-clause-done : goal.returns-clause-done
returns-clause-done c =
    let none : length c.loop-to_come.to_come.items ≡ 0 = search rules in
    c.loop-to_come.invariant.done ∙ (none_left c.args.maker.now.draft.tree c.loop-to_come.maker.draft.opened c.loop-to_come.to_come.items (nil_from_length _ none) c.loop-to_come.invariant.kept).0

pub returns-in_err-close-clause-counted : goal.returns-in_err-close-clause-counted
returns-in_err-close-clause-counted c =
    let xs = c.loop-to_come.to_come.items in
    let counted = kept_length c.args.maker.now.draft.tree c.loop-to_come.maker.draft.opened (reverse xs) c.loop-to_come.invariant.kept in
    sym (length-reverse xs) ∙ counted ∙ ap (λ m. length m.draft.opened) (sym c.in_err-close.ensures.unchanged)

pub returns-in_err-close-clause-refused : goal.returns-in_err-close-clause-refused
returns-in_err-close-clause-refused c =
    let p = err_from_is_err_and c.from_residual.result c.from_residual.ensures.1 in
    let xs = c.loop-to_come.to_come.items in
    let size : length xs ≡ (c.len-innermost.result - 1) + 1 = search rules in
    rw (p.1, p.2) (
    c.loop-to_come.invariant.done
    ∙ step_refused c.args.maker.now.draft.tree c.loop-to_come.maker.draft (ap (λ m. m.draft.tree) c.loop-to_come.invariant.same) xs c.deref.result.now (c.len-innermost.result - 1) c.deref.ensures.0 size c.loop-to_come.invariant.kept
    c.if-left-gt1.false _ c.in_err-close.ensures.refused)

pub loop-to_come-preserved : goal.loop-to_come-preserved
loop-to_come-preserved c =
    let xs = c.loop-to_come.to_come.items in
    let size : length xs ≡ (c.len-innermost.result - 1) + 1 = search rules in
    let (done, kept) = step_closed c.args.maker.now.draft.tree c.loop-to_come.maker.draft (ap (λ m. m.draft.tree) c.loop-to_come.invariant.same) xs c.deref.result.now (c.len-innermost.result - 1) c.deref.ensures.0 size c.loop-to_come.invariant.kept
    c.if-left-gt1.false c.in_ok-close.ensures.refused in
    let opened = ap (λ m. m.draft.opened) c.in_ok-close.ensures.made in
    record {
      same = c.in_ok-close.ensures.made ∙ ap (λ m. record { goods = m.goods; draft = record { tree = m.draft.tree; bounds = m.draft.bounds; opened = all_but_first c.loop-to_come.maker.draft.opened } }) c.loop-to_come.invariant.same
          ∙ ap (λ os. record { goods = c.args.maker.now.goods; draft = record { tree = c.args.maker.now.draft.tree; bounds = c.args.maker.now.draft.bounds; opened = os } }) (sym opened);
      kept = rw (opened, c.truncate.ensures.items) kept;
      done = c.loop-to_come.invariant.done ∙ done ∙ rw (opened, c.truncate.ensures.items) refl;
    }
