use Rattle.std.proofs.Common.{◌≡◌, Ok, false, length, nat_eq, refl, arith}
use Rattle.std.proofs.lemmas.Bool.Decides.{nat_tests}
use Rattle.std.proofs.lemmas.Result.{err_from_is_err_and}
use Rattle.serde_json.specs.Data.{no_items, item}
use Rattle.serde_json.specs.View.{view}
use Rattle.ice_read.specs.declared.cause.ReadCause.TheVariants.{Shape}
use Rattle.ice_read.specs.Values.{array_of}
use Rattle.ice_read.proofs.PlacesOfFaults.{refused}
use Rattle.ice_read.proofs.Pairs.{pair, items_len-items_view}
use Rattle.ice_read.proofs.choose.interval_of.Goals as goal
use Rattle.ice_read.proofs.choose.interval_of.Goals.{in_default-via-then-as_slice-lt2, in_default-via-else-as_slice-lt2+else-this-lt3}

pub returns-in_err-least-in-len2-clause-reading : goal.returns-in_err-least-in-len2-clause-reading
returns-in_err-least-in-len2-clause-reading c =
    let p = err_from_is_err_and c.from_residual-in_err-least-in-len2.result c.from_residual-in_err-least-in-len2.ensures.1 in
    rw (p.1, p.2) (λ path.
    let two : array_of path (view c.args.value.now) ≡ Ok (item (view c.least-item.result) (item (view c.most-item.result) no_items)) =
    pair _ _ c.as_slice.result.now _ _ path (c.in_ok-array_of.ensures.reading path) c.as_slice.ensures.value (omega arith) c.least-item.is c.most-item.is in
    rw (two, c.in_err-least-in-len2.ensures.reading path))

pub returns-in_err-most-in-len2-clause-reading : goal.returns-in_err-most-in-len2-clause-reading
returns-in_err-most-in-len2-clause-reading c =
    let p = err_from_is_err_and c.from_residual-in_err-most-in-len2.result c.from_residual-in_err-most-in-len2.ensures.1 in
    rw (p.1, p.2) (λ path.
    let two : array_of path (view c.args.value.now) ≡ Ok (item (view c.least-item.result) (item (view c.most-item.result) no_items)) =
    pair _ _ c.as_slice.result.now _ _ path (c.in_ok-array_of.ensures.reading path) c.as_slice.ensures.value (omega arith) c.least-item.is c.most-item.is in
    rw (two, c.in_ok-least-in-len2.ensures.reading path, c.in_err-most-in-len2.ensures.reading path))

pub returns-in_default-clause-reading : goal.returns-in_default-clause-reading
returns-in_default-clause-reading c = λ path.
    let slice : nat_eq (length c.as_slice.result.now) 2 ≡ false =
    elim c.in_default.branch [ in_default-via-then-as_slice-lt2 w ↦ grind (arith, nat_tests) | in_default-via-else-as_slice-lt2+else-this-lt3 w ↦ grind (arith, nat_tests) ] in
    let other : nat_eq (length c.in_ok-array_of.field-0.now.items) 2 ≡ false = rw c.as_slice.ensures.value at slice in
    rw (c.in_ok-array_of.ensures.reading path, items_len-items_view c.in_ok-array_of.field-0.now.items, other) (refused 2 Shape c.of.result c.of.ensures refl path)
