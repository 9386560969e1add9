use Rattle.std.proofs.Common.{◌∙◌, w64}
use Rattle.std.proofs.lemmas.Int.{to_z-of_z}
use Rattle.std.proofs.lemmas.Result.{err_from_is_err_and}
use Rattle.serde_json.specs.View.{view}
use Rattle.ice_defs.specs.FileFault.{Path}
use Rattle.ice_read.specs.Values.{whole_of}
use Rattle.ice_read.proofs.PlacesOfFaults.{deeper, missing}
use Rattle.ice_read.proofs.values.whole_member.Goals as goal

pub returns-in_err-member-clause-reading : goal.returns-in_err-member-clause-reading
returns-in_err-member-clause-reading c =
    let p = err_from_is_err_and c.from_residual.result c.from_residual.ensures.1 in
    rw p.1 (λ path. rw c.in_err-member.ensures.0 (missing c.args.name.now p.0 (p.2 ∙ c.in_err-member.ensures.1) path))

pub returns-in-Err-clause-reading : goal.returns-in-Err-clause-reading
returns-in-Err-clause-reading c =
    let low = to_z-of_z w64 c.args.low c.ranges.low in
    let high = to_z-of_z w64 c.args.high c.ranges.high in
    let read = λ (p : Path). whole_of p c.args.low c.args.high (view c.in_ok-member.field-0.now) in
    λ path. rw (← c.in_ok-member.ensures) (deeper read c.args.name.now c.in-Err.fault c.under.result (rw (low, high) at c.in-Err.ensures.reading) c.under.ensures path)
