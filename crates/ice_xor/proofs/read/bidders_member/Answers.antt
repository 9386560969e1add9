use Rattle.std.proofs.Common.{◌∙◌, ap}
use Rattle.std.proofs.lemmas.Result.{err_from_is_err_and}
use Rattle.serde_json.specs.View.{view}
use Rattle.ice_defs.specs.FileFault.{Path}
use Rattle.ice_read.specs.declared.fault.ReadFault.{ReadFault}
use Rattle.ice_read.proofs.PlacesOfFaults.{deeper, missing}
use Rattle.ice_xor.specs.FlatFile.{flat_bidders_at}
use Rattle.ice_xor.proofs.read.bidders_member.Goals as goal

pub returns-in_err-member-clause-reading : goal.returns-in_err-member-clause-reading
returns-in_err-member-clause-reading c =
    let p = err_from_is_err_and c.from_residual.result c.from_residual.ensures.1 in
    rw p.1 (λ other path. rw c.in_err-member.ensures.0 (missing c.args.name.now p.0 (p.2 ∙ c.in_err-member.ensures.1) path))

pub returns-in-Err-clause-reading : goal.returns-in-Err-clause-reading
returns-in-Err-clause-reading c = λ other path.
    let read = λ (p : Path). flat_bidders_at c.args.exchange.now.goods p (view c.in_ok-member.field-0.now) in
    rw (← c.in_ok-member.ensures) (deeper read c.args.name.now c.in-Err.fault c.under.result (c.in-Err.ensures.reading (λ memory. other (ap (λ (fault : ReadFault). fault.cause) c.under.ensures ∙ memory))) c.under.ensures path)
