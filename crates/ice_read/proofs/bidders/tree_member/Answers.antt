use Rattle.std.proofs.Common.{◌∙◌}
use Rattle.std.proofs.lemmas.Result.{err_from_is_err_and}
use Rattle.serde_json.specs.View.{view}
use Rattle.ice_defs.specs.FileFault.{Path}
use Rattle.ice_defs.specs.Lawful.{good_names}
use Rattle.ice_read.specs.TreeFile.{tree_at}
use Rattle.ice_read.proofs.PlacesOfFaults.{deeper, missing}
use Rattle.ice_read.proofs.bidders.tree_member.Goals as goal

pub returns-in_err-member-clause-reading : goal.returns-in_err-member-clause-reading
unfolding tree_at
returns-in_err-member-clause-reading c =
    let p = err_from_is_err_and c.from_residual.result c.from_residual.ensures.1 in
    rw p.1 (λ path. rw c.in_err-member.ensures.0 (missing c.args.name.now p.0 (p.2 ∙ c.in_err-member.ensures.1) path))

pub returns-in-Err-clause-reading : goal.returns-in-Err-clause-reading
returns-in-Err-clause-reading c =
    let read = λ (p : Path). tree_at (good_names c.args.exchange.now) p (view c.in_ok-member.field-0.now) in
    λ path. rw (← c.in_ok-member.ensures) (deeper read c.args.name.now c.in-Err.fault c.under.result c.in-Err.ensures.reading c.under.ensures path)
