use Rattle.std.proofs.Common.{refl}
use Rattle.std.proofs.lemmas.Result.{err_from_is_err_and}
use Rattle.std.specs.Prelude.{codes}
use Rattle.serde_json.specs.View.{view}
use Rattle.ice_read.specs.RoundFile.{name_at}
use Rattle.ice_read.proofs.RoundParts.{absent, in_member}
use Rattle.ice_read.proofs.round.bidder_in.Goals as goal

pub returns-in_err-member-clause-reading : goal.returns-in_err-member-clause-reading
returns-in_err-member-clause-reading c = let p = err_from_is_err_and c.from_residual.result c.from_residual.ensures.1 in
    rw (p.1, p.2) (λ path. absent name_at path (codes "bidder") (view c.args.bid.now) c.in_err-member.field-0.0 c.in_err-member.ensures.0 (λ q. refl) c.in_err-member.ensures.1)

pub returns-in-Err-clause-reading : goal.returns-in-Err-clause-reading
returns-in-Err-clause-reading c = λ path.
    in_member name_at path (codes "bidder") (view c.args.bid.now) (view c.in_ok-member.field-0.now) c.in-Err.fault c.under.result c.in_ok-member.ensures c.in-Err.ensures.reading c.under.ensures
