use Rattle.std.proofs.Common.{◌∙◌, ap}
use Rattle.std.proofs.lemmas.Result.{err_from_is_err_and}
use Rattle.serde_json.specs.View.{view}
use Rattle.ice_defs.specs.FileFault.{Path}
use Rattle.ice_read.specs.ExchangeFile.{bidders_at}
use Rattle.ice_read.proofs.PlacesOfFaults.{deeper, missing}
use Rattle.ice_read.specs.declared.fault.ReadFault.{ReadFault}
use Rattle.ice_read.specs.Sale.{IsSaleUnder}
use Rattle.ice_read.proofs.SalesTold.{shape_is_no_sale, sale_under}
use Rattle.ice_read.proofs.exchange.take_bidders_member.Goals as goal

pub returns-in_err-member-clause-refused : goal.returns-in_err-member-clause-refused
returns-in_err-member-clause-refused c =
    let p = err_from_is_err_and c.from_residual.result c.from_residual.ensures.1 in
    rw p.1 (λ path. rw c.in_err-member.ensures.0 (missing c.args.name.now p.0 (p.2 ∙ c.in_err-member.ensures.1) path))

pub returns-in-Err-clause-refused : goal.returns-in-Err-clause-refused
returns-in-Err-clause-refused c =
    let read = λ (p : Path). bidders_at c.args.exchange.now.goods p (view c.in_ok-member.field-0.now) in
    λ path. rw (← c.in_ok-member.ensures) (deeper read c.args.name.now c.in-Err.fault c.under.result c.in-Err.ensures.refused c.under.ensures path)

pub returns-in_err-member-clause-sale : goal.returns-in_err-member-clause-sale
returns-in_err-member-clause-sale c =
    let p = err_from_is_err_and c.from_residual.result c.from_residual.ensures.1 in
    rw p.1 (shape_is_no_sale (IsSaleUnder c.args.exchange.now.goods c.args.name.now (view c.args.value.now)) p.0 (ap (λ (f : ReadFault). f.cause) (p.2 ∙ c.in_err-member.ensures.1)))

pub returns-in-Err-clause-sale : goal.returns-in-Err-clause-sale
returns-in-Err-clause-sale c =
    sale_under c.args.exchange.now.goods c.args.name.now (view c.args.value.now) (view c.in_ok-member.field-0.now) c.in-Err.fault c.under.result c.in_ok-member.ensures c.in-Err.ensures.sale c.under.ensures
