use Rattle.std.proofs.Common.{◌∙◌, Ok, [], refl, sym, ap}
use Rattle.serde_json.specs.View.{view}
use Rattle.ice_defs.specs.Exchange.{Bidder, Exchange}
use Rattle.ice_read.specs.declared.cause.ReadCause.TheVariants.{Shape}
use Rattle.ice_read.proofs.PlacesOfFaults.{refused}
use Rattle.ice_read.proofs.GoodsAndBidders.{bidder_is, bidder_chain, bidder_made, bidder_unmade}
use Rattle.ice_read.specs.declared.fault.ReadFault.{ReadFault}
use Rattle.ice_read.specs.Sale.{IsSaleOf}
use Rattle.ice_read.specs.Values.{text_of}
use Rattle.ice_read.specs.ExchangeFile.{own_at}
use Rattle.ice_read.specs.TreeFile.{tree_at}
use Rattle.ice_defs.specs.Lawful.{good_names}
use Rattle.std.specs.Prelude.{codes}
use Rattle.std.proofs.lemmas.Result.{err_from_is_err_and}
use Rattle.ice_read.proofs.FaultNumbers.{text_plain}
use Rattle.ice_read.proofs.ExchangeFaultNumbers.{own_plain, tree_plain}
use Rattle.ice_read.proofs.SalesTold.{shape_is_no_sale, member_is_no_sale, sale_of}
use Rattle.ice_read.proofs.bidders.take_bidder.Goals as goal

pub returns-then-not-has_exactly-clause-refused : goal.returns-then-not-has_exactly-clause-refused
returns-then-not-has_exactly-clause-refused c = λ path. rw (← c.if-not-has_exactly.ensures) (refused 2 Shape c.of.result c.of.ensures refl path)

pub returns-in-Ok-clause-taken : goal.returns-in-Ok-clause-taken
returns-in-Ok-clause-taken c = λ path.
    let ex = c.args.exchange.now in
    let b : Bidder = record { name = c.in_ok-name.name.now; own = c.as_slice.result.now; tree = c.in_ok-tree.tree; bounds = c.in_ok-tree.bounds } in
    bidder_chain ex path (view c.args.value.now) b.name c.in_ok-own.own.items b.own b.tree b.bounds c.if-not-has_exactly.ensures (c.in_ok-name.ensures.reading path) (c.in_ok-own.ensures.reading path) c.as_slice.ensures.value (c.in_ok-tree.ensures.reading path)
    ∙ bidder_made ex path b c.in-Ok.ensures.refused
    ∙ ap (λ (e : Exchange). Ok e.bidders) (sym c.in-Ok.ensures.made.1)

pub returns-in-Err-clause-refused : goal.returns-in-Err-clause-refused
returns-in-Err-clause-refused c = λ path.
    let ex = c.args.exchange.now in
    let b : Bidder = record { name = c.in_ok-name.name.now; own = c.as_slice.result.now; tree = c.in_ok-tree.tree; bounds = c.in_ok-tree.bounds } in
    bidder_chain ex path (view c.args.value.now) b.name c.in_ok-own.own.items b.own b.tree b.bounds c.if-not-has_exactly.ensures (c.in_ok-name.ensures.reading path) (c.in_ok-own.ensures.reading path) c.as_slice.ensures.value (c.in_ok-tree.ensures.reading path)
    ∙ bidder_unmade ex path b c.in-Err.fault c.of-in-Err.result c.in-Err.ensures.refused.0 c.in-Err.ensures.refused.1 c.of-in-Err.ensures

pub returns-then-not-has_exactly-clause-sale : goal.returns-then-not-has_exactly-clause-sale
returns-then-not-has_exactly-clause-sale c = shape_is_no_sale (IsSaleOf c.args.exchange.now.goods (view c.args.value.now)) c.of.result (ap (λ (f : ReadFault). f.cause) c.of.ensures)

pub returns-in_err-name-clause-sale : goal.returns-in_err-name-clause-sale
returns-in_err-name-clause-sale c =
    let p = err_from_is_err_and c.from_residual.result c.from_residual.ensures.1 in
    rw p.1 (member_is_no_sale (IsSaleOf c.args.exchange.now.goods (view c.args.value.now)) (codes "name") text_of text_plain (view c.args.value.now) c.in_err-name.field-0.0 p.0 p.2 (c.in_err-name.ensures.reading []))

pub returns-in_err-own-clause-sale : goal.returns-in_err-own-clause-sale
returns-in_err-own-clause-sale c =
    let p = err_from_is_err_and c.from_residual-in_err-own.result c.from_residual-in_err-own.ensures.1 in
    rw p.1 (member_is_no_sale (IsSaleOf c.args.exchange.now.goods (view c.args.value.now)) (codes "own") (own_at (good_names c.args.exchange.now)) (own_plain (good_names c.args.exchange.now)) (view c.args.value.now) c.in_err-own.field-0.0 p.0 p.2 (c.in_err-own.ensures.reading []))

pub returns-in_err-tree-clause-sale : goal.returns-in_err-tree-clause-sale
returns-in_err-tree-clause-sale c =
    let p = err_from_is_err_and c.from_residual-in_err-tree.result c.from_residual-in_err-tree.ensures.1 in
    rw p.1 (member_is_no_sale (IsSaleOf c.args.exchange.now.goods (view c.args.value.now)) (codes "tree") (tree_at (good_names c.args.exchange.now)) (tree_plain (good_names c.args.exchange.now)) (view c.args.value.now) c.in_err-tree.field-0.0 p.0 p.2 (c.in_err-tree.ensures.reading []))

pub returns-in-Err-clause-sale : goal.returns-in-Err-clause-sale
returns-in-Err-clause-sale c =
    let ex = c.args.exchange.now in
    let b : Bidder = record { name = c.in_ok-name.name.now; own = c.as_slice.result.now; tree = c.in_ok-tree.tree; bounds = c.in_ok-tree.bounds } in
    sale_of ex.goods (view c.args.value.now) b c.in-Err.fault c.of-in-Err.result
    (λ path. bidder_is ex path (view c.args.value.now) b.name c.in_ok-own.own.items b.own b.tree b.bounds c.if-not-has_exactly.ensures (c.in_ok-name.ensures.reading path) (c.in_ok-own.ensures.reading path) c.as_slice.ensures.value (c.in_ok-tree.ensures.reading path))
    c.in-Err.ensures.sale c.of-in-Err.ensures
