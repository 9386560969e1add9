use Rattle.std.proofs.Common.{List, sym, ◌∙◌, subst}
use Rattle.ice_defs.specs.Bounds.{Bounds}
use Rattle.ice_pricing.specs.Bounding as priced
use Rattle.ice_trade.proofs.Weighted.{length-trees}
use Rattle.ice_last.proofs.Constructed.{bidders_bounds, all_short}
use Rattle.ice_last.proofs.reading.settled.Goals as goal

pub new-requires-clause-bounds : goal.new-requires-clause-bounds
new-requires-clause-bounds c =
    let x = c.args.session in
    subst (λ (bounds : List Bounds). priced.AreBoundsOf x.exchange bounds) (sym c.deref.ensures.value) (bidders_bounds x.exchange x.bounds.items c.requires.bounds)

pub new-requires-clause-count : goal.new-requires-clause-count
new-requires-clause-count c = c.requires.count ∙ length-trees c.args.session.exchange

pub new-requires-clause-short : goal.new-requires-clause-short
new-requires-clause-short c = all_short c.args.payments.items c.requires.fields
