use Rattle.std.proofs.Common.{◌≡◌, ◌<◌, [], length, arith, ap, sym, subst, ◌∙◌}
use Rattle.std.proofs.lemmas.List.{get_or_default}
use Rattle.ice_defs.specs.Trade.{weights_of}
use Rattle.ice_derived.specs.Ranges.{AreAmounts}
use Rattle.ice_derived.proofs.amounts.Amounts.of.Goals as goal

pub returns-clause-range : goal.returns-clause-range
returns-clause-range c =
    let rows = c.self.inside.rows.items in
    let inside : c.args.bidder < length rows = omega (arith, c.requires, ap length c.self.view_is) in
    let row : c.index.result.now ≡ weights_of rows c.args.bidder = c.index.ensures ∙ get_or_default rows c.args.bidder c.index.result.now [] inside in
    subst AreAmounts (sym row) (c.self.invariant c.args.bidder inside)
