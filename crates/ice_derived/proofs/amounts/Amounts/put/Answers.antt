use Rattle.std.proofs.lemmas.List.{get_or_default}
use Rattle.std.proofs.Common.{◌≡◌, ◌<◌, ◌∙◌, [], length, set, arith, rules, ap, sym, subst, to_z, of_z}
use mir.Syntax.{w128}
use Rattle.ice_defs.specs.Trade.{weights_of}
use Rattle.ice_derived.specs.Ranges.{AreAmounts}
use Rattle.ice_derived.proofs.Fitting.{put_amounts, put_amount}
use Rattle.ice_derived.proofs.amounts.Amounts.put.Goals as goal

pub invariant_of-self : goal.invariant_of-self
invariant_of-self c =
    let rows = c.self.inside.rows.items in
    let inside : c.args.bidder < length rows = omega (arith, c.requires.bidder, ap length c.self.view_is) in
    let row : c.index_mut.result.now ≡ weights_of rows c.args.bidder = c.index_mut.ensures.value ∙ get_or_default rows c.args.bidder c.index_mut.result.now [] inside in
    let same : to_z w128 (of_z w128 c.from.result) ≡ c.args.amount = search rules in
    let range : AreAmounts c.index_mut.result.now = subst AreAmounts (sym row) (c.self.invariant c.args.bidder inside) in
    rw (c.put.ensures, same) (put_amounts rows c.args.bidder (set c.index_mut.result.now c.args.node c.args.amount) c.self.invariant (put_amount c.index_mut.result.now c.args.node c.args.amount range c.requires.range))
