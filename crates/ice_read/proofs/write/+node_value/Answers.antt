use Rattle.std.proofs.Common.{◌≡◌, ◌∙◌, sym, subst, rules, to_z, of_z, w64}
use Rattle.std.proofs.lemmas.Result.{IfOk-weaker}
use Rattle.ice_defs.specs.declared.NodeKind.TheVariants.{Buy, Sell}
use Rattle.ice_defs.specs.Lawful.{IsLimitedKind}
use Rattle.ice_read.proofs.ListSpelling.{buy_written, sell_written, choose_written}
use Rattle.ice_read.proofs.write.+node_value.Goals as goal
use Rattle.std.specs.Prelude.{length}

pub returns-in-Buy : goal.returns-in-Buy
returns-in-Buy t c =
    let fits : IsLimitedKind (length c.args.ex.now.goods) (Buy c.in-Buy.good c.in-Buy.units) = subst (IsLimitedKind (length c.args.ex.now.goods)) (sym c.in-Buy.ensures) (c.requires.tree.kinds c.args.node c.requires.node) in
    let lo_kept : to_z w64 (of_z w64 c.lo-lo.result) ≡ c.lo-lo.result = search rules in
    let hi_kept : to_z w64 (of_z w64 c.hi-hi.result) ≡ c.hi-hi.result = search rules in
    IfOk-weaker c.buy_value.result _ _ (λ v is. is ∙ buy_written c.args.ex.now c.args.tree.now c.args.bounds.now c.args.levels c.args.node c.if-levels-eq0.false (to_z w64 (of_z w64 c.lo-lo.result)) (to_z w64 (of_z w64 c.hi-hi.result)) (lo_kept ∙ c.lo-lo.ensures) (hi_kept ∙ c.hi-hi.ensures) c.in-Buy.good c.in-Buy.units c.good_name.result.now c.in-Buy.ensures fits.0 c.good_name.ensures) c.buy_value.ensures

pub returns-in-Sell : goal.returns-in-Sell
returns-in-Sell t c =
    let fits : IsLimitedKind (length c.args.ex.now.goods) (Sell c.in-Sell.good c.in-Sell.units) = subst (IsLimitedKind (length c.args.ex.now.goods)) (sym c.in-Sell.ensures) (c.requires.tree.kinds c.args.node c.requires.node) in
    let lo_kept : to_z w64 (of_z w64 c.lo-lo.result) ≡ c.lo-lo.result = search rules in
    let hi_kept : to_z w64 (of_z w64 c.hi-hi.result) ≡ c.hi-hi.result = search rules in
    IfOk-weaker c.sell_value.result _ _ (λ v is. is ∙ sell_written c.args.ex.now c.args.tree.now c.args.bounds.now c.args.levels c.args.node c.if-levels-eq0.false (to_z w64 (of_z w64 c.lo-lo.result)) (to_z w64 (of_z w64 c.hi-hi.result)) (lo_kept ∙ c.lo-lo.ensures) (hi_kept ∙ c.hi-hi.ensures) c.in-Sell.good c.in-Sell.units c.good_name-in-Sell.result.now c.in-Sell.ensures fits.0 c.good_name-in-Sell.ensures) c.sell_value.ensures

pub returns-after-loop-child : goal.returns-after-loop-child
returns-after-loop-child t c =
    let lo_kept : to_z w64 (of_z w64 c.lo-lo.result) ≡ c.lo-lo.result = search rules in
    let hi_kept : to_z w64 (of_z w64 c.hi-hi.result) ≡ c.hi-hi.result = search rules in
    IfOk-weaker c.choose_value.result _ _ (λ v is. is ∙ choose_written c.args.ex.now c.args.tree.now c.args.bounds.now c.args.levels c.args.node c.if-levels-eq0.false (to_z w64 (of_z w64 c.lo-lo.result)) (to_z w64 (of_z w64 c.hi-hi.result)) (lo_kept ∙ c.lo-lo.ensures) (hi_kept ∙ c.hi-hi.ensures) c.in-Choose.least c.in-Choose.most c.loop-child.child-index c.children-child-items.result.now c.loop-child.children.items c.in-Choose.ensures c.children-child-items.ensures.value c.loop-child.invariant c.loop-child-test.false) c.choose_value.ensures
