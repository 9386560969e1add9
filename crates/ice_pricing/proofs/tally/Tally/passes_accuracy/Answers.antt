use Rattle.std.proofs.Common.{rules, sym, subst, IsTrue}
use Rattle.ice_row_laws.specs.Sums.{SumsPassAccuracy}
use Rattle.ice_pricing.specs.Tallies.{IsTallyOf}
use Rattle.ice_pricing.proofs.Tallying.{accuracy_passes, passes_accuracy}
use Rattle.ice_pricing.proofs.tally.Tally.passes_accuracy.Goals as goal

pub returns-clause-yes : goal.returns-clause-yes
returns-clause-yes c = λ rows tallied h.
    let passes : IsTrue c.pass_accuracy.result → SumsPassAccuracy c.args.trade.now.goods c.args.trade.now.cap c.args.prices.now c.args.violation c.args.den c.self.inside.sums = search rules in
    accuracy_passes c.args.trade.now c.args.prices.now c.args.violation c.args.den rows (record { count = c.self.inside.count; sums = c.self.inside.sums })
    (subst (IsTallyOf c.args.trade.now rows) (sym c.self.view_is) tallied) (passes h)

pub returns-clause-no : goal.returns-clause-no
returns-clause-no c = λ rows tallied h.
    let passes : SumsPassAccuracy c.args.trade.now.goods c.args.trade.now.cap c.args.prices.now c.args.violation c.args.den c.self.inside.sums → IsTrue c.pass_accuracy.result = search rules in
    passes (passes_accuracy c.args.trade.now c.args.prices.now c.args.violation c.args.den rows (record { count = c.self.inside.count; sums = c.self.inside.sums })
    (subst (IsTallyOf c.args.trade.now rows) (sym c.self.view_is) tallied) h)
