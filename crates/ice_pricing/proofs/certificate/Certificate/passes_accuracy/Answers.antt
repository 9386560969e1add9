use Rattle.std.proofs.Common.{rules, IsTrue}
use Rattle.ice_row_laws.specs.Sums.{SumsPassAccuracy}
use Rattle.ice_row_laws.proofs.Sums.{sums_decide_accuracy}
use Rattle.ice_pricing.proofs.certificate.Certificate.passes_accuracy.Goals as goal

pub returns-in-Some-clause-yes : goal.returns-in-Some-clause-yes
returns-in-Some-clause-yes c =
    let passes : IsTrue c.pass_accuracy.result → SumsPassAccuracy c.args.trade.now.goods c.args.trade.now.cap c.args.prices.now c.args.violation c.args.self.now.den c.in-Some.sums = search rules in
    λ h. (sums_decide_accuracy c.args.trade.now.trees c.args.trade.now.weights c.args.trade.now.sets c.args.trade.now.goods c.args.trade.now.cap c.args.prices.now c.args.violation c.args.self.now c.in-Some.sums c.in-Some.ensures.sums.0 c.in-Some.ensures.sums.1).1 (passes h)

pub returns-in-Some-clause-no : goal.returns-in-Some-clause-no
returns-in-Some-clause-no c =
    let passes : SumsPassAccuracy c.args.trade.now.goods c.args.trade.now.cap c.args.prices.now c.args.violation c.args.self.now.den c.in-Some.sums → IsTrue c.pass_accuracy.result = search rules in
    λ h. passes ((sums_decide_accuracy c.args.trade.now.trees c.args.trade.now.weights c.args.trade.now.sets c.args.trade.now.goods c.args.trade.now.cap c.args.prices.now c.args.violation c.args.self.now c.in-Some.sums c.in-Some.ensures.sums.0 c.in-Some.ensures.sums.1).0 h)
