use Rattle.std.proofs.Common.{◌≡◌, IsTrue, arith, rules}
use Rattle.std.proofs.lemmas.Int.{ints}
use Rattle.ice_defs.specs.Prices.{ArePrices}
use Rattle.ice_defs.specs.Rows.{PassesAccuracy, HasCommonDivisor}
use Rattle.ice_pricing.specs.Priced.{HasViolation}
use Rattle.ice_pricing.proofs.Violations.{violation-same}
use Rattle.ice_fair.proofs.check.are_accurate.Goals as goal

pub returns-then-violation-clause-no : goal.returns-then-violation-clause-no
returns-then-violation-clause-no c =
    let apart : ¬ (c.violation.result ≡ c.args.violation) = search rules in
    λ h. absurd (apart (violation-same c.args.trade.now c.args.prices.now c.violation.result c.args.violation c.violation.ensures.violation h.violates))

pub returns-clause-yes : goal.returns-clause-yes
returns-clause-yes c =
    let within : ArePrices c.args.trade.now.goods c.args.trade.now.cap c.args.prices.now = search rules in
    let lowest : ¬ HasCommonDivisor c.args.prices.now = search rules in
    let violates : HasViolation c.args.trade.now c.args.prices.now c.args.violation = search rules in
    let accurate : IsTrue c.passes_accuracy.result → PassesAccuracy c.args.trade.now.trees c.args.trade.now.weights c.args.trade.now.sets c.args.trade.now.goods c.args.trade.now.cap c.args.prices.now c.args.violation c.args.accuracy.now = search rules in
    λ h. record { within = within; lowest = lowest; violates = violates; accurate = accurate h }

pub returns-clause-no : goal.returns-clause-no
returns-clause-no c =
    let passes : PassesAccuracy c.args.trade.now.trees c.args.trade.now.weights c.args.trade.now.sets c.args.trade.now.goods c.args.trade.now.cap c.args.prices.now c.args.violation c.args.accuracy.now → IsTrue c.passes_accuracy.result = search rules in
    λ h. passes h.accurate

pub returns-clause-low : goal.returns-clause-low
returns-clause-low c =
    let same : c.violation.result ≡ c.args.violation = search rules in
    λ _. omega (arith, ints, same, c.violation.ensures.low)

pub returns-clause-high : goal.returns-clause-high
returns-clause-high c =
    let same : c.violation.result ≡ c.args.violation = search rules in
    λ _. omega (arith, ints, same, c.violation.ensures.high)
