use Rattle.std.proofs.Common.{◌≡◌, IsTrue, rules}
use Rattle.ice_defs.specs.Prices.{ArePrices}
use Rattle.ice_defs.specs.Rows.{PassesAccuracy, PassesBalance, HasCommonDivisor}
use Rattle.ice_row_laws.proofs.Balanced.{tests_give_balanced}
use Rattle.ice_pricing.specs.Provisional.{IsProvisional}
use Rattle.ice_pricing.specs.Priced.{HasViolation}
use Rattle.ice_pricing.proofs.Violations.{violation-same}
use Rattle.ice_pricing.proofs.certificate.Pricing.passes.Goals as goal

pub returns-then-passes_accuracy-clause-yes : goal.returns-then-passes_accuracy-clause-yes
returns-then-passes_accuracy-clause-yes c =
    let within : ArePrices c.args.trade.now.goods c.args.trade.now.cap c.args.self.now.prices = search rules in
    let lowest : ¬ HasCommonDivisor c.args.self.now.prices = search rules in
    let violates : HasViolation c.args.trade.now c.args.self.now.prices c.args.self.now.delta = search rules in
    let accurate : PassesAccuracy c.args.trade.now.trees c.args.trade.now.weights c.args.trade.now.sets c.args.trade.now.goods c.args.trade.now.cap c.args.self.now.prices c.args.self.now.delta c.args.self.now.accuracy = search rules in
    let balanced : IsTrue c.passes_balance.result → PassesBalance c.args.trade.now.trees c.args.trade.now.weights c.args.trade.now.sets c.args.trade.now.goods c.args.self.now.prices c.args.self.now.delta c.args.self.now.balance = search rules in
    λ h. record { within = within; lowest = lowest; violates = violates; accurate = accurate; balanced = balanced h }

pub returns-then-passes_accuracy-clause-no : goal.returns-then-passes_accuracy-clause-no
returns-then-passes_accuracy-clause-no c =
    let passes : PassesBalance c.args.trade.now.trees c.args.trade.now.weights c.args.trade.now.sets c.args.trade.now.goods c.args.self.now.prices c.args.self.now.delta c.args.self.now.balance → IsTrue c.passes_balance.result = search rules in
    λ h. passes h.balanced

pub returns-else-passes_accuracy-clause-no : goal.returns-else-passes_accuracy-clause-no
returns-else-passes_accuracy-clause-no c =
    let passes : PassesAccuracy c.args.trade.now.trees c.args.trade.now.weights c.args.trade.now.sets c.args.trade.now.goods c.args.trade.now.cap c.args.self.now.prices c.args.self.now.delta c.args.self.now.accuracy → IsTrue c.passes_accuracy.result = search rules in
    λ h. passes h.accurate

pub returns-then-violation-self-clause-no : goal.returns-then-violation-self-clause-no
returns-then-violation-self-clause-no c =
    let apart : ¬ (c.violation.result ≡ c.args.self.now.delta) = search rules in
    λ h. absurd (apart (violation-same c.args.trade.now c.args.self.now.prices c.violation.result c.args.self.now.delta c.violation.ensures.violation h.violates))

pub returns-then-passes_accuracy-clause-balanced : goal.returns-then-passes_accuracy-clause-balanced
returns-then-passes_accuracy-clause-balanced c =
    let t = c.args.trade.now in
    let p = c.args.self.now in
    let proper : IsProvisional c.args.trade.now = search rules in
    λ h. let passes = returns-then-passes_accuracy-clause-yes c h in
    tests_give_balanced t.trees t.weights t.sets t.goods t.cap p.prices p.delta p.accuracy p.balance
    proper.satisfied passes.within passes.violates passes.accurate passes.balanced
