use Rattle.std.proofs.Common.{rules, sym, subst, IsTrue}
use Rattle.ice_row_laws.specs.Sums.{SumsPassBalance}
use Rattle.ice_pricing.specs.Tallies.{IsTallyOf}
use Rattle.ice_pricing.proofs.Tallying.{balance_passes, passes_balance}
use Rattle.ice_pricing.proofs.tally.Tally.passes_balance.Goals as goal

pub returns-clause-yes : goal.returns-clause-yes
returns-clause-yes c = λ rows tallied h.
    let passes : IsTrue c.pass_balance.result → SumsPassBalance c.args.trade.now.goods c.args.prices.now c.args.violation c.args.den c.self.inside.sums = search rules in
    balance_passes c.args.trade.now c.args.prices.now c.args.violation c.args.den rows (record { count = c.self.inside.count; sums = c.self.inside.sums })
    (subst (IsTallyOf c.args.trade.now rows) (sym c.self.view_is) tallied) (passes h)

pub returns-clause-no : goal.returns-clause-no
returns-clause-no c = λ rows tallied h.
    let passes : SumsPassBalance c.args.trade.now.goods c.args.prices.now c.args.violation c.args.den c.self.inside.sums → IsTrue c.pass_balance.result = search rules in
    passes (passes_balance c.args.trade.now c.args.prices.now c.args.violation c.args.den rows (record { count = c.self.inside.count; sums = c.self.inside.sums })
    (subst (IsTallyOf c.args.trade.now rows) (sym c.self.view_is) tallied) h)
