use Rattle.std.proofs.Common.{List, ℤ, sym, subst}
use Rattle.ice_fair_laws.specs.Whole.{ArePaidOver}
use Rattle.ice_fair.specs.Lasts.{trade_of}
use Rattle.ice_fair.specs.Trades.{num_at, AreNumbers}
use Rattle.ice_fair.proofs.Keeping.{kept-numbers, kept-over}
use Rattle.ice_fair.proofs.last.Last.nums.Goals as goal

pub returns-clause-numbers : goal.returns-clause-numbers
returns-clause-numbers c =
    subst (λ (ns : List ℤ). AreNumbers (trade_of c.args.self.now.paid) c.args.self.now.cut ns) (sym c.deref.ensures.value) (kept-numbers _ _ _ _ c.self.invariant c.self.view_is)

pub returns-clause-over : goal.returns-clause-over
returns-clause-over c = subst (λ (ns : List ℤ). ArePaidOver c.args.self.now.paid c.args.self.now.cut (num_at ns)) (sym c.deref.ensures.value) (kept-over _ _ _ _ c.self.invariant c.self.view_is)
