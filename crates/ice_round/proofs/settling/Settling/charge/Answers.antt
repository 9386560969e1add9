use Rattle.std.proofs.Common.{sym, subst}
use Rattle.ice_round.specs.Shown.{IsClosing}
use Rattle.ice_round.proofs.settling.Settling.charge.Goals as goal

pub returns-in-Ok : goal.returns-in-Ok
returns-in-Ok c = subst (IsClosing c.args.self.session) (sym c.with.ensures) (c.in-Ok.ensures.closing c.args.marginals c.requires.found)
