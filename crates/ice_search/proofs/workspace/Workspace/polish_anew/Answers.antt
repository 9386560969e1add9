use Rattle.std.proofs.Common.{sym, subst}
use Rattle.ice_defs.specs.Sweep.{IsLive}
use Rattle.ice_search.specs.Workspace.{Looking}
use Rattle.ice_search.proofs.workspace.Workspace.polish_anew.Goals as goal

pub polish-requires-clause-live : goal.polish-requires-clause-live
polish-requires-clause-live c = subst (λ (l : Looking). IsLive l.instance.trees l.side) (sym c.near.ensures) c.requires.live

pub polish-requires-in-None-clause-live : goal.polish-requires-in-None-clause-live
polish-requires-in-None-clause-live c = subst (λ (l : Looking). IsLive l.instance.trees l.side) (sym c.near.ensures) c.requires.live
