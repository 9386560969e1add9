use Rattle.std.proofs.Common.{sym, subst}
use Rattle.ice_defs.specs.Sweep.{IsLive}
use Rattle.ice_search.specs.Workspace.{Looking}
use Rattle.ice_search.proofs.workspace.Workspace.polish_marked.Goals as goal

pub polish_anew-requires-clause-live : goal.polish_anew-requires-clause-live
polish_anew-requires-clause-live c = subst (λ (l : Looking). IsLive l.instance.trees l.side) (sym c.look_at_tree.ensures) c.requires.live
