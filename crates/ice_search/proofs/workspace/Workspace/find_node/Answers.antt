use Rattle.std.proofs.Common.{subst}
use Rattle.std.specs.Prelude.{IfNone}
use Rattle.ice_search_log.specs.Nodes.{HasNoNode}
use Rattle.ice_search.proofs.workspace.Workspace.find_node.Goals as goal

pub returns-clause-none : goal.returns-clause-none
returns-clause-none c =
    let kept = c.self.inside.kept in
    subst (λ l. IfNone c.find.result (HasNoNode l.instance.trees l.side)) c.self.view_is
    (subst (λ ts. IfNone c.find.result (HasNoNode ts kept.marks)) c.self.invariant.trees c.find.ensures.none)
