use Rattle.std.proofs.Common.{subst, ap, ◌∙◌, ◌≡◌}
use Rattle.std.specs.Prelude.{IfNone}
use Rattle.ice_search_log.specs.Nodes.{HasNoNode}
use Rattle.ice_search.proofs.progress.Progress.find_node.Goals as goal
use Rattle.ice_search.proofs.progress.Progress.find_node.Goals.{in-Some+else-splits, in_default}

pub returns-clause-none : goal.returns-clause-none
returns-clause-none c =
    let same : c.match-most_promising.self-inside.space ≡ c.self.inside.space =
    elim c.match-most_promising.branch [
      | in-Some+else-splits w ↦ ap (λ i. i.space) w.self-inside-is ∙ w.splits.ensures.same ∙ c.most_promising.ensures
      | in_default w ↦ ap (λ i. i.space) w.self-inside-is ∙ c.most_promising.ensures
    ] in
    subst (λ t. IfNone c.find_node.result (HasNoNode t.instance.trees t.side)) c.self.view_is
    (subst (λ l. IfNone c.find_node.result (HasNoNode l.instance.trees l.side)) same c.find_node.ensures.none)
