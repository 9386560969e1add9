use Rattle.std.proofs.Common.{ap, ◌∙◌, ◌≡◌}
use Rattle.std.proofs.lemmas.Int.{to_z-of_z}
use mir.Syntax.{w128}
use Rattle.ice_refute.specs.Waiting.{WalkView, first_side}
use Rattle.ice_refute.proofs.Kept.{few_sides}
use Rattle.ice_refute.proofs.NodeCounts.{fixings_of_nodes}
use Rattle.ice_refute.proofs.Opening.{can_branch, first_is}
use Rattle.ice_refute.proofs.walk.Walk.step.Goals as goal

pub judge-requires-clause-marks : goal.judge-requires-clause-marks
judge-requires-clause-marks c = fixings_of_nodes c.args.trees.now c.self.inside.marks (ap (λ (v : WalkView). v.nodes) c.self.view_is ∙ c.requires.nodes)

pub advance-self-inside-requires-clause-passes : goal.advance-self-inside-requires-clause-passes
advance-self-inside-requires-clause-passes c =
    can_branch c.args.trees.now c.args.desk.now.room c.args.weights.now _ c.self.inside.marks _
    (fixings_of_nodes c.args.trees.now c.self.inside.marks (ap (λ (v : WalkView). v.nodes) c.self.view_is ∙ c.requires.nodes)) c.in_ok-judge.ensures.ok

pub returns-clause-ok : goal.returns-clause-ok
returns-clause-ok c =
    let marks : c.self.inside.marks ≡ first_side c.args.self.now.sides =
    first_is c.self.inside.is_open c.self.inside.marks c.self.inside.branches.items c.args.self.now.sides (ap (λ (v : WalkView). v.sides) c.self.view_is) c.requires.opened in
    rw (← marks, ← to_z-of_z w128 c.args.target c.ranges.target) c.in_ok-judge.ensures.ok

pub returns-clause-few : goal.returns-clause-few
returns-clause-few c = few_sides c.advance-self-inside.result c.advance-self-inside.new.marks c.advance-self-inside.new.branches.items c.advance-self-inside.ensures.kept
