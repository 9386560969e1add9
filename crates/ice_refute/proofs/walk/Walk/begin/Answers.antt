use Rattle.std.proofs.Common.{arith, ◌≡◌, ◌∙◌, ap, sym, sum, ◌≤◌}
use Rattle.ice_refute.specs.Waiting.{WalkView, nodes_of}
use Rattle.ice_refute.proofs.Kept.{kept_at_start}
use Rattle.ice_refute.proofs.walk.Walk.begin.Goals as goal
use Rattle.ice_refute.proofs.NodeCounts.{same_count, same_nodes}

pub invariant_of-self : goal.invariant_of-self
invariant_of-self c =
    let same : nodes_of c.args.start.now ≡ nodes_of c.self.inside.marks = c.requires.nodes ∙ sym (ap (λ (v : WalkView). v.nodes) c.self.view_is) in
    let few : sum (nodes_of c.args.start.now) ≤ 2000 = omega (arith, ap sum same, c.self.invariant.few) in
    let room = c.self.invariant.room in
    rw (c.copy_fixings.ensures, c.clear.ensures.items) (record { kept = kept_at_start c.args.start.now few; few = few; room = omega (arith, room) })

pub copy_fixings-requires-clause-bidders : goal.copy_fixings-requires-clause-bidders
copy_fixings-requires-clause-bidders c =
    same_count c.args.start.now c.self.inside.marks (c.requires.nodes ∙ sym (ap (λ (v : WalkView). v.nodes) c.self.view_is))

pub copy_fixings-requires-clause-nodes : goal.copy_fixings-requires-clause-nodes
copy_fixings-requires-clause-nodes c b h =
    same_nodes c.args.start.now c.self.inside.marks b (c.requires.nodes ∙ sym (ap (λ (v : WalkView). v.nodes) c.self.view_is))
