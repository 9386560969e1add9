use Rattle.std.proofs.Common.{arith, ap, ◌∷◌}
use Rattle.ice_defs.specs.declared.Mark.TheVariants.{Must}
use Rattle.ice_defs.specs.Steps.{with_mark}
use Rattle.ice_refute.proofs.Kept.{kept_more, kept_room, waiting_more, nodes_of-with_mark}
use Rattle.ice_refute.proofs.sides.split.Goals as goal

pub push_branch-requires : goal.push_branch-requires
push_branch-requires c =
    let r = c.requires in
    let room = kept_room c.args.marks.now c.args.branches.now.items c.args.bidder c.args.node r.bidder r.node r.free r.kept in
    omega (arith, room)

pub returns-clause-sides : goal.returns-clause-sides
returns-clause-sides c =
    let r = c.requires in
    rw (c.mark.ensures, c.push_branch.ensures.items)
    (ap (λ sides. with_mark c.args.marks.now c.args.bidder c.args.node Must ∷ sides) (waiting_more c.args.marks.now c.args.branches.now.items c.args.bidder c.args.node r.bidder r.node r.free))

pub returns-clause-kept : goal.returns-clause-kept
returns-clause-kept c =
    let r = c.requires in
    rw (c.mark.ensures, c.push_branch.ensures.items) (kept_more c.args.marks.now c.args.branches.now.items c.args.bidder c.args.node r.bidder r.node r.free r.kept)

pub returns-clause-nodes : goal.returns-clause-nodes
returns-clause-nodes c = rw c.mark.ensures (nodes_of-with_mark c.args.marks.now c.args.bidder c.args.node _)
