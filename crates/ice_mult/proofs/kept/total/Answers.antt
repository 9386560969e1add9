use Rattle.ice_bound.proofs.Living.{live_not_dead}
use Rattle.ice_mult.proofs.kept.total.Goals as goal

pub unreachable-requires : goal.unreachable-requires
unreachable-requires c = live_not_dead c.args.kept.now.trees c.args.kept.now.marks _ c.requires c.in-Dead.ensures.answer.there c.in-Dead.ensures.answer.dead
