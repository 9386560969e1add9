use Rattle.ice_search.proofs.Splitting.{dead_is_not}
use Rattle.ice_search.proofs.sweep.kept_bound.Goals as goal

pub unreachable-requires : goal.unreachable-requires
unreachable-requires c = dead_is_not c.args.kept.now.trees c.args.kept.now.marks c.in-Dead.field-0 c.in-Dead.ensures.answer c.requires
