use Rattle.ice_check_records.proofs.Changes.{numbers_in_range}
use Rattle.ice_check_records.proofs.steps_in.leaf_of.Goals as goal

pub multipliers_of-requires-clause-range : goal.multipliers_of-requires-clause-range
multipliers_of-requires-clause-range c = numbers_in_range c.args.numbers.now c.requires.1
