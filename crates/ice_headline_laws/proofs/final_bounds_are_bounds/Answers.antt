use Rattle.ice_headline_laws.proofs.Rounds.{final_bounds_are_bounds}
use Rattle.ice_headline_laws.proofs.final_bounds_are_bounds.Goals as goal

pub returns : goal.returns
returns c = final_bounds_are_bounds
