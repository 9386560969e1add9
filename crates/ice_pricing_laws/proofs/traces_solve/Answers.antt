use Rattle.ice_pricing_laws.proofs.Traces.{traces_solve}
use Rattle.ice_pricing_laws.proofs.traces_solve.Goals as goal

pub returns : goal.returns
returns c = traces_solve
