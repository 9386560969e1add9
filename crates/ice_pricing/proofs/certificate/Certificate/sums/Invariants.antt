use Rattle.ice_pricing.proofs.Summing.{AreSummed}
use Rattle.ice_pricing.proofs.certificate.Certificate.sums.Given as goal

abbrev pub invariant-loop-row : goal.invariant-loop-row
invariant-loop-row l = AreSummed l.trade l.self.rows l.row-index l.sums
