use Rattle.ice_pricing_laws.proofs.Scans.{scan_gives_violation}
use Rattle.ice_pricing_laws.proofs.scan_gives_violation.Goals as goal

pub returns : goal.returns
returns c = scan_gives_violation
