use Rattle.ice_pricing_laws.proofs.Scans.{scan_finds_none}
use Rattle.ice_pricing_laws.proofs.scan_finds_none.Goals as goal

pub returns : goal.returns
returns c = scan_finds_none
