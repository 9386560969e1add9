use Rattle.ice_pricing_laws.proofs.Scans.{certificate_fits}
use Rattle.ice_pricing_laws.proofs.certificate_fits.Goals as goal

pub returns : goal.returns
returns c = certificate_fits
