use Rattle.ice_proxy.proofs.Sessions.{proxies_hold}
use Rattle.ice_proxy.proofs.laws.proxies_hold.Goals as goal

pub returns : goal.returns
returns c = proxies_hold
