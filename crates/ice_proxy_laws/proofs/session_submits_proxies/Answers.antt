use Rattle.ice_proxy_laws.proofs.Written.{session_submits_proxies}
use Rattle.ice_proxy_laws.proofs.session_submits_proxies.Goals as goal

pub returns : goal.returns
returns c = session_submits_proxies
