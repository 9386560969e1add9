use Rattle.ice_proxy_laws.proofs.Written.{run_submits_proxies}
use Rattle.ice_proxy_laws.proofs.run_submits_proxies.Goals as goal

pub returns : goal.returns
returns c = run_submits_proxies
