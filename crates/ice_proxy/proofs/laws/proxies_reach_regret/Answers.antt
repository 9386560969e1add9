use Rattle.ice_proxy.proofs.Sessions.{proxies_reach_regret}
use Rattle.ice_proxy.proofs.laws.proxies_reach_regret.Goals as goal

pub returns : goal.returns
returns c = proxies_reach_regret
