use Rattle.ice_proxy.proofs.Attempts.{proxy_attempt_there}
use Rattle.ice_proxy.proofs.laws.proxy_attempt_is_there.Goals as goal

pub returns : goal.returns
returns c = proxy_attempt_there
