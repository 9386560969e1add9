use Rattle.ice_proxy.proofs.Attempts.{proxy_attempt_is_one}
use Rattle.ice_proxy.proofs.laws.proxy_attempt_is_one.Goals as goal

pub returns : goal.returns
returns c = proxy_attempt_is_one
