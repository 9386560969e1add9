use Rattle.std.proofs.Common.{◌∙◌}
use Rattle.ice_trial.proofs.generated.made_again.Goals as goal

pub returns-clause-exchange : goal.returns-clause-exchange
returns-clause-exchange c = c.in_ok-exchange-2.ensures ∙ c.in_ok-exchange.ensures.exchange
