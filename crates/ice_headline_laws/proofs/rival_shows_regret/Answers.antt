use Rattle.ice_headline_laws.proofs.Shown.{rival_shows_regret}
use Rattle.ice_headline_laws.proofs.rival_shows_regret.Goals as goal

pub returns : goal.returns
returns c = rival_shows_regret
