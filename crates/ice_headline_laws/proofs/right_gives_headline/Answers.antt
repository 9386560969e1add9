use Rattle.ice_headline_laws.proofs.Promised.{right_gives_headline}
use Rattle.ice_headline_laws.proofs.right_gives_headline.Goals as goal

pub returns : goal.returns
returns c = right_gives_headline
