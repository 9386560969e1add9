use Rattle.ice_refute.proofs.Derived.{lawful_grows}
use Rattle.ice_refute.proofs.laws.lawful_lists_grow.Goals as goal

pub returns : goal.returns
returns c = lawful_grows
