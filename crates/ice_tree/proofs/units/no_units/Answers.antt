use Rattle.std.proofs.Common.{pos}
use Rattle.std.proofs.lemmas.List.{get_or-replicate}
use Rattle.ice_tree.proofs.units.no_units.Goals as goal

pub returns : goal.returns
returns c g h = get_or-replicate 32 g (pos 0) (pos 0) h
