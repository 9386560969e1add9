use Rattle.ice_defs.specs.Set.{has, weight_of}
use Rattle.ice_best.proofs.Offers.{AreListed}
use Rattle.ice_best.proofs.choice.list_offers.Given as goal

abbrev pub invariant-loop-child : goal.invariant-loop-child
invariant-loop-child l = AreListed (weight_of l.gain) (has l.possible) (has l.taken) l.children l.child-index l.count l.offers
