use Rattle.ice_round_laws.proofs.Others.{others_swap}
use Rattle.ice_round_laws.proofs.others_swap.Goals as goal

pub returns : goal.returns
returns c = others_swap
