use Rattle.std.proofs.Common.{◌≡◌, [], take, length}
use Rattle.ice_fair_stage.proofs.FairPrograms.{made_of}
use Rattle.ice_fair_stage.proofs.program.fair_program.Given as goal

abbrev pub invariant-loop-good : goal.invariant-loop-good
invariant-loop-good l = l.program ≡ made_of l.trade l.at l.good 0 []

abbrev pub invariant-loop-bidder : goal.invariant-loop-bidder
invariant-loop-bidder l = l.program ≡ made_of l.trade l.at l.trade.goods l.bidder []

abbrev pub invariant-loop-member : goal.invariant-loop-member
invariant-loop-member l = l.program ≡ made_of l.trade l.at l.trade.goods (length l.trade.trees) (take l.member-index l.pool)
