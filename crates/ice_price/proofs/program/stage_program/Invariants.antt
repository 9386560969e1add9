use Rattle.std.proofs.Common.{◌≡◌, [], take}
use Rattle.ice_price.proofs.Programs.{made_of}
use Rattle.ice_price.proofs.program.stage_program.Given as goal

abbrev pub invariant-loop-good : goal.invariant-loop-good
invariant-loop-good l = l.program ≡ made_of l.trade l.at l.good []

abbrev pub invariant-loop-member : goal.invariant-loop-member
invariant-loop-member l = l.program ≡ made_of l.trade l.at l.trade.goods (take l.member-index l.pool)
