use Rattle.std.proofs.Common.{◌≡◌}
use Rattle.ice_gen.proofs.Packaging.{leaves}
use Rattle.ice_gen.proofs.buyer.add_package.Given as goal

abbrev pub invariant-loop-place : goal.invariant-loop-place
invariant-loop-place l = l.maker ≡ leaves l.initial.maker l.first l.place
