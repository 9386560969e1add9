use Rattle.std.proofs.Common.{refl}
use Rattle.ice_read.specs.declared.cause.ReadCause.TheVariants.{Shape}
use Rattle.ice_read.proofs.PlacesOfFaults.{refused}
use Rattle.ice_xor.proofs.packages.package_of.Goals as goal

pub returns-then-not-has_exactly-clause-reading : goal.returns-then-not-has_exactly-clause-reading
returns-then-not-has_exactly-clause-reading c = λ other path. rw (← c.if-not-has_exactly.ensures) (refused 2 Shape c.of.result c.of.ensures refl path)
