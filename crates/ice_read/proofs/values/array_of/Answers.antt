use Rattle.ice_read.specs.declared.cause.ReadCause.TheVariants.{Shape}
use Rattle.std.proofs.Common.{refl}
use Rattle.ice_read.proofs.PlacesOfFaults.{refused}
use Rattle.ice_read.proofs.values.array_of.Goals as goal

pub returns-in_default-clause-reading : goal.returns-in_default-clause-reading
returns-in_default-clause-reading c = λ path. rw (← c.in_default.ensures) (refused 2 Shape c.of.result c.of.ensures refl path)
