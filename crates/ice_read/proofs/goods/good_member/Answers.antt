use Rattle.std.proofs.Common.{refl}
use Rattle.ice_read.specs.declared.cause.ReadCause.TheVariants.{UnknownGood}
use Rattle.ice_read.proofs.PlacesOfFaults.{refused_part}
use Rattle.ice_read.proofs.goods.good_member.Goals as goal

pub returns-in-None-clause-reading : goal.returns-in-None-clause-reading
returns-in-None-clause-reading c = λ path. rw (c.in_ok-good.ensures.reading path, ← c.in-None.ensures) (refused_part 5 UnknownGood c.args.name.now c.of.result c.under.result c.of.ensures c.under.ensures refl path)
