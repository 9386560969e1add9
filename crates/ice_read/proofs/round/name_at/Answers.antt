use Rattle.std.proofs.Common.{refl, ◌∙◌}
use Rattle.ice_trade.specs.declared.faults.MakeFault.TheVariants.{BadName}
use Rattle.ice_read.specs.declared.cause.ReadCause.TheVariants.{Make}
use Rattle.ice_read.proofs.PlacesOfFaults.{refused}
use Rattle.ice_read.proofs.RoundParts.{no_name}
use Rattle.ice_read.proofs.round.name_at.Goals as goal

pub returns-in_default-clause-reading : goal.returns-in_default-clause-reading
returns-in_default-clause-reading c = λ path. no_name path _ c.in_ok-text.text.now (c.in_ok-text.ensures.reading path) c.in_default.ensures ∙ refused 13 (Make BadName) c.of.result c.of.ensures refl path
