use Rattle.std.proofs.Common.{refl, sym, ◌∙◌}
use Rattle.serde_json.specs.View.{view}
use Rattle.ice_read.specs.declared.cause.ReadCause.TheVariants.{Shape}
use Rattle.ice_read.proofs.PlacesOfFaults.{refused}
use Rattle.ice_read.proofs.RoundParts.{no_bid}
use Rattle.ice_read.proofs.round.bid_at.Goals as goal

pub returns-then-not-has_exactly-clause-reading : goal.returns-then-not-has_exactly-clause-reading
returns-then-not-has_exactly-clause-reading c = λ path. no_bid path (view c.args.value.now) (sym c.if-not-has_exactly.ensures) ∙ refused 2 Shape c.of.result c.of.ensures refl path
