use Rattle.std.proofs.Common.{◌∙◌, refl}
use Rattle.serde_json.specs.View.{view}
use Rattle.ice_read.specs.declared.cause.ReadCause.TheVariants.{Shape}
use Rattle.ice_read.proofs.PlacesOfFaults.{refused}
use Rattle.ice_read.proofs.GoodsAndBidders.{no_good}
use Rattle.ice_read.proofs.goods.good_of.Goals as goal

pub returns-then-not-has_exactly-clause-reading : goal.returns-then-not-has_exactly-clause-reading
returns-then-not-has_exactly-clause-reading c = λ path. no_good (view c.args.value.now) path c.in_default.ensures c.if-not-has_exactly.ensures ∙ refused 2 Shape c.of.result c.of.ensures refl path
