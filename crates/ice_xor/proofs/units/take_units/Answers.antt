use Rattle.std.proofs.Common.{refl, arith, append-nil}
use Rattle.serde_json.specs.View.{view}
use Rattle.ice_defs.specs.FileFault.{Path}
use Rattle.ice_defs.specs.Lawful.{good_names}
use Rattle.ice_read.specs.declared.cause.ReadCause.TheVariants.{UnknownGood}
use Rattle.ice_read.proofs.PlacesOfFaults.{refused, deeper}
use Rattle.ice_read.proofs.GoodNames.{short_good}
use Rattle.ice_xor.specs.FlatFile.{amount_at}
use Rattle.ice_xor.proofs.units.take_units.Goals as goal

pub returns-in_default-clause-refused : goal.returns-in_default-clause-refused
returns-in_default-clause-refused c = λ other path. rw (← c.in_default.ensures) (refused 5 UnknownGood c.of.result c.of.ensures refl path)

pub under-requires : goal.under-requires
under-requires c =
    let short = short_good c.args.name.now (good_names c.args.exchange.now) c.in-Some.good c.requires c.in-Some.ensures in
    rw c.in-Err.ensures.place (omega (arith, short))

pub returns-in-Err-clause-refused : goal.returns-in-Err-clause-refused
returns-in-Err-clause-refused c = λ other path.
    let read = λ (p : Path). amount_at p (view c.args.value.now) in
    rw (← c.in-Some.ensures, deeper read c.args.name.now c.in-Err.fault c.under.result c.in-Err.ensures.reading c.under.ensures path)

pub returns-in-Err-clause-short : goal.returns-in-Err-clause-short
returns-in-Err-clause-short c =
    let short = short_good c.args.name.now (good_names c.args.exchange.now) c.in-Some.good c.requires c.in-Some.ensures in
    rw (c.under.ensures, c.in-Err.ensures.place, append-nil c.args.name.now) (omega (arith, short))
