use Rattle.std.proofs.Common.{pos}
use Rattle.std.specs.Prelude.{decimal}
use Rattle.serde_json.specs.View.{view}
use Rattle.ice_defs.specs.FileFault.{Path}
use Rattle.ice_read.specs.Values.{whole_of}
use Rattle.ice_read.proofs.PlacesOfFaults.{deeper}
use Rattle.ice_read.proofs.choose.bound_of.Goals as goal

pub returns-in-Err-clause-reading : goal.returns-in-Err-clause-reading
returns-in-Err-clause-reading c =
    let read = λ (p : Path). whole_of p (pos 0) (pos 199) (view c.args.value.now) in
    λ path. deeper read (decimal c.args.index) c.in-Err.fault c.at.result c.in-Err.ensures.reading c.at.ensures.fault path
