use Rattle.serde_json.specs.View.{view}
use Rattle.ice_defs.specs.FileFault.{Path}
use Rattle.ice_defs.specs.Lawful.{good_names}
use Rattle.ice_read.proofs.ArrayElements.{SoFar}
use Rattle.ice_xor.specs.FlatFile.{package_at, packages_at}
use Rattle.ice_xor.proofs.packages.packages_of.Given as goal

abbrev pub invariant-loop-index : goal.invariant-loop-index
invariant-loop-index l = record {
  read : (path : Path) → SoFar (package_at (good_names l.exchange)) (packages_at (good_names l.exchange) path (view l.value)) path l.item-items l.index l.packages.items;
}
