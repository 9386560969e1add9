use Rattle.std.proofs.Common.{◌≡◌, ◌-◌, map, take}
use Rattle.serde_json.specs.View.{view}
use Rattle.ice_read.specs.Written.{node_data}
use Rattle.ice_read.specs.Parts.{with_tree}
use Rattle.ice_read.proofs.write.+node_value.Given as goal

abbrev pub decreases-node_value : goal.decreases-node_value
decreases-node_value l = l.levels

abbrev pub invariant-loop-child : goal.invariant-loop-child
invariant-loop-child l = map view l.children.items ≡ map (node_data l.ex.goods (with_tree l.tree l.bounds) (l.levels - 1)) (take l.child-index l.child-items)
