-- The texts of the pieces that are put one after another.
use Rattle.std.specs.Prelude.{ℕ, List, length}
use Rattle.ice_defs.specs.Tree.{Tree, kind_of, children_of}
use Rattle.ice_defs.specs.Set.{NodeSet, weight_of}
use Rattle.ice_defs.specs.Bounds.{Bounds}
use Rattle.ice_defs.specs.Exchange.{Good, Bidder}
use Rattle.ice_journal.specs.Records as line
use Rattle.ice_journal.specs.Nodes.{node_record}
use Rattle.ice_journal.specs.Spelling.{line_of}
use Rattle.ice_journal.specs.Journal.{bytes_of}
use Rattle.ice_section.specs.Section.{good_record}
use Rattle.ice_section.specs.Described.{bidder_records}

abbrev pub set_text : NodeSet → List ℕ
set_text s = line_of (line.set s)

abbrev pub good_text : Good → List ℕ
good_text good = line_of (good_record good)

abbrev pub node_text : Tree → Bounds → ℕ → List ℕ
node_text t bounds n = line_of (node_record (kind_of t n) (length (children_of t n)) (weight_of bounds.lo n) (weight_of bounds.hi n))

abbrev pub bidder_text : Bidder → List ℕ
bidder_text b = bytes_of (bidder_records b)
