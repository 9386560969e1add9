-- The records of nodes.
use Rattle.std.specs.Prelude.{ℕ, ℤ}
use Rattle.ice_defs.specs.declared.NodeKind.{NodeKind}
use Rattle.ice_defs.specs.declared.NodeKind.TheVariants.{Choose, Buy, Sell}
use Rattle.ice_journal.specs.Records.{Record}
use Rattle.ice_journal.specs.Records as line

-- the record of a node of this kind; a leaf states no children
abbrev pub node_record : NodeKind → ℕ → ℤ → ℤ → Record
node_record (Choose least most) children lo hi = line.choose least most children lo hi
node_record (Buy good units) children lo hi = line.buy good units lo hi
node_record (Sell good units) children lo hi = line.sell good units lo hi
