-- What ends the journal where a source has no bids for a round.
use Rattle.std.specs.Prelude.{List, [], ◌∷◌}
use Rattle.ice_edge.specs.declared.status.Status.{Status}
use Rattle.ice_edge.specs.declared.status.Status.TheVariants.{StillOpen}
use Rattle.ice_journal.specs.Records.{Record, open_end}
use Rattle.ice_journal.specs.Records as line
use Rattle.ice_command_parts.specs.declared.refusal.Refusal.TheVariants.{File, Unread, NoMemory}
use Rattle.ice_command_parts.specs.Refusals.{fault_of, refusal_status}
use Rattle.ice_session_commands.specs.declared.source.NoBids.{NoBids}
use Rattle.ice_session_commands.specs.declared.source.NoBids.TheVariants.{NoFile, Refused}

-- the record that is put; none at want of memory
abbrev pub stop_records : NoBids → List Record
stop_records NoFile = line.end open_end ∷ []
stop_records (Refused (File file fault)) = line.refused file (fault_of fault).number (fault_of fault).place ∷ []
stop_records (Refused (Unread file)) = line.unread file ∷ []
stop_records (Refused NoMemory) = []

abbrev pub stop_status : NoBids → Status
stop_status NoFile = StillOpen
stop_status (Refused refusal) = refusal_status refusal
