use Rattle.std.proofs.Common.{sym, subst}
use Rattle.ice_edge.specs.declared.status.Status.TheVariants.{StillOpen}
use Rattle.ice_journal.specs.Records.{open_end}
use Rattle.ice_journal.specs.Records as line
use Rattle.ice_journal.specs.Journal.{bytes_of}
use Rattle.ice_command_parts.specs.Parts.{IsSaid}
use Rattle.ice_session_commands.specs.declared.source.NoBids.{NoBids}
use Rattle.ice_session_commands.specs.NoBids.{stop_records, stop_status}
use Rattle.ice_session_commands.proofs.Putting.{one_line}
use Rattle.ice_session_commands.proofs.Sources.{said_refusal}
use Rattle.ice_session_commands.proofs.source.NoBids.say.Goals as goal

pub returns-in-NoFile : goal.returns-in-NoFile
returns-in-NoFile g c =
    let old = g.K.Sink.taken c.args.out.now in
    let new = g.K.Sink.taken c.stay_open.new.out in
    subst (λ (x : NoBids). IsSaid (bytes_of (stop_records x)) (stop_status x) old new c.stay_open.result) (sym c.in-NoFile.is)
    (one_line (line.end open_end) StillOpen c.stay_open.result old new c.stay_open.ensures)

pub returns-in-Refused : goal.returns-in-Refused
returns-in-Refused g c =
    let old = g.K.Sink.taken c.args.out.now in
    let new = g.K.Sink.taken c.say.new.out in
    subst (λ (x : NoBids). IsSaid (bytes_of (stop_records x)) (stop_status x) old new c.say.result) (sym c.in-Refused.is)
    (said_refusal c.in-Refused.refusal c.say.result old new c.say.ensures)
