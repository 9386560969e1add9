use Rattle.std.proofs.Common.{[]}
use Rattle.ice_edge.specs.declared.status.Status.TheVariants.{NoMemory}
use Rattle.ice_commands.specs.RegretJournal.{begun_records, IsRegretJournal, begins}
use Rattle.ice_command_parts.proofs.Writing.{failed_piece, piece_then}
use Rattle.ice_commands.proofs.regret_journal.write_regret.Goals as goal

pub returns-in-Ok-clause-journal : goal.returns-in-Ok-clause-journal
returns-in-Ok-clause-journal g c =
    let ex = c.args.exchange.now in
    piece_then [] (IsRegretJournal ex) (begun_records ex) c.write_final.result (g.K.Sink.taken c.args.out.now) (g.K.Sink.taken c.put_begin.new.out) (g.K.Sink.taken c.write_final.new.out) c.in-Ok.ensures c.write_final.ensures

pub returns-in-Err-Failed-clause-journal : goal.returns-in-Err-Failed-clause-journal
returns-in-Err-Failed-clause-journal g c =
    let ex = c.args.exchange.now in
    failed_piece [] (IsRegretJournal ex) (begun_records ex) NoMemory (g.K.Sink.taken c.args.out.now) (g.K.Sink.taken c.put_begin.new.out)
    begins c.in-Err-Failed.ensures
