use Rattle.std.proofs.Common.{◌++◌}
use Rattle.ice_edge.specs.declared.status.Status.TheVariants.{Done, Spent, NoMemory}
use Rattle.ice_write_session.specs.Records.{final_records, spent_records}
use Rattle.ice_commands.specs.RegretJournal.{begun_records, ending_records, IsRegretJournal, has_final, rival_spent, is_whole}
use Rattle.ice_commands.proofs.RegretJournal.{final_writable, regret_writable, second_spent_writable}
use Rattle.ice_command_parts.proofs.Writing.{failed_piece, last_piece, piece_then}
use Rattle.ice_commands.proofs.regret_journal.write_with_rival.Goals as goal

pub put_final-requires : goal.put_final-requires
put_final-requires g c = final_writable c.args.exchange.now c.requires.lawful c.args.branches c.args.found.now c.requires.found

pub put_ending-requires : goal.put_ending-requires
put_ending-requires g c =
    let is = rw c.in-Ok-rival.is at c.requires.rival in
    regret_writable c.args.exchange.now c.requires.lawful c.args.branches c.args.found.now c.in-Ok-rival.regret c.requires.found is

pub put_spent-requires : goal.put_spent-requires
put_spent-requires g c =
    let is = rw c.in-Err.is at c.requires.rival in
    second_spent_writable c.args.exchange.now c.requires.lawful c.args.found.now.best c.args.branches c.in-Err.spent is

pub returns-in-Ok-rival : goal.returns-in-Ok-rival
returns-in-Ok-rival g c =
    let ex = c.args.exchange.now in
    let f = c.args.found.now in
    let r = c.in-Ok-rival.regret in
    let is = rw c.in-Ok-rival.is at c.requires.rival in
    let mid = g.K.Sink.taken c.put_final.new.out in
    let new = g.K.Sink.taken c.put_ending.new.out in
    piece_then (begun_records ex) (IsRegretJournal ex) (final_records ex f) c.ended.result (g.K.Sink.taken c.args.out.now) mid new c.in-Ok.ensures
    (last_piece (begun_records ex ++ final_records ex f) (IsRegretJournal ex) (ending_records ex r) c.put_ending.result Done c.ended.result mid new (is_whole c.args.branches f r c.requires.found is) c.put_ending.ensures c.ended.ensures)

pub returns-in-Err : goal.returns-in-Err
returns-in-Err g c =
    let ex = c.args.exchange.now in
    let f = c.args.found.now in
    let s = c.in-Err.spent in
    let is = rw c.in-Err.is at c.requires.rival in
    let mid = g.K.Sink.taken c.put_final.new.out in
    let new = g.K.Sink.taken c.put_spent.new.out in
    piece_then (begun_records ex) (IsRegretJournal ex) (final_records ex f) c.ended-in-Err.result (g.K.Sink.taken c.args.out.now) mid new c.in-Ok.ensures
    (last_piece (begun_records ex ++ final_records ex f) (IsRegretJournal ex) (spent_records ex s) c.put_spent.result Spent c.ended-in-Err.result mid new (rival_spent c.args.branches f s c.requires.found is c.put_spent.ensures.record) c.put_spent.ensures.put c.ended-in-Err.ensures)

pub returns-in-Err-Failed : goal.returns-in-Err-Failed
returns-in-Err-Failed g c =
    let ex = c.args.exchange.now in
    failed_piece (begun_records ex) (IsRegretJournal ex) (final_records ex c.args.found.now) NoMemory (g.K.Sink.taken c.args.out.now) (g.K.Sink.taken c.put_final.new.out)
    (has_final c.args.branches c.args.found.now c.requires.found) c.in-Err-Failed.ensures
