use Rattle.ice_edge.specs.declared.status.Status.TheVariants.{Done}
use Rattle.ice_journal.specs.Journal.{bytes_of}
use Rattle.ice_round.specs.Held.{settling_with}
use Rattle.ice_write_session.specs.Records.{charged_records}
use Rattle.ice_command_parts.proofs.Writing.{put_said}
use Rattle.ice_session_commands.proofs.Settling.{closing_without_memory, charged_may_be_written, ends_charged}
use Rattle.ice_session_commands.proofs.session_journal.charge.Goals as goal

pub pay-requires-clause-closes : goal.pay-requires-clause-closes
pay-requires-clause-closes g c = c.requires.closes

pub pay-requires-clause-all : goal.pay-requires-clause-all
pay-requires-clause-all g c = c.requires.all

pub put_charged-requires : goal.put_charged-requires
put_charged-requires g c = charged_may_be_written c.requires.running.0 c.args.settling c.in-Ok.charged c.requires.running.1 c.requires.found.0 c.requires.found.1 c.in-Ok.ensures

pub returns-in-Ok : goal.returns-in-Ok
returns-in-Ok g c = λ done has.
    let charged = c.in-Ok.charged in
    let old = g.K.Sink.taken c.args.out.now in
    let new = g.K.Sink.taken c.put_charged.new.out in
    ends_charged c.args.settling done charged old new c.ended.result has c.in-Ok.ensures
    (put_said c.put_charged.result (bytes_of (charged_records charged)) Done c.ended.result old new c.put_charged.ensures c.ended.ensures)

pub returns-in-Err : goal.returns-in-Err
returns-in-Err g c = λ done has. closing_without_memory (settling_with c.args.settling done) has.found c.requires.closes (g.K.Sink.taken c.args.out.now)
