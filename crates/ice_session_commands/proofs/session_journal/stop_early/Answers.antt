use Rattle.std.proofs.Common.{◌++◌, sym, subst, length}
use Rattle.ice_edge.specs.declared.status.Status.TheVariants.{Spent}
use Rattle.ice_defs.specs.Exchange.{Exchange, exact_of}
use Rattle.ice_journal.specs.Journal.{bytes_of}
use Rattle.ice_search.specs.Results.{proved_spent}
use Rattle.ice_search.specs.declared.results.SearchEnd.{SearchEnd}
use Rattle.ice_round.specs.Ends.{IsHaltedBy}
use Rattle.ice_write_session.specs.Records.{halt_records, spent_records}
use Rattle.ice_write_session.specs.Writable.{IsWritable}
use Rattle.ice_session_laws.proofs.Ends.{spent_may_be_written}
use Rattle.ice_command_parts.proofs.Writing.{put_said}
use Rattle.ice_session_commands.proofs.Settling.{ends_without_memory, ends_spent}
use Rattle.ice_session_commands.proofs.session_journal.stop_early.Goals as goal

pub put_halted-requires-clause-halt : goal.put_halted-requires-clause-halt
put_halted-requires-clause-halt g c =
    let s = c.requires.0 in
    let halted = subst (λ (e : SearchEnd). IsHaltedBy s c.args.halt e) c.in-Spent.is c.requires.2 in
    (spent_may_be_written c.requires.1.0 s c.args.halt c.in-Spent.spent c.requires.1.1 halted.0 halted.1).0

pub put_halted-requires-clause-spent : goal.put_halted-requires-clause-spent
put_halted-requires-clause-spent g c =
    let s = c.requires.0 in
    let p = proved_spent c.in-Spent.spent in
    let halted = subst (λ (e : SearchEnd). IsHaltedBy s c.args.halt e) c.in-Spent.is c.requires.2 in
    subst (λ (x : Exchange). IsWritable (length (exact_of x)) p) (sym halted.0.exchange)
    (spent_may_be_written c.requires.1.0 s c.args.halt c.in-Spent.spent c.requires.1.1 halted.0 halted.1).1

pub returns-in-Spent : goal.returns-in-Spent
returns-in-Spent g c = λ s is.
    let h = c.args.halt in
    let spent = c.in-Spent.spent in
    let old = g.K.Sink.taken c.args.out.now in
    let new = g.K.Sink.taken c.put_halted.new.out in
    let halted = subst (λ (e : SearchEnd). IsHaltedBy s h e) c.in-Spent.is is in
    ends_spent s h spent old new c.ended.result halted.0 halted.1 c.put_halted.ensures.record_is
    (put_said c.put_halted.result (bytes_of (halt_records h ++ spent_records h.exchange spent)) Spent c.ended.result old new c.put_halted.ensures.put c.ended.ensures)

pub returns : goal.returns
returns g c = λ s is. ends_without_memory s (g.K.Sink.taken c.args.out.now)
