use Rattle.std.proofs.Common.{◌∙◌, ◌++◌, refl, sym, subst, [], length, inl}
use Rattle.ice_edge.specs.declared.status.Status.TheVariants.{Done, Spent, Limit, NoMemory}
use Rattle.ice_edge.proofs.Puts.{Appends-nothing}
use Rattle.ice_defs.specs.Exchange.{Exchange, exact_of}
use Rattle.ice_journal.specs.Journal.{bytes_of}
use Rattle.ice_search.specs.Results.{proved_spent}
use Rattle.ice_write_session.specs.Records.{halt_records, spent_records, limit_records}
use Rattle.ice_write_session.specs.Writable.{IsWritable}
use Rattle.ice_session_laws.specs.Written.{begun_records}
use Rattle.ice_session_laws.proofs.Ends.{spent_may_be_written, limit_may_be_written}
use Rattle.ice_gen.specs.Generated.{generated_exchange, truths}
use Rattle.ice_trial.specs.Rounds.{goings_of}
use Rattle.ice_session_commands.specs.GenServed.{summary_text}
use Rattle.ice_session_commands.specs.GenJournal.{trial_records}
use Rattle.ice_command_parts.proofs.Writing.{put_said}
use Rattle.ice_session_commands.proofs.Trials.{first_writable, closed_answers, spent_answers, limited_answers}
use Rattle.ice_session_commands.proofs.generated.generated.Goals as goal

pub returns-in-Closed : goal.returns-in-Closed
returns-in-Closed g c =
    let text = summary_text c.args.number c.in-Closed.summary in (
      text,
      Done,
      closed_answers text c.args.number c.in-Closed.summary c.in-Closed.ensures refl,
      put_said c.put_summary.result text Done c.ended.result (g.K.Sink.taken c.args.out.now) (g.K.Sink.taken c.put_summary.new.out)
          c.put_summary.ensures c.ended.ensures,
    )

pub put_spent_trial-requires-clause-first : goal.put_spent_trial-requires-clause-first
put_spent_trial-requires-clause-first g c =
    let q = c.in-Spent.ensures in
    let s = q.0 in
    let trial = q.1 in
    let halt = q.2 in
    let is = q.3 in
    first_writable (generated_exchange c.args.number) c.in-Spent.halt.exchange (truths c.args.number) c.in-Spent.first (halt.exchange ∙ trial.exchange) trial.round

pub put_spent_trial-requires-clause-halt : goal.put_spent_trial-requires-clause-halt
put_spent_trial-requires-clause-halt g c =
    let q = c.in-Spent.ensures in
    let s = q.0 in
    let trial = q.1 in
    let halt = q.2 in
    let is = q.3 in
    (spent_may_be_written (goings_of c.in-Spent.first) s c.in-Spent.halt c.in-Spent.spent trial.running halt is).0

pub put_spent_trial-requires-clause-spent : goal.put_spent_trial-requires-clause-spent
put_spent_trial-requires-clause-spent g c =
    let q = c.in-Spent.ensures in
    let s = q.0 in
    let trial = q.1 in
    let halt = q.2 in
    let is = q.3 in
    let p = proved_spent c.in-Spent.spent in
    subst (λ (x : Exchange). IsWritable (length (exact_of x)) p) (sym halt.exchange)
    (spent_may_be_written (goings_of c.in-Spent.first) s c.in-Spent.halt c.in-Spent.spent trial.running halt is).1

pub put_limited_trial-requires-clause-halt : goal.put_limited_trial-requires-clause-halt
put_limited_trial-requires-clause-halt g c =
    let q = c.in-Limit.ensures in
    let s = q.0 in
    let trial = q.1 in
    let halt = q.2 in
    let is = q.3 in
    (limit_may_be_written [] s c.in-Limit.halt c.in-Limit.limit trial.running halt is).0

pub put_limited_trial-requires-clause-limit : goal.put_limited_trial-requires-clause-limit
put_limited_trial-requires-clause-limit g c =
    let q = c.in-Limit.ensures in
    let s = q.0 in
    let trial = q.1 in
    let halt = q.2 in
    let is = q.3 in
    (limit_may_be_written [] s c.in-Limit.halt c.in-Limit.limit trial.running halt is).1

pub returns-in-Spent : goal.returns-in-Spent
returns-in-Spent g c =
    let q = c.in-Spent.ensures in
    let s = q.0 in
    let trial = q.1 in
    let halt = q.2 in
    let is = q.3 in
    let h = c.in-Spent.halt in
    let spent = c.in-Spent.spent in
    let first = c.in-Spent.first in
    let text = bytes_of (trial_records h.exchange first ++ (halt_records h ++ spent_records h.exchange spent)) in (
      text,
      Spent,
      spent_answers c.args.number first s trial text h spent halt is c.put_spent_trial.ensures.record_is refl,
      put_said c.put_spent_trial.result text Spent c.ended-in-Spent.result (g.K.Sink.taken c.args.out.now) (g.K.Sink.taken c.put_spent_trial.new.out) c.put_spent_trial.ensures.put c.ended-in-Spent.ensures,
    )

pub returns-in-Limit : goal.returns-in-Limit
returns-in-Limit g c =
    let q = c.in-Limit.ensures in
    let s = q.0 in
    let trial = q.1 in
    let halt = q.2 in
    let is = q.3 in
    let h = c.in-Limit.halt in
    let limit = c.in-Limit.limit in
    let text = bytes_of (begun_records h.exchange ++ (halt_records h ++ limit_records limit)) in (
      text,
      Limit,
      limited_answers c.args.number s trial text h limit halt is refl,
      put_said c.put_limited_trial.result text Limit c.ended-in-Limit.result (g.K.Sink.taken c.args.out.now) (g.K.Sink.taken c.put_limited_trial.new.out) c.put_limited_trial.ensures c.ended-in-Limit.ensures,
    )

pub returns-in-NoMemory : goal.returns-in-NoMemory
returns-in-NoMemory g c = ([], NoMemory, refl, inl (refl, Appends-nothing (g.K.Sink.taken c.args.out.now).written))
