use Rattle.std.proofs.Common.{ℕ, List, sym, subst}
use Rattle.ice_command_parts.specs.Call.{journal_limit}
use Rattle.ice_command_parts.specs.Parts.{AreFetched}
use Rattle.ice_command_parts.specs.Refusals.{refusal_text, refusal_status}
use Rattle.ice_commands.specs.ReplayServed.{NotReplayed, IsReplayFault, ReplayAnswers}
use Rattle.ice_commands.specs.Unwritten.{unwritten_text, unwritten_status}
use Rattle.ice_commands.proofs.Replayed.{replay_serves}
use Rattle.ice_commands.proofs.Unwriting.{unfetched_answers, unwritten_answers, unwritten_file}
use Rattle.ice_commands.proofs.replay.replay.Goals as goal

pub returns-in-Ok-replay_in-clause-served : goal.returns-in-Ok-replay_in-clause-served
returns-in-Ok-replay_in-clause-served g c =
    let before = g.H.Shelf.told c.args.shelf.now in
    let file = c.args.journal.now in
    let told : AreFetched before file journal_limit c.deref.result.now = subst (λ (read : List ℕ). AreFetched before file journal_limit read) (sym c.deref.ensures.value) c.in-Ok.ensures.bytes in
    replay_serves before (g.H.Shelf.told c.fetch.new.shelf) file c.args.number c.in-Ok-replay_in.replay c.put_replay.result c.ended.result (g.K.Sink.taken c.args.out.now) (g.K.Sink.taken c.put_replay.new.out)
    (c.deref.result.now, c.in-Ok-replay_in.ensures.replay, told) c.put_replay.ensures c.ended.ensures

pub returns-in-Ok-clause-served : goal.returns-in-Ok-clause-served
returns-in-Ok-clause-served g c =
    let before = g.H.Shelf.told c.args.shelf.now in
    let after = g.H.Shelf.told c.fetch.new.shelf in
    let unwritten = c.in-Err-replay_in.unwritten in
    let file = c.args.journal.now in
    let number = c.args.number in
    let told : AreFetched before file journal_limit c.deref.result.now = subst (λ (read : List ℕ). AreFetched before file journal_limit read) (sym c.deref.ensures.value) c.in-Ok.ensures.bytes in (
      unwritten_text unwritten,
      unwritten_status unwritten,
      unwritten_answers (λ call. ReplayAnswers call file number) (IsReplayFault number) file (λ call h. h) (λ call h. h) (λ call h. h) (NotReplayed number)
          (λ call line rule bytes fails told text. (record { line = line; rule = rule }, (bytes, fails, told), text)) before after unwritten
          (unwritten_file (NotReplayed number) (IsReplayFault number) before after file c.deref.result.now unwritten told c.in-Err-replay_in.ensures.none),
      c.say.ensures,
    )

pub returns-clause-served : goal.returns-clause-served
returns-clause-served g c =
    let refusal = c.in-Err.refusal in
    let file = c.args.journal.now in
    let number = c.args.number in (
      refusal_text refusal,
      refusal_status refusal,
      unfetched_answers (λ call. ReplayAnswers call file number) (IsReplayFault number) file (λ call h. h) (λ call h. h) (λ call h. h) (g.H.Shelf.told c.args.shelf.now) (g.H.Shelf.told c.fetch.new.shelf) refusal c.in-Err.ensures.refusal,
      c.say-in-Err.ensures,
    )
