use Rattle.std.proofs.Common.{map}
use Rattle.std.specs.Prelude.{string_bytes}
use Rattle.ice_command_parts.specs.Refusals.{refusal_text, refusal_status}
use Rattle.ice_command_parts.proofs.Parts.{later_part}
use Rattle.ice_session_commands.proofs.RunJournal.{journal_serves, refusal_serves}
use Rattle.ice_command_parts.proofs.Keeping.{kept_behind, refusal_keeps}
use Rattle.ice_session_commands.proofs.run.run.Goals as goal

pub returns-in-Ok-clause-served : goal.returns-in-Ok-clause-served
returns-in-Ok-clause-served g c =
    let before = g.H.Shelf.told c.args.shelf.now in
    let shelf = g.H.Shelf.told c.read_exchange.new.shelf in
    let after = g.H.Shelf.told c.hold_session.new.shelf in
    let (rest, status, is, said) = c.hold_session.ensures.journal in
    journal_serves before after c.args.exchange.now (map string_bytes c.args.rounds.now) c.in-Ok.exchange (g.K.Sink.taken c.args.out.now) (g.K.Sink.taken c.hold_session.new.out) c.hold_session.result c.in-Ok.ensures.exchange
    (rest, status, λ call part. is call (later_part call before shelf after part c.in-Ok.ensures.later), said)

pub returns-in-Err-clause-served : goal.returns-in-Err-clause-served
returns-in-Err-clause-served g c =
    let refusal = c.in-Err.refusal in
    (refusal_text refusal, refusal_status refusal, refusal_serves (g.H.Shelf.told c.args.shelf.now) (g.H.Shelf.told c.read_exchange.new.shelf) c.args.exchange.now (map string_bytes c.args.rounds.now) refusal c.in-Err.ensures.refusal, c.say.ensures)

pub returns-in-Ok-clause-kept : goal.returns-in-Ok-clause-kept
returns-in-Ok-clause-kept g c =
    kept_behind (g.H.Shelf.told c.args.shelf.now) (g.H.Shelf.told c.read_exchange.new.shelf) (g.H.Shelf.told c.hold_session.new.shelf) c.hold_session.result c.in-Ok.ensures.kept c.hold_session.ensures.kept

pub returns-in-Err-clause-kept : goal.returns-in-Err-clause-kept
returns-in-Err-clause-kept g c =
    refusal_keeps (g.H.Shelf.told c.args.shelf.now) (g.H.Shelf.told c.read_exchange.new.shelf) c.in-Err.refusal
    (g.K.Sink.taken c.args.out.now) (g.K.Sink.taken c.say.new.out) c.say.result
    c.in-Err.ensures.kept_at_refusal c.say.ensures

pub hold_session-requires : goal.hold_session-requires
hold_session-requires g c = tt
