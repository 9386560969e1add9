use Rattle.ice_command_parts.specs.Refusals.{refusal_text, refusal_status}
use Rattle.ice_commands.proofs.Regretting.{journal_serves, refusal_answers}
use Rattle.ice_commands.proofs.regret.regret.Goals as goal

pub returns-in-Ok-clause-served : goal.returns-in-Ok-clause-served
returns-in-Ok-clause-served g c =
    journal_serves (g.H.Shelf.told c.args.shelf.now) (g.H.Shelf.told c.read_exchange.new.shelf) c.args.exchange.now c.in-Ok.exchange (g.K.Sink.taken c.args.out.now) (g.K.Sink.taken c.write_regret.new.out) c.write_regret.result c.write_regret.ensures.lawful c.in-Ok.ensures.exchange c.write_regret.ensures.journal

pub returns-in-Err-clause-served : goal.returns-in-Err-clause-served
returns-in-Err-clause-served g c =
    let refusal = c.in-Err.refusal in
    (refusal_text refusal, refusal_status refusal, refusal_answers (g.H.Shelf.told c.args.shelf.now) (g.H.Shelf.told c.read_exchange.new.shelf) c.args.exchange.now refusal c.in-Err.ensures.refusal, c.say.ensures)
