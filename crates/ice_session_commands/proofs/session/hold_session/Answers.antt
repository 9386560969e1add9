use Rattle.std.proofs.Common.{refl}
use Rattle.ice_command_parts.proofs.Parts.{later_refl}
use Rattle.ice_session_commands.proofs.Playing.{begins, begins_played, begins_without_memory, begin_fails}
use Rattle.ice_session_commands.proofs.session.hold_session.Goals as goal

pub hold_rounds-requires : goal.hold_rounds-requires
hold_rounds-requires g c = begins_played c.args.source c.args.exchange c.in-Ok-start.ready (g.H.Shelf.told c.args.shelf.now) c.bidders-bidders.ensures.lawful c.requires c.in-Ok-start.ensures

pub returns-in-Ok-start-clause-journal : goal.returns-in-Ok-start-clause-journal
returns-in-Ok-start-clause-journal g c =
    begins c.args.source c.args.exchange c.in-Ok-start.ready (g.H.Shelf.told c.args.shelf.now) (g.H.Shelf.told c.hold_rounds.new.shelf)
    (g.K.Sink.taken c.args.out.now) (g.K.Sink.taken c.put_begin.new.out) (g.K.Sink.taken c.hold_rounds.new.out) c.hold_rounds.result
    c.bidders-bidders.ensures.lawful c.requires c.in-Ok-start.ensures c.in-Ok.ensures c.hold_rounds.ensures.plays

pub returns-in-Ok-start-clause-kept : goal.returns-in-Ok-start-clause-kept
returns-in-Ok-start-clause-kept g c = c.hold_rounds.ensures.kept

pub returns-in-Ok-start-clause-later : goal.returns-in-Ok-start-clause-later
returns-in-Ok-start-clause-later g c = c.hold_rounds.ensures.later

pub returns-in-Err-clause-journal : goal.returns-in-Err-clause-journal
returns-in-Err-clause-journal g c =
    let shelf = g.H.Shelf.told c.args.shelf.now in
    begins_without_memory c.args.source c.args.exchange shelf shelf
    (g.K.Sink.taken c.args.out.now) (g.K.Sink.taken c.put_begin.new.out) c.bidders-bidders.ensures.lawful c.requires c.in-Ok.ensures

pub returns-in-Err-clause-kept : goal.returns-in-Err-clause-kept
returns-in-Err-clause-kept g c = λ no_file. refl

pub returns-in-Err-clause-later : goal.returns-in-Err-clause-later
returns-in-Err-clause-later g c = later_refl (g.H.Shelf.told c.args.shelf.now)

pub returns-in-Err-Failed-clause-journal : goal.returns-in-Err-Failed-clause-journal
returns-in-Err-Failed-clause-journal g c =
    let shelf = g.H.Shelf.told c.args.shelf.now in
    begin_fails c.args.source c.args.exchange shelf shelf
    (g.K.Sink.taken c.args.out.now) (g.K.Sink.taken c.put_begin.new.out) c.bidders-bidders.ensures.lawful c.requires c.in-Err-Failed.ensures

pub returns-in-Err-Failed-clause-kept : goal.returns-in-Err-Failed-clause-kept
returns-in-Err-Failed-clause-kept g c = λ no_file. refl

pub returns-in-Err-Failed-clause-later : goal.returns-in-Err-Failed-clause-later
returns-in-Err-Failed-clause-later g c = later_refl (g.H.Shelf.told c.args.shelf.now)
