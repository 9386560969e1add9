use Rattle.std.proofs.Common.{◌-◌}
use Rattle.ice_session_commands.proofs.Playing.{ComesOn}
use Rattle.ice_session_commands.proofs.session.hold_rounds.Given as goal

abbrev pub invariant-rounds : goal.invariant-rounds
invariant-rounds g l =
    ComesOn l.fn.source l.fn.ready (g.H.Shelf.told l.fn.shelf) (g.K.Sink.taken l.fn.out) l.source l.ready (g.H.Shelf.told l.shelf) (g.K.Sink.taken l.out)

abbrev pub decreases-rounds : goal.decreases-rounds
decreases-rounds g l = l.ready.exchange.settings.rounds - l.ready.number
