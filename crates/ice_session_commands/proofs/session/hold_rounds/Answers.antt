use Rattle.std.proofs.Common.{◌∙◌, List, refl, subst}
use Rattle.ice_defs.specs.Round.{Submission}
use Rattle.ice_journal.specs.Journal.{bytes_of}
use Rattle.ice_session_commands.specs.NoBids.{stop_records, stop_status}
use Rattle.ice_session_commands.specs.SessionSteps.{EndsRound, FailsInRound}
use Rattle.ice_command_parts.proofs.Parts.{later_refl, later_trans}
use Rattle.ice_command_parts.proofs.Keeping.{kept_behind}
use Rattle.ice_session_commands.proofs.Putting.{said_keeps}
use Rattle.ice_session_commands.proofs.Playing.{plays_ends, plays_in_round, plays_fails, plays_on, round_may, played_next, fewer_left}
use Rattle.ice_session_commands.proofs.session.hold_rounds.Goals as goal

pub rounds-init : goal.rounds-init
rounds-init g c = record { played = c.requires; on = λ after new result plays. plays; kept = refl; later = later_refl (g.H.Shelf.told c.args.shelf.now) }

pub settled_round-requires : goal.settled_round-requires
settled_round-requires g c = let played = c.rounds.invariant.played in (played.1, played.2)

pub returns-in-Err-clause-plays : goal.returns-in-Err-clause-plays
returns-in-Err-clause-plays g c =
    let shelf = g.H.Shelf.told c.rounds.shelf in
    let new = g.K.Sink.taken c.settled_round.new.out in
    c.rounds.invariant.on shelf new c.in-Err.status
    (plays_ends c.rounds.source c.rounds.ready shelf shelf (g.K.Sink.taken c.rounds.out) new c.in-Err.status c.in-Err.ensures)

pub returns-in-Err-clause-kept : goal.returns-in-Err-clause-kept
returns-in-Err-clause-kept g c = λ no_file. c.rounds.invariant.kept

pub returns-in-Err-clause-later : goal.returns-in-Err-clause-later
returns-in-Err-clause-later g c = c.rounds.invariant.later

pub round_bids-requires : goal.round_bids-requires
round_bids-requires g c =
    round_may c.rounds.source c.rounds.ready c.in-Ok.round (g.H.Shelf.told c.rounds.shelf) c.rounds.invariant.played
    (g.K.Sink.taken c.rounds.out) (g.K.Sink.taken c.settled_round.new.out) c.in-Ok.ensures

pub same-round : goal.same-round
same-round g c = refl

pub returns-in-Err-round_bids-clause-plays : goal.returns-in-Err-round_bids-clause-plays
returns-in-Err-round_bids-clause-plays g c =
    let after = g.H.Shelf.told c.round_bids.new.shelf in
    let new = g.K.Sink.taken c.say.new.out in
    c.rounds.invariant.on after new c.say.result
    (plays_in_round c.rounds.source c.rounds.ready (g.H.Shelf.told c.rounds.shelf) after c.in-Ok.round
    (g.K.Sink.taken c.rounds.out) (g.K.Sink.taken c.settled_round.new.out) c.in-Ok.ensures
    c.in-Err-round_bids.none new c.say.result c.in-Err-round_bids.ensures.ended c.say.ensures)

pub returns-in-Err-round_bids-clause-kept : goal.returns-in-Err-round_bids-clause-kept
returns-in-Err-round_bids-clause-kept g c =
    let none = c.in-Err-round_bids.none in
    let before = g.H.Shelf.told c.rounds.shelf in
    let after = g.H.Shelf.told c.round_bids.new.shelf in
    kept_behind (g.H.Shelf.told c.args.shelf.now) before after c.say.result c.rounds.invariant.kept
    (said_keeps (bytes_of (stop_records none)) before after (stop_status none) c.say.result
    (g.K.Sink.taken c.settled_round.new.out) (g.K.Sink.taken c.say.new.out) c.in-Err-round_bids.ensures.kept_at_end c.say.ensures)

pub returns-in-Err-round_bids-clause-later : goal.returns-in-Err-round_bids-clause-later
returns-in-Err-round_bids-clause-later g c =
    later_trans (g.H.Shelf.told c.args.shelf.now) (g.H.Shelf.told c.rounds.shelf) (g.H.Shelf.told c.round_bids.new.shelf) c.rounds.invariant.later c.round_bids.ensures.later

pub returns-in-Err-hold_round-clause-plays : goal.returns-in-Err-hold_round-clause-plays
returns-in-Err-hold_round-clause-plays g c =
    let two = c.in-Ok-round_bids.two in
    let status = c.in-Err-hold_round.status in
    let r = c.in-Ok.round in
    let mid = g.K.Sink.taken c.settled_round.new.out in
    let after = g.H.Shelf.told c.round_bids.new.shelf in
    let new = g.K.Sink.taken c.hold_round.new.out in
    let fails = subst (λ (bids : List Submission). FailsInRound r bids mid new status) c.deref.ensures.value c.in-Err-hold_round.ensures.ended in
    c.rounds.invariant.on after new status
    (plays_fails c.rounds.source c.rounds.ready (g.H.Shelf.told c.rounds.shelf) after r (g.K.Sink.taken c.rounds.out) mid c.in-Ok.ensures
    two.0.items two.1 c.in-Ok-round_bids.ensures.bids new status fails)

pub returns-in-Err-hold_round-clause-kept : goal.returns-in-Err-hold_round-clause-kept
returns-in-Err-hold_round-clause-kept g c = λ no_file. c.in-Ok-round_bids.ensures.kept ∙ c.rounds.invariant.kept

pub returns-in-Err-hold_round-clause-later : goal.returns-in-Err-hold_round-clause-later
returns-in-Err-hold_round-clause-later g c =
    later_trans (g.H.Shelf.told c.args.shelf.now) (g.H.Shelf.told c.rounds.shelf) (g.H.Shelf.told c.round_bids.new.shelf) c.rounds.invariant.later c.round_bids.ensures.later

pub rounds-smaller : goal.rounds-smaller
rounds-smaller g c =
    let two = c.in-Ok-round_bids.two in
    let next = c.in-Ok-hold_round.next in
    let r = c.in-Ok.round in
    let mid = g.K.Sink.taken c.settled_round.new.out in
    let now = g.K.Sink.taken c.hold_round.new.out in
    let ended = subst (λ (bids : List Submission). EndsRound r bids next mid now) c.deref.ensures.value c.in-Ok-hold_round.ensures.next in
    fewer_left c.rounds.source c.rounds.ready r (g.H.Shelf.told c.rounds.shelf) c.rounds.invariant.played (g.K.Sink.taken c.rounds.out) mid c.in-Ok.ensures
    two.0.items two.1 c.in-Ok-round_bids.ensures.bids next (g.H.Shelf.told c.round_bids.new.shelf) c.round_bids.ensures.later now ended

pub rounds-preserved : goal.rounds-preserved
rounds-preserved g c =
    let two = c.in-Ok-round_bids.two in
    let next = c.in-Ok-hold_round.next in
    let r = c.in-Ok.round in
    let before = g.H.Shelf.told c.rounds.shelf in
    let shelf = g.H.Shelf.told c.round_bids.new.shelf in
    let old = g.K.Sink.taken c.rounds.out in
    let mid = g.K.Sink.taken c.settled_round.new.out in
    let now = g.K.Sink.taken c.hold_round.new.out in
    let ended = subst (λ (bids : List Submission). EndsRound r bids next mid now) c.deref.ensures.value c.in-Ok-hold_round.ensures.next in
    record {
      played = played_next c.rounds.source c.rounds.ready r before c.rounds.invariant.played old mid c.in-Ok.ensures two.0.items two.1 c.in-Ok-round_bids.ensures.bids next shelf c.round_bids.ensures.later now ended;
      on = λ after new result plays. c.rounds.invariant.on after new result
          (plays_on c.rounds.source c.rounds.ready before after r old mid c.in-Ok.ensures two.0.items two.1 c.in-Ok-round_bids.ensures.bids next shelf now new result c.round_bids.ensures.later ended plays);
      kept = c.in-Ok-round_bids.ensures.kept ∙ c.rounds.invariant.kept;
      later = later_trans (g.H.Shelf.told c.args.shelf.now) before shelf c.rounds.invariant.later c.round_bids.ensures.later;
    }
