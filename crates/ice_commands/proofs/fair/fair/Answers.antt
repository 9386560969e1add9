use Rattle.ice_commands.specs.Unwritten.{unwritten_text, unwritten_status}
use Rattle.ice_commands.specs.FairServed.{HasNoLast, IsFairFault, FairAnswers}
use Rattle.ice_commands.proofs.Fairing.{trees_are, fair_serves}
use Rattle.ice_commands.proofs.Unwriting.{unwritten_answers}
use Rattle.ice_commands.proofs.fair.fair.Goals as goal

pub say_fair-requires : goal.say_fair-requires
say_fair-requires g c =
    let found = c.in-Ok.ensures.last in
    trees_are found.0 c.in-Ok.last found.1

pub returns-in-Ok-clause-served : goal.returns-in-Ok-clause-served
returns-in-Ok-clause-served g c =
    let before = g.H.Shelf.told c.args.shelf.now in
    let after = g.H.Shelf.told c.last_of.new.shelf in
    fair_serves before after c.args.journal.now c.in-Ok.last (g.K.Sink.taken c.args.out.now) (g.K.Sink.taken c.say_fair.new.out) c.say_fair.result c.in-Ok.ensures.last c.say_fair.ensures

pub returns-in-Err-clause-served : goal.returns-in-Err-clause-served
returns-in-Err-clause-served g c =
    let before = g.H.Shelf.told c.args.shelf.now in
    let after = g.H.Shelf.told c.last_of.new.shelf in
    let unwritten = c.in-Err.unwritten in
    let file = c.args.journal.now in (
      unwritten_text unwritten,
      unwritten_status unwritten,
      unwritten_answers (λ call. FairAnswers call file) IsFairFault file (λ call h. h) (λ call h. h) (λ call h. h) HasNoLast (λ call line rule bytes fails told text. (record { line = line; rule = rule }, (bytes, fails, told), text)) before after unwritten
          c.in-Err.ensures.none,
      c.say.ensures,
    )
