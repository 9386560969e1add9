use Rattle.std.proofs.Common.{refl, subst}
use Rattle.ice_journal.specs.Lines.{record_of}
use Rattle.ice_replay.specs.declared.watch.Watch.{Watch}
use Rattle.ice_replay.specs.Watching.{WatchesOn}
use Rattle.ice_replay.proofs.tests.WatchedTestsReader.take.Goals as goal

pub returns-clause-step : goal.returns-clause-step
returns-clause-step c =
    let s = c.args.self.now in
    let r = record_of c.args.next.now in
    record {
      number = refl;
      takes = c.in_ok-feed.ensures.after;
      watches = subst (λ (w : Watch). WatchesOn s.number w s.checker r c.in_ok-self.field-0) c.replace-watch.ensures.value c.in_ok-self.ensures;
    }
