use Rattle.std.proofs.Common.{subst}
use Rattle.ice_journal.specs.Lines.{record_of}
use Rattle.ice_last.specs.declared.watch.Watch.{Watch}
use Rattle.ice_last.specs.Watching.{WatchesOn}
use Rattle.ice_last.proofs.closing.ClosingReader.take.Goals as goal

pub returns-clause-step : goal.returns-clause-step
returns-clause-step c = record {
  takes = c.in_ok-feed.ensures.after;
  watches = subst (λ (w : Watch). WatchesOn w (record_of c.args.next.now) c.in_ok-self.field-0) c.replace-watch.ensures.value c.in_ok-self.ensures;
}
