use Rattle.std.proofs.Common.{subst}
use Rattle.ice_journal.specs.Lines.{record_of}
use Rattle.ice_last.specs.declared.watch.Watch.{Watch}
use Rattle.ice_last.specs.Watching.{IsWatched}
use Rattle.ice_last.proofs.Watched.{other_stays}
use Rattle.ice_last.proofs.watch.Watch.after.Goals as goal

pub returns-in-Other : goal.returns-in-Other
returns-in-Other c = λ records h. other_stays (record_of c.args.line.now) records (subst (λ (w : Watch). IsWatched w records) c.in-Other.is h)
