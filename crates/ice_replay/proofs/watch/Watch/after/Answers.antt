use Rattle.std.proofs.Common.{sym, subst}
use Rattle.ice_journal.specs.Lines.{record_of}
use Rattle.ice_replay.specs.declared.watch.Watch.{Watch}
use Rattle.ice_replay.specs.declared.watch.Watch.TheVariants as watch
use Rattle.ice_replay.specs.Watching.{WatchesOn}
use Rattle.ice_replay.proofs.Following.{still_other, whole_stays}
use Rattle.ice_replay.proofs.watch.Watch.after.Goals as goal

pub returns-in-Other : goal.returns-in-Other
returns-in-Other c = subst (λ (w : Watch). WatchesOn c.args.number w c.args.checker.now (record_of c.args.line.now) watch.Other) (sym c.in-Other.is) (still_other c.args.number c.args.checker.now (record_of c.args.line.now))

pub returns-in-Whole : goal.returns-in-Whole
returns-in-Whole c =
    subst (λ (w : Watch). WatchesOn c.args.number w c.args.checker.now (record_of c.args.line.now) (watch.Whole c.in-Whole.replay)) (sym c.in-Whole.is) (whole_stays c.args.number c.args.checker.now (record_of c.args.line.now) c.in-Whole.replay)
