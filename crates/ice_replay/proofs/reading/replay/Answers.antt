use Rattle.std.proofs.Common.{refl}
use Rattle.ice_reading.proofs.Unjudged.{read_unjudged}
use Rattle.ice_replay.specs.Settlements.{IsSession}
use Rattle.ice_replay.specs.Watching.{TestsOn}
use Rattle.ice_replay.proofs.Knowing.{all_known}
use Rattle.ice_replay.proofs.reading.replay.Goals as goal

pub returns-in-Ok : goal.returns-in-Ok
returns-in-Ok c =
    let read = c.in-Ok.ensures in
    let known = all_known c.args.bytes.now c.args.number _ c.read_journal.new.reader refl c.new.ensures.made refl read in
    c.conclude.ensures c.args.bytes.now c.args.number read.journal known.progress read.spelled known.leads (c.finish.ensures known.progress known.come) known.watched

pub returns-in-Err : goal.returns-in-Err
returns-in-Err c = read_unjudged TestsOn (λ journal. ¬ IsSession journal) c.args.bytes.now c.read_journal.new.reader c.in-Err.end c.in-Err.ensures
