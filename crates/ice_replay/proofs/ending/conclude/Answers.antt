use Rattle.std.proofs.Common.{subst}
use Rattle.ice_replay.specs.declared.watch.Watch.{Watch}
use Rattle.ice_replay.specs.Watching.{IsWatched}
use Rattle.ice_replay.proofs.Answering.{absence_ends, begun_replay, whole_replay}
use Rattle.ice_replay.proofs.ending.conclude.Goals as goal

pub returns-in-Before : goal.returns-in-Before
returns-in-Before c = λ bytes number journal p is l e h.
    absence_ends bytes number journal p c.args.found is l e c.none_there.result c.none_there.ensures (subst (λ (w : Watch). IsWatched number w p journal) c.in-Before.is h)

pub returns-in-Begun : goal.returns-in-Begun
returns-in-Begun c = λ bytes number journal p is l e h.
    begun_replay bytes number journal p c.args.found is l e c.in-Begun.replay c.allowed.result c.allowed.ensures (subst (λ (w : Watch). IsWatched number w p journal) c.in-Begun.is h)

pub returns-in-Whole : goal.returns-in-Whole
returns-in-Whole c = λ bytes number journal p is l e h.
    whole_replay bytes number journal p c.args.found is l e c.in-Whole.replay c.allowed-in-Whole.result c.allowed-in-Whole.ensures (subst (λ (w : Watch). IsWatched number w p journal) c.in-Whole.is h)
