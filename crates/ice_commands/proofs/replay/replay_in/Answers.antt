use Rattle.std.proofs.Common.{refl, subst, Err}
use Rattle.ice_replay.specs.declared.settlement.ReplayEnd.{ReplayEnd}
use Rattle.ice_replay.specs.declared.settlement.ReplayEnd.TheVariants.{Journal, NoSettlement}
use Rattle.ice_replay.specs.Replays.{ReplaysBytes}
use Rattle.ice_commands.specs.ReplayServed.{NotReplayed, IsReplayFault}
use Rattle.ice_commands.proofs.Unwriting.{unwritten_is}
use Rattle.ice_commands.proofs.replay.replay_in.Goals as goal

pub returns-in-Err-Journal-clause-none : goal.returns-in-Err-Journal-clause-none
returns-in-Err-Journal-clause-none c =
    let bytes = c.args.bytes.now in
    let number = c.args.number in
    let end = c.in-Err-Journal.end in
    let ends = subst (λ (x : ReplayEnd). ReplaysBytes bytes number (Err x)) c.in-Err-Journal.field-0-is c.in-Err-Journal.ensures in
    unwritten_is (NotReplayed number) (IsReplayFault number) bytes end c.unwritten_of.result ends (λ fault h. (Journal end, ends, h)) c.unwritten_of.ensures

pub returns-in-Err-NoSettlement-clause-none : goal.returns-in-Err-NoSettlement-clause-none
returns-in-Err-NoSettlement-clause-none c =
    let bytes = c.args.bytes.now in
    let number = c.args.number in
    (refl, (NoSettlement, subst (λ (x : ReplayEnd). ReplaysBytes bytes number (Err x)) c.in-Err-NoSettlement.field-0-is c.in-Err-NoSettlement.ensures, refl))
