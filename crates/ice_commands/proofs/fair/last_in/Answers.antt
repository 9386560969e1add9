use Rattle.ice_commands.specs.FairServed.{HasNoLast, IsFairFault}
use Rattle.ice_commands.proofs.Unwriting.{unwritten_is}
use Rattle.ice_commands.proofs.fair.last_in.Goals as goal

pub returns-in-Err-clause-none : goal.returns-in-Err-clause-none
returns-in-Err-clause-none c =
    let end = c.in-Err.end in
    unwritten_is HasNoLast IsFairFault c.args.bytes.now end c.unwritten_of.result c.in-Err.ensures (λ fault h. (end, c.in-Err.ensures, h)) c.unwritten_of.ensures
