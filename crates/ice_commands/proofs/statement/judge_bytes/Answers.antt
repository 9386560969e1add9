use Rattle.std.proofs.Common.{ℕ, List, Err, refl, subst}
use Rattle.ice_statement.specs.declared.judging.StatementEnd.{StatementEnd}
use Rattle.ice_statement.specs.declared.judging.StatementEnd.TheVariants.{Journal, NoBidder}
use Rattle.ice_statement.specs.Judging.{MayState}
use Rattle.ice_commands.specs.StatementServed.{NotStated, IsStatementFault}
use Rattle.ice_commands.proofs.Unwriting.{unwritten_is}
use Rattle.ice_commands.proofs.statement.judge_bytes.Goals as goal

pub returns-in-Err-Journal-clause-unstated : goal.returns-in-Err-Journal-clause-unstated
returns-in-Err-Journal-clause-unstated c =
    let bytes = c.args.bytes.now in
    let name = c.args.name.now in
    let end = c.in-Err-Journal.end in
    let judged = subst (λ (n : List ℕ). MayState bytes n (Err (Journal end))) c.as_bytes.ensures.value
    (subst (λ (x : StatementEnd). MayState bytes c.as_bytes.result.now (Err x)) c.in-Err-Journal.field-0-is c.in-Err-Journal.ensures) in
    unwritten_is (NotStated name) (IsStatementFault name) bytes end c.unwritten_of.result judged (λ fault h. (Journal end, judged, h)) c.unwritten_of.ensures

pub returns-in-Err-NoBidder-clause-unstated : goal.returns-in-Err-NoBidder-clause-unstated
returns-in-Err-NoBidder-clause-unstated c =
    let bytes = c.args.bytes.now in
    let judged = subst (λ (n : List ℕ). MayState bytes n (Err NoBidder)) c.as_bytes.ensures.value
    (subst (λ (x : StatementEnd). MayState bytes c.as_bytes.result.now (Err x)) c.in-Err-NoBidder.field-0-is c.in-Err-NoBidder.ensures) in
    (refl, (NoBidder, judged, refl))
