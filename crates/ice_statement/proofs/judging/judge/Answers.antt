use Rattle.std.proofs.Common.{◌≡◌, false}
use Rattle.ice_reading.proofs.Unjudged.{check_unjudged}
use Rattle.ice_statement.specs.Judging.{is_session}
use Rattle.ice_statement.proofs.Judged.{unchecked}
use Rattle.ice_statement.proofs.judging.judge.Goals as goal

pub returns-in-Err : goal.returns-in-Err
returns-in-Err c = check_unjudged (λ journal. is_session journal ≡ false) c.args.bytes.now c.in-Err.end unchecked c.in-Err.ensures
