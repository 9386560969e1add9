use Rattle.std.proofs.Common.{◌≡◌}
use Rattle.std.specs.Prelude.{false}
use Rattle.ice_reading.proofs.Unjudged.{check_unjudged}
use Rattle.ice_migrate.specs.Migrating.{is_old}
use Rattle.ice_migrate.proofs.Judged.{unchecked}
use Rattle.ice_migrate.proofs.judging.judge.Goals as goal

pub returns-in-Err : goal.returns-in-Err
returns-in-Err c = check_unjudged (λ journal. is_old journal ≡ false) c.args.bytes.now c.in-Err.end unchecked c.in-Err.ensures
