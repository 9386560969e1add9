use Rattle.ice_migrate.proofs.Judged.{passing_migrates, yes_passes}
use Rattle.ice_migrate.proofs.judging.failed_test.Goals as goal

pub returns-in_default : goal.returns-in_default
returns-in_default c = λ journal is old answers. passing_migrates journal old (yes_passes journal c.args.answer c.in_default.not-No answers)
