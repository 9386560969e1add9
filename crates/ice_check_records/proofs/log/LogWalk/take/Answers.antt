use Rattle.ice_journal_laws.specs.Stepping.{no_step}
use Rattle.ice_check_records.proofs.log.LogWalk.take.Goals as goal

pub returns-in-None-clause-fails : goal.returns-in-None-clause-fails
returns-in-None-clause-fails c = no_step c.in-None.ensures
