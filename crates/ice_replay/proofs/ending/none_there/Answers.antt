use Rattle.ice_replay.specs.Ending.{absent, refused}
use Rattle.ice_replay.proofs.ending.none_there.Goals as goal

pub returns-in-Ok : goal.returns-in-Ok
returns-in-Ok c = absent c.in-Ok.ensures

pub returns-in-Err : goal.returns-in-Err
returns-in-Err c = refused c.in-Err.ensures
