use Rattle.std.proofs.Common.{vec_len}
use Rattle.ice_plan.proofs.walk.Walk.leave_all.Given as goal

abbrev pub decreases-loop-task : goal.decreases-loop-task
decreases-loop-task g l = vec_len l.self.tasks
