use Rattle.std.proofs.Common.{◌-◌, vec_len}
use Rattle.ice_turns.specs.Works.{IsMoreWork}
use Rattle.ice_fair_stage.specs.Stages.{IsState}
use Rattle.ice_fair_stage.proofs.turn.take_turns.Given as goal

abbrev pub invariant-turns : goal.invariant-turns
invariant-turns l = record {
  state : IsState l.trade l.at l.pool.items;
  work : IsMoreWork l.fn.work l.work;
}

abbrev pub decreases-turns : goal.decreases-turns
decreases-turns l = 200 - vec_len l.pool
