use Rattle.std.proofs.Common.{◌-◌, vec_len}
use Rattle.ice_price.specs.Runs.{IsState, IsRunFrom}
use Rattle.ice_turns.specs.Works.{IsMoreWork}
use Rattle.ice_price.proofs.turn.run_stage.Given as goal

abbrev pub invariant-turns : goal.invariant-turns
invariant-turns l = record {
  state : IsState l.trade l.at l.pool.items;
  from : IsRunFrom l.trade l.at l.fn.pool.items l.pool.items;
  work : IsMoreWork l.fn.work l.work;
}

abbrev pub decreases-turns : goal.decreases-turns
decreases-turns l = 200 - vec_len l.pool
