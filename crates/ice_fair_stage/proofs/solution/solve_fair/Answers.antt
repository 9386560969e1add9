use Rattle.ice_turns.proofs.Stops.{if_ok-map, if_err-map}
use Rattle.ice_fair_stage.proofs.FairTurns.{proper-pool, answered, feasible, stopped}
use Rattle.ice_fair_stage.proofs.solution.solve_fair.Goals as goal

pub fair_program-requires-clause-members : goal.fair_program-requires-clause-members
fair_program-requires-clause-members c = (proper-pool c.args.trade.now c.args.at.now c.args.pool.now c.requires).0

pub fair_program-requires-clause-few : goal.fair_program-requires-clause-few
fair_program-requires-clause-few c = (proper-pool c.args.trade.now c.args.at.now c.args.pool.now c.requires).1

pub solve_turn-requires : goal.solve_turn-requires
solve_turn-requires c = feasible c.args.trade.now c.args.at.now c.args.pool.now c.in_ok-program.program c.in_ok-program.ensures c.goods-goods.ensures.proper c.requires

pub returns-clause-solved : goal.returns-clause-solved
returns-clause-solved c =
    if_ok-map c.solve_turn.result
    (λ s h. answered c.args.trade.now c.args.at.now c.args.pool.now c.in_ok-program.program s.point.items s.duals.items c.in_ok-program.ensures h)
    c.solve_turn.ensures.solved

pub returns-clause-stopped : goal.returns-clause-stopped
returns-clause-stopped c =
    if_err-map c.solve_turn.result (λ stop h. stopped c.args.trade.now c.args.at.now c.args.pool.now c.in_ok-program.program stop c.in_ok-program.ensures h) c.solve_turn.ensures.stopped
