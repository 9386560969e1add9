use Rattle.std.proofs.Common.{arith, ◌≡◌, ◌-◌, suc}
use Rattle.ice_planner.proofs.Reading.{one_read, all_read}
use Rattle.ice_planner.proofs.from_log.plan_of_log.Goals as goal

pub loop-number-preserved : goal.loop-number-preserved
loop-number-preserved c =
    let n = c.loop-number.number - 1 in
    let m : c.loop-number.number ≡ suc n = omega (arith, c.loop-number-test.true) in
    one_read c.steps-steps.result.now n c.loop-number.number c.index-steps-number.result c.loop-number.plan c.take_step.new.plan m (omega arith) c.index-steps-number.is
    c.loop-number.invariant c.in_ok-take_step.ensures

pub returns : goal.returns
returns c =
    all_read c.steps-steps.result.now c.loop-number.number c.loop-number.plan c.args.log.now (omega arith) c.steps-steps.ensures c.loop-number.invariant
