use Rattle.ice_migrate.proofs.Judged.{closed_stops, stop_tells}
use Rattle.ice_migrate.proofs.judging.failed_behind.Goals as goal

pub returns-in-Closed : goal.returns-in-Closed
returns-in-Closed c = λ journal is old no.
    let stops = closed_stops journal c.args.line c.args.rule c.in-Closed.is no in
    stop_tells c.args.line journal c.order_fault.result old stops (c.order_fault.ensures journal is old stops)
