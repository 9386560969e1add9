use Rattle.ice_edge.proofs.Puts.{then_put}
use Rattle.ice_statement.proofs.putting.put_both.Goals as goal

pub returns : goal.returns
returns g c =
    then_put c.args.one.now c.args.other.now c.put-2.result (g.K.Sink.taken c.put-2.new.self) c.in_ok-put.ensures c.put-2.ensures
