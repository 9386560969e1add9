use Rattle.std.proofs.Common.{drop}
use Rattle.std.specs.List.{flat_map}
use Rattle.ice_edge.specs.Puts.{TakesAllBut}
use Rattle.ice_settled.specs.Shown.{charges_of}
use Rattle.ice_write_session.specs.Pieces.{payment_text}
use Rattle.ice_write_session.proofs.payment.put_payments.Given as goal

abbrev pub invariant-loop-bidder : goal.invariant-loop-bidder
invariant-loop-bidder g l =
    TakesAllBut (flat_map payment_text (drop l.bidder (charges_of l.charged))) (flat_map payment_text (charges_of l.charged))
    (g.K.Sink.taken l.initial.out) (g.K.Sink.taken l.out)
