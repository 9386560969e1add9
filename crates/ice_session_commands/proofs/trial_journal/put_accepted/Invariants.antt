use Rattle.std.proofs.Common.{drop}
use Rattle.std.specs.List.{flat_map}
use Rattle.ice_edge.specs.Puts.{TakesAllBut}
use Rattle.ice_session_commands.specs.GenJournal.{accepted_text}
use Rattle.ice_session_commands.proofs.trial_journal.put_accepted.Given as goal

abbrev pub invariant-loop-bid : goal.invariant-loop-bid
invariant-loop-bid g l =
    TakesAllBut (flat_map accepted_text (drop l.bid-index l.bids)) (flat_map accepted_text l.bids) (g.K.Sink.taken l.initial.out) (g.K.Sink.taken l.out)
