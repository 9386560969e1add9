use Rattle.std.proofs.Common.{drop}
use Rattle.std.specs.List.{flat_map}
use Rattle.ice_edge.specs.Puts.{TakesAllBut}
use Rattle.ice_commands.specs.Bests.{lines_of}
use Rattle.ice_commands.proofs.best_lines.put_sets.Given as goal

abbrev pub invariant-loop-best : goal.invariant-loop-best
invariant-loop-best g l =
    TakesAllBut (flat_map lines_of (drop l.best-index l.sets)) (flat_map lines_of l.sets) (g.K.Sink.taken l.initial.out) (g.K.Sink.taken l.out)
