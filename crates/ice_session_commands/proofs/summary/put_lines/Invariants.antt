use Rattle.std.proofs.Common.{drop}
use Rattle.std.specs.List.{flat_map}
use Rattle.ice_edge.specs.Puts.{TakesAllBut}
use Rattle.ice_session_commands.specs.GenLines.{summary_line}
use Rattle.ice_session_commands.proofs.summary.put_lines.Given as goal

abbrev pub invariant-loop-line : goal.invariant-loop-line
invariant-loop-line g l =
    TakesAllBut (flat_map summary_line (drop l.line-index l.lines)) (flat_map summary_line l.lines) (g.K.Sink.taken l.initial.out) (g.K.Sink.taken l.out)
