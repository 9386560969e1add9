use Rattle.std.proofs.Common.{◌≡◌, ◌+◌, ◌≤◌, length}
use Rattle.ice_reading.specs.Reading.{Runs}
use Rattle.ice_reading.proofs.SoFar.{HasRead}
use Rattle.ice_reading.proofs.reading.read_journal.Given as goal

abbrev pub invariant-loop-rest : goal.invariant-loop-rest
invariant-loop-rest g l = record {
  read : HasRead (λ records. Runs g.R.Reader.step l.initial.reader records l.reader) l.bytes l.rest l.read;
  line : g.R.Reader.line l.reader ≡ l.read + 1;
  few : l.read + length l.rest ≤ length l.bytes;
}

abbrev pub decreases-loop-rest : goal.decreases-loop-rest
decreases-loop-rest g l = length l.rest
