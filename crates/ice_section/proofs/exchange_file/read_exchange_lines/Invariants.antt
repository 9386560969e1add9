use Rattle.std.proofs.Common.{length}
use Rattle.ice_section.specs.LineFile.{exchange_of_records}
use Rattle.ice_section.specs.FileSteps.{IsBegun, exchange_after}
use Rattle.ice_section.specs.FileStates.{so_far, IsNumbered}
use Rattle.ice_section.proofs.Files.{HasRead}
use Rattle.ice_section.proofs.exchange_file.read_exchange_lines.Given as goal

abbrev pub invariant-loop-rest : goal.invariant-loop-rest
invariant-loop-rest l = record {
  read : HasRead exchange_of_records (exchange_after l.lines (so_far l.file)) l.bytes l.rest l.lines;
  begun : IsBegun l.lines (so_far l.file) l.file.section;
  numbered : IsNumbered l.file.reached;
}

abbrev pub decreases-loop-rest : goal.decreases-loop-rest
decreases-loop-rest l = length l.rest
