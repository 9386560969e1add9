use Rattle.std.proofs.Common.{length}
use Rattle.ice_section.specs.LineFile.{prices_of_records}
use Rattle.ice_section.specs.FileSteps.{prices_after}
use Rattle.ice_section.specs.FileStates.{prices_so_far}
use Rattle.ice_section.proofs.Files.{HasRead}
use Rattle.ice_section.proofs.prices_file.read_prices_lines.Given as goal

abbrev pub invariant-loop-rest : goal.invariant-loop-rest
invariant-loop-rest l = HasRead (prices_of_records l.goods) (prices_after l.goods (prices_so_far l.file)) l.bytes l.rest l.lines

abbrev pub decreases-loop-rest : goal.decreases-loop-rest
decreases-loop-rest l = length l.rest
