use Rattle.std.proofs.Common.{◌≡◌, drop, map}
use Rattle.ice_edge.specs.MemoryShelf.{found}
use Rattle.ice_edge.specs.MemoryFile.{file_of}
use Rattle.ice_edge.proofs.memory_shelf.look_up.Given as goal

abbrev pub invariant-loop-file : goal.invariant-loop-file
invariant-loop-file l = found (map file_of (drop l.file-index l.files)) l.name ≡ found (map file_of l.files) l.name
