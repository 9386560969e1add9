-- A file of a shelf in memory, as its name and bytes.
use Rattle.std.specs.Prelude.{string_bytes}
use Rattle.ice_edge.specs.declared.memory_shelf.MemFile.{MemFile}
use Rattle.ice_edge.specs.MemoryShelf.{File}

abbrev pub file_of : MemFile → File
file_of file = record { name = string_bytes file.name; bytes = file.bytes.items }
