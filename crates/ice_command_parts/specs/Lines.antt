-- How lines of output are made, and those of refusals.
use Rattle.std.specs.Prelude.{ℕ, List, [], ◌∷◌, ◌++◌, codes}
use Rattle.std.specs.List.{join_with_byte}
use Rattle.ice_defs.specs.FileFault.{FileFault}
use Rattle.ice_journal.specs.Records as line
use Rattle.ice_journal.specs.Spelling.{line_of}

-- fields with a space between each two, and a newline
abbrev pub line_text : List (List ℕ) → List ℕ
line_text fields = join_with_byte 32 fields ++ 10 ∷ []

abbrev pub words_line : List ℕ
words_line = codes "words refused" ++ 10 ∷ []

-- a fault of the file with this number
abbrev pub refused_line : ℕ → FileFault → List ℕ
refused_line file fault = line_of (line.refused file fault.number fault.place)

abbrev pub unread_line : ℕ → List ℕ
unread_line file = line_of (line.unread file)
