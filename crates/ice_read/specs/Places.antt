-- The places of faults, as they are written.
use Rattle.std.specs.Prelude.{ℕ, ◌==◌, Bool, true, List, [], ◌∷◌, ◌++◌, codes}
use Rattle.ice_defs.specs.FileFault.{Path}

-- each part of a path, after a dot
abbrev pub dotted_text : Path → List ℕ
dotted_text [] = []
dotted_text (part ∷ parts) = 46 ∷ part ++ dotted_text parts

-- without the first dot; `-` is the whole file
abbrev pub place_text : List ℕ → List ℕ
place_text [] = codes "-"
place_text (dot ∷ rest) = rest

abbrev pub is_dotted : List ℕ → Bool
is_dotted [] = true
is_dotted (b ∷ bs) = b == 46
