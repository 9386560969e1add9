-- The fields of a line, which stand between its spaces.
use Rattle.std.specs.Prelude.{ℕ, ◌==◌, List, [], Option, Some, None}
use Rattle.std.specs.Borrow.{Bor}
use Rattle.std.specs.List.{slice_split}

-- the parts of a text, cut at each space
abbrev pub fields : List ℕ → List (List ℕ)
fields text = slice_split (λ byte. byte == 32) text

-- the fields that are left, where there are any
abbrev pub fields_left : Option (Bor (List ℕ)) → List (List ℕ)
fields_left None = []
fields_left (Some rest) = fields rest.now
