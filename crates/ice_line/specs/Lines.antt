-- Bytes as lines, each ended by one newline.
use Rattle.std.specs.Prelude.{◌≡◌, ℕ, ◌<◌, ◌≤◌, ◌&&◌, nat_le, Bool, IsTrue, List, [], ◌∷◌, ◌++◌, length, Contains, Option, Some, None}
use Rattle.std.specs.Prelude.{Result, Ok, Err}
use Rattle.std.specs.List.{list_all}
use Rattle.std.specs.Borrow.{Bor}
use Rattle.ice_line.specs.declared.reader.LineFault.{LineFault}
use Rattle.ice_line.specs.declared.reader.LineFault.TheVariants.{BadByte, LongLine, Unended}

-- a byte that may stand in a line
abbrev pub is_line_byte : ℕ → Bool
is_line_byte b = nat_le 32 b && nat_le b 126

abbrev pub HasLineBytes : List ℕ → Type 0
HasLineBytes text = IsTrue (list_all is_line_byte text)

-- the bytes begin with this line, and these come after its newline
abbrev pub BeginsWithLine : List ℕ → List ℕ → List ℕ → Type 0
BeginsWithLine bytes line after = (bytes ≡ line ++ 10 ∷ after) × ¬ Contains line 10

-- the next line of the bytes, or what is wrong with it, and the bytes after it
abbrev pub NextLine : List ℕ → Option (Result (Bor (List ℕ)) LineFault) → List ℕ → Type 0
NextLine bytes None after = (bytes ≡ []) × (after ≡ [])
NextLine bytes (Some (Ok line)) after = BeginsWithLine bytes line.now after × HasLineBytes line.now × (length line.now ≤ 8192)
NextLine bytes (Some (Err BadByte)) after = (line : List ℕ) × BeginsWithLine bytes line after × ¬ HasLineBytes line
NextLine bytes (Some (Err LongLine)) after = (line : List ℕ) × BeginsWithLine bytes line after × HasLineBytes line × (8192 < length line)
NextLine bytes (Some (Err Unended)) after = (0 < length bytes) × (¬ Contains bytes 10) × (after ≡ [])
