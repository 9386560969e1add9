-- What a call of a shelf or a sink may do to what is told and to the counts.
use Rattle.std.specs.Prelude.{◌≡◌, ℕ, ◌+◌, ◌-◌, ◌<◌, ◌≤◌, ◌^◌, min, List, ◌++◌, Option, Some, None, length, take}

-- a count rose in a call: it is greater after it, or stands at its end, where it stays
abbrev pub Rose : ℕ → ℕ → Type 0
Rose old new = new < 2 ^ 64 - 1 → old < new

-- a count after one more; it stays at its end
abbrev pub one_more : ℕ → ℕ
one_more count = min (count + 1) (2 ^ 64 - 1)

-- the bytes written so far are the old ones and then this piece, where they are told
abbrev pub Appends : Option (List ℕ) → List ℕ → Option (List ℕ) → Type 0
Appends None piece new = Unit {0}
Appends (Some old) piece new = new ≡ Some (old ++ piece)

-- the bytes written so far are the old ones and then a front of this piece
abbrev pub AppendsFront : Option (List ℕ) → List ℕ → Option (List ℕ) → Type 0
AppendsFront old piece new = (n : ℕ) × (n ≤ length piece) × Appends old (take n piece) new
