-- Numbers of a list that are stated by their places: amounts of nodes, and changes of a leaf.
use Rattle.std.specs.Prelude.{◌≤◌, ◌≡◌, ◌⊎◌, ℕ, List, [], ◌∷◌, length, Any, slice_set, slice_index_or, ℤ, pos}
use Rattle.std.specs.List.{AllByRecursion}
use Rattle.ice_derived.specs.Ranges.{IsAmount, IsToll}
use Rattle.ice_journal.specs.declared.line.Numbered.{Numbered}

-- the numbers after these changes, one after another; one past the end changes nothing
abbrev pub changed : List ℤ → List Numbered → List ℤ
changed numbers [] = numbers
changed numbers (c ∷ later) = changed (slice_set numbers c.number c.amount) later

-- a change names a number that isn't there, or states the one that is there
abbrev pub IsNoChange : List ℤ → Numbered → Type 0
IsNoChange numbers c = (length numbers ≤ c.number) ⊎ (slice_index_or numbers c.number (pos 0) ≡ c.amount)

abbrev pub HasNoChange : List ℤ → List Numbered → Type 0
HasNoChange numbers changes = Any (IsNoChange numbers) changes

-- one of them is past the end of so many
abbrev pub NamesNone : ℕ → List Numbered → Type 0
NamesNone count numbers = Any (λ (c : Numbered). count ≤ c.number) numbers

-- at most 2^62 in size
abbrev pub AreTolls : List Numbered → Type 0
AreTolls changes = AllByRecursion (λ (c : Numbered). IsToll c.amount) changes

-- at most 2^20 in size
abbrev pub AreAmounts : List Numbered → Type 0
AreAmounts numbers = AllByRecursion (λ (c : Numbered). IsAmount c.amount) numbers
