-- The open parts.
use Rattle.std.specs.Prelude.{ℕ, suc, ◌<◌, ◌≡◌, ◌⊎◌, List, length, slice_index, ℤ, ◌≤ℤ◌, ◌<ℤ◌, Option, None, Some}
use Rattle.std.specs.List.{Contains}
use Rattle.ice_search_log.specs.Parts.{Part, part_at}
use Rattle.ice_search_log.specs.Searching.{IsAboveOpen}
use Rattle.ice_search.specs.declared.frontier.Fate.{Fate}
use Rattle.ice_search.specs.declared.frontier.Fate.TheVariants.{Open}

-- each number is that of a part
abbrev pub AreParts : List Part → List ℕ → Type 0
AreParts parts numbers = (j : ℕ) → Contains numbers j → j < length parts

-- the open part at this place isn't split and has the greatest bound of all open ones, which is
-- above the value
pub record IsGreatestOpen (parts : List Part) (numbers : List ℕ) (value : ℤ) (place : ℕ) : Type 0 where
  pub there : place < length numbers
  pub whole : (part_at parts (slice_index numbers place)).split ≡ None
  pub above : value <ℤ (part_at parts (slice_index numbers place)).key
  pub greatest : IsAboveOpen parts numbers (part_at parts (slice_index numbers place)).key

-- the bound of the open part at a place, and the value where there is none
abbrev pub bound_at : List Part → List ℕ → ℤ → Option ℕ → ℤ
bound_at parts numbers value None = value
bound_at parts numbers value (Some place) = (part_at parts (slice_index numbers place)).key

-- the place is one of the first n, and that of a part that isn't split with a bound above the value
abbrev pub IsHigher : List Part → List ℕ → ℤ → ℕ → Option ℕ → Type 0
IsHigher parts numbers value n None = Unit {0}
IsHigher parts numbers value n (Some place) =
    (place < n) × ((part_at parts (slice_index numbers place)).split ≡ None) × (value <ℤ (part_at parts (slice_index numbers place)).key)

-- of the first n open parts that aren't split, none has a bound above this
abbrev pub IsAboveFirst : List Part → List ℕ → ℕ → ℤ → Type 0
IsAboveFirst parts numbers n bound =
    (i : ℕ) → i < n → (part_at parts (slice_index numbers i)).split ≡ None → (part_at parts (slice_index numbers i)).key ≤ℤ bound

-- the part at a place is taken out, and its children that are open are put there
pub record AreOpened (old new : List ℕ) (place first : ℕ) (must_fate never_fate : Fate) : Type 0 where
  pub others : (j : ℕ) → Contains old j → (j ≡ slice_index old place → ⊥) → Contains new j
  pub must : must_fate ≡ Open → Contains new first
  pub never : never_fate ≡ Open → Contains new (suc first)
  pub within : (j : ℕ) → Contains new j → Contains old j ⊎ (j < suc (suc first))
