-- What a shelf tells: the files that it holds, and how often fetches have failed.
use Rattle.std.specs.Prelude.{◌≡◌, ℕ, ◌<◌, ◌≤◌, List, length, Option, Some, IfSome, IsSomeAnd}
use Rattle.ice_edge.specs.Edge.{Rose}

-- what is told at one time: of each name nothing, or that no file has it, or its bytes; how often a
-- fetch of it failed; and how often its file was longer than a limit
pub record Told : Type 0 where
  pub holds : List ℕ → Option (Option (List ℕ))
  pub faults : List ℕ → ℕ
  pub overlong : List ℕ → ℕ → ℕ

-- the same files are told, and no count fell
pub record IsLater (before after : Told) : Type 0 where
  pub holds : (name : List ℕ) → after.holds name ≡ before.holds name
  pub faults : (name : List ℕ) → before.faults name ≤ after.faults name
  pub overlong : (name : List ℕ) (limit : ℕ) → before.overlong name limit ≤ after.overlong name limit

-- these bytes lie under the name, where it is told what does
abbrev pub AreTold : Told → List ℕ → List ℕ → Type 0
AreTold shelf name bytes = IfSome (shelf.holds name) (λ file. file ≡ Some bytes)

-- a file with more bytes lies under the name, where it is told what does
abbrev pub IsLonger : Told → List ℕ → ℕ → Type 0
IsLonger shelf name limit = IfSome (shelf.holds name) (λ file. IsSomeAnd file (λ bytes. limit < length bytes))

-- the count of failed fetches of this name rose
abbrev pub FaultRose : Told → Told → List ℕ → Type 0
FaultRose before after name = Rose (before.faults name) (after.faults name)

-- the count of fetches of this name that found more bytes than the limit rose
abbrev pub OverlongRose : Told → Told → List ℕ → ℕ → Type 0
OverlongRose before after name limit = Rose (before.overlong name limit) (after.overlong name limit)
