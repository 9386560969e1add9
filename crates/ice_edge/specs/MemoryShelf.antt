-- A shelf in memory: what it holds, and what a fetch does.
use Rattle.std.specs.Prelude.{ℕ, ◌==◌, Bool, nat_lt, List, [], ◌∷◌, ◌++◌, Option, Some, None, length, if◌then◌else◌}
use Rattle.std.specs.List.{list_any}
use Rattle.std.specs.Str.{bytes_eq}
use Rattle.ice_edge.specs.Edge.{one_more}
use Rattle.ice_edge.specs.Told.{Told}
use Rattle.ice_edge.specs.declared.shelf.FetchFault.{FetchFault}
use Rattle.ice_edge.specs.declared.shelf.FetchFault.TheVariants.{Failed, TooLong, NoMemory}

pub record File : Type 0 where
  pub name : List ℕ
  pub bytes : List ℕ

-- the files, the latest first, the numbers of the fetches that are to fail, how many fetches there
-- were, and the counts of its faults
pub record ShelfState : Type 0 where
  pub files : List File
  pub failing : List ℕ
  pub calls : ℕ
  pub faults : ℕ
  pub overlong : ℕ

abbrev pub empty_shelf : ShelfState
empty_shelf = record { files = []; failing = []; calls = 0; faults = 0; overlong = 0 }

-- the bytes of the latest file of this name
abbrev pub found : List File → List ℕ → Option (List ℕ)
found [] name = None
found (file ∷ files) name = if bytes_eq file.name name then Some file.bytes else found files name

abbrev pub held : ShelfState → List ℕ → Option (List ℕ)
held shelf name = found shelf.files name

-- it tells of every name what it holds; its counts are one for all names
abbrev pub told_of : ShelfState → Told
told_of shelf = record { holds = λ name. Some (held shelf name); faults = λ name. shelf.faults; overlong = λ name limit. shelf.overlong }

-- a file that is there takes the place of the one of its name
abbrev pub with_file : ShelfState → List ℕ → List ℕ → ShelfState
with_file shelf name bytes = record shelf { files = record { name = name; bytes = bytes } ∷ shelf.files }

abbrev pub with_failing : ShelfState → ℕ → ShelfState
with_failing shelf call = record shelf { failing = shelf.failing ++ call ∷ [] }

-- the next fetch is one that is to fail
abbrev pub is_planned : ShelfState → Bool
is_planned shelf = list_any (λ call. call == one_more shelf.calls) shelf.failing

-- there is no file, or it has more bytes than the limit
abbrev pub file_fault : ℕ → Option (List ℕ) → Option FetchFault
file_fault limit None = Some Failed
file_fault limit (Some bytes) = if nat_lt limit (length bytes) then Some TooLong else None

-- what is wrong with the next fetch, of this name and up to this limit, apart from want of memory
abbrev pub fetch_fault : ShelfState → List ℕ → ℕ → Option FetchFault
fetch_fault shelf name limit = if is_planned shelf then Some Failed else file_fault limit (held shelf name)

-- one more fault of this kind
abbrev pub with_fault : Option FetchFault → ShelfState → ShelfState
with_fault (Some Failed) shelf = record shelf { faults = one_more shelf.faults }
with_fault (Some TooLong) shelf = record shelf { overlong = one_more shelf.overlong }
with_fault (Some NoMemory) shelf = shelf
with_fault None shelf = shelf

-- the shelf after a fetch: its number counts, and its fault
abbrev pub after_fetch : ShelfState → List ℕ → ℕ → ShelfState
after_fetch shelf name limit = with_fault (fetch_fault shelf name limit) (record shelf { calls = one_more shelf.calls })
