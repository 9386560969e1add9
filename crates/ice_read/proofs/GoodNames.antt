-- The names of goods that are found.
use Rattle.std.proofs.Common.{◌≡◌, ℕ, zero, suc, ◌<◌, ◌≤◌, true, List, [], ◌∷◌, length, get_or, Some, bytes_eq, sym, arith}
use Rattle.std.specs.Prelude.{IsTrue, Err, pos, ◌&&◌, nat_le}
use Rattle.std.specs.List.{position, list_all}
use Rattle.std.proofs.lemmas.Slice.Eq.{bytes_eq-Decides}
use Rattle.std.proofs.lemmas.Bool.{and_parts}
use Rattle.std.proofs.lemmas.Bool.Decides.{nat_tests}
use Rattle.std.proofs.lemmas.List.Quantifiers.{position-Some}
use Rattle.ice_defs.specs.Name.{is_name, is_name_byte}
use Rattle.ice_defs.specs.FileFault.{FileFault, Path}
use Rattle.serde_json.specs.Data.{Data}
use Rattle.ice_read.specs.Values.{at_member, whole_of}
use Rattle.ice_read.specs.ExchangeFile.{own_one}
use Rattle.ice_read.specs.Owned.{AreNames}

name_at : (names : List (List ℕ)) (i : ℕ) → AreNames names → i < length names → IsTrue (is_name (get_or names i []))
name_at [] i named l = absurd (omega arith)
name_at (name ∷ names) zero named l = named.0
name_at (name ∷ names) (suc i) named l = name_at names i named.1 (omega arith)

short_name : (name : List ℕ) → IsTrue (is_name name) → length name ≤ 32
short_name name is =
    let parts = and_parts (nat_le 1 (length name) && nat_le (length name) 32) (list_all is_name_byte name) is in
    let size : nat_le (length name) 32 ≡ true = (and_parts (nat_le 1 (length name)) (nat_le (length name) 32) parts.0).1 in
    grind (arith, nat_tests)

pub short_good : (name : List ℕ) (names : List (List ℕ)) (i : ℕ) → AreNames names → Some i ≡ position (bytes_eq name) names → length name ≤ 32
short_good name names i named found =
    let at = position-Some (bytes_eq name) names i [] (sym found) in
    let same : name ≡ get_or names i [] = (bytes_eq-Decides name (get_or names i [])).0 at.1 in
    rw same (short_name (get_or names i []) (name_at names i named at.0))

pub known_good : (goods : List (List ℕ)) (path : Path) (own name : List ℕ) (d : Data) (g : ℕ) (fault : FileFault) → Some g ≡ position (bytes_eq name) goods → whole_of (at_member path name) (pos 0) (pos 1000000) d ≡ Err fault → own_one goods path own name d ≡ Err fault
known_good goods path own name d g fault found e = rw (← found, e)
