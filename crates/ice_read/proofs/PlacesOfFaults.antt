-- The places of faults, told from a value and from what holds it.
use Rattle.std.proofs.Common.{◌≡◌, ℕ, List, [], ◌∷◌, ◌++◌, refl, sym, ap, ◌∙◌, append_assoc, append-nil}
use Rattle.std.specs.Prelude.{Result, Err, unwrap_or}
use Rattle.std.specs.List.{join_with_byte}
use Rattle.ice_defs.specs.FileFault.{Path, Read, place_of, refuse}
use Rattle.ice_read.specs.declared.fault.ReadFault.{ReadFault}
use Rattle.ice_read.specs.declared.cause.ReadCause.{ReadCause}
use Rattle.ice_read.specs.Cause.{cause_number}
use Rattle.ice_read.specs.Places.{dotted_text, place_text}
use Rattle.ice_read.specs.Fault.{fault_at, IsFault, IsReading}
use Rattle.ice_read.specs.declared.cause.ReadCause.TheVariants.{Shape}

joined : (part : List ℕ) (parts : Path) → join_with_byte 46 (part ∷ parts) ≡ part ++ dotted_text parts
joined part [] = sym (append-nil part)
joined part (next ∷ parts) = ap (λ rest. part ++ 46 ∷ rest) (joined next parts)

place_of-shown : (path : Path) → place_of path ≡ place_text (dotted_text path)
place_of-shown [] = refl
place_of-shown (part ∷ parts) = joined part parts

-- a fault of the value itself
pub refused : {X : Type 0} (number : ℕ) (cause : ReadCause) (fault : ReadFault) → fault ≡ record { place = []; cause = cause } → unwrap_or (cause_number cause) 0 ≡ number
    → (path : Path) → refuse {X = X} number path ≡ Err (fault_at path fault)
refused number cause fault is numbered path =
    rw (is, numbered, append-nil (dotted_text path)) (ap (λ place. Err (record { number = number; place = place })) (place_of-shown path))

dotted-append : (path : Path) (part rest : List ℕ) → dotted_text (path ++ part ∷ []) ++ rest ≡ dotted_text path ++ ((46 ∷ part) ++ rest)
dotted-append [] part rest = rw (append-nil part)
dotted-append (first ∷ path) part rest = ap (λ xs. 46 ∷ xs) (append_assoc first (dotted_text (path ++ part ∷ [])) rest ∙ ap (λ xs. first ++ xs) (dotted-append path part rest) ∙ sym (append_assoc first (dotted_text path) _))

-- a fault below one part of the value's path is the fault of the value with the longer place
pub fault_below : (part : List ℕ) (inner outer : ReadFault) → outer ≡ record { place = (46 ∷ part) ++ inner.place; cause = inner.cause } → (path : Path) → fault_at (path ++ part ∷ []) inner ≡ fault_at path outer
fault_below part inner outer is path = rw is (ap (λ place. record { number = unwrap_or (cause_number inner.cause) 0; place = place_text place }) (dotted-append path part inner.place))

-- what is read of a part has the fault with the longer place
pub deeper : {X : Type 0} (read : Path → Read X) (part : List ℕ) (inner outer : ReadFault) → IsFault inner read → outer ≡ record { place = (46 ∷ part) ++ inner.place; cause = inner.cause }
    → (path : Path) → read (path ++ part ∷ []) ≡ Err (fault_at path outer)
deeper read part inner outer fault is path = fault (path ++ part ∷ []) ∙ ap Err (fault_below part inner outer is path)

-- a member that isn't there
pub missing : {X : Type 0} (part : List ℕ) (fault : ReadFault) → fault ≡ record { place = 46 ∷ part; cause = Shape } → (path : Path) → refuse {X = X} 2 (path ++ part ∷ []) ≡ Err (fault_at path fault)
missing part fault is =
    let here : ReadFault = record { place = []; cause = Shape } in
    deeper (refuse 2) part here fault (refused 2 Shape here refl refl) (rw (append-nil part) is)

pub as_fault : {X : Type 0} (r : Result X ReadFault) (fault : ReadFault) (read : Path → Read X) → r ≡ Err fault → IsFault fault read → IsReading r read
as_fault r fault read is h = rw is h

-- a fault of a part
pub refused_part : {X : Type 0} (number : ℕ) (cause : ReadCause) (part : List ℕ) (inner outer : ReadFault) → inner ≡ record { place = []; cause = cause } → outer ≡ record { place = (46 ∷ part) ++ inner.place; cause = inner.cause }
    → unwrap_or (cause_number cause) 0 ≡ number → (path : Path) → refuse {X = X} number (path ++ part ∷ []) ≡ Err (fault_at path outer)
refused_part number cause part inner outer here is numbered = deeper (refuse number) part inner outer (refused number cause inner here numbered) is
