-- What it means to read a record, or a part of one, off its fields.
use Rattle.std.specs.Prelude.{◌≡◌, List, ◌++◌, ℕ, Option, Some, None, option_map}
use Rattle.ice_journal.specs.Ranges.{IsRecord}
use Rattle.ice_journal.specs.Spelling.{fields_of}
use Rattle.ice_journal.specs.declared.line.Line.{Line}
use Rattle.ice_journal.specs.Lines.{record_of}

-- a lawful value that this spells, and None exactly where no lawful value has this spelling
abbrev pub Finds : {A B : Type 0} → Option A → (A → Type 0) → (A → B) → B → Type 0
Finds {A} None IsLawful spelling text = (x : A) → IsLawful x → text ≡ spelling x → ⊥
Finds {A} (Some x) IsLawful spelling text = IsLawful x × (text ≡ spelling x)

-- a record whose fields are these words and then the rest, and None exactly where there is none
abbrev pub FindsAfter : List (List ℕ) → Option Line → List (List ℕ) → Type 0
FindsAfter words line rest = Finds (option_map record_of line) IsRecord fields_of (words ++ rest)

-- the one lawful value whose fields these begin with and the
-- fields after it, and None exactly where there is none
abbrev pub ReadsFront : {A : Type 0} → Option A → (A → Type 0) → (A → List (List ℕ)) → List (List ℕ) → List (List ℕ) → Type 0
ReadsFront {A} None IsLawful spelling fields after = (x : A) (rest : List (List ℕ)) → IsLawful x → fields ≡ spelling x ++ rest → ⊥
ReadsFront {A} (Some x) IsLawful spelling fields after =
    IsLawful x × (fields ≡ spelling x ++ after)
    × ((y : A) (rest : List (List ℕ)) → IsLawful y → fields ≡ spelling y ++ rest → (y ≡ x) × (rest ≡ after))
