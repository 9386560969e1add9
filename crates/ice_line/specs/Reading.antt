-- What it means to read a value off its spelling.
use Rattle.std.specs.Prelude.{◌≡◌, Option, Some, None}

-- the one lawful value that this spells, and None exactly where no lawful value has this spelling
abbrev pub Reads : {A B : Type 0} → Option A → (A → Type 0) → (A → B) → B → Type 0
Reads {A} None IsLawful spelling text = (x : A) → IsLawful x → text ≡ spelling x → ⊥
Reads {A} (Some x) IsLawful spelling text = IsLawful x × (text ≡ spelling x) × ((y : A) → IsLawful y → text ≡ spelling y → y ≡ x)
