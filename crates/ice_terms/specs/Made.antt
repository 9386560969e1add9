-- A value that is made exactly where it is lawful.
use Rattle.std.specs.Prelude.{◌≡◌, Option, Some, None}

-- the wanted value, and None exactly where it isn't lawful
abbrev pub IsMade : {A : Type 0} → Option A → (A → Type 0) → A → Type 0
IsMade {A} None IsLawful wanted = ¬ IsLawful wanted
IsMade {A} (Some made) IsLawful wanted = IsLawful wanted × (made ≡ wanted)
