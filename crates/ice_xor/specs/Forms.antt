-- How many packages a bidder may take.
use Rattle.std.specs.Prelude.{ℕ, ◌≡◌, Bool, true, false, List, [], ◌∷◌, codes, Option, Some, None}
use Rattle.serde_json.specs.Data.{Data}
use Rattle.ice_read.specs.Values.{has_exactly}
use Rattle.ice_xor.specs.declared.bidders.Form.{Form}
use Rattle.ice_xor.specs.declared.bidders.Form.TheVariants.{Xor, Or}

abbrev pub form_word : Form → List ℕ
form_word Xor = codes "xor"
form_word Or = codes "or"

abbrev pub form_any : Form → Bool
form_any Xor = false
form_any Or = true

abbrev pub form_names : Form → List (List ℕ)
form_names form = codes "name" ∷ codes "own" ∷ form_word form ∷ []

-- the members of a value are those of this form, or of none
abbrev pub IsForm : Option Form → Data → Type 0
IsForm (Some Xor) d = has_exactly (form_names Xor) d ≡ true
IsForm (Some Or) d = (has_exactly (form_names Xor) d ≡ false) × (has_exactly (form_names Or) d ≡ true)
IsForm None d = (has_exactly (form_names Xor) d ≡ false) × (has_exactly (form_names Or) d ≡ false)
