-- Arrays of two elements.
use Rattle.std.proofs.Common.{◌≡◌, suc, List, [], ◌∷◌, length, get_or, Ok, refl, ap, ◌∙◌, arith}
use Rattle.serde_json.specs.Data.{Data, no_items, item}
use Rattle.serde_json.specs.Events.{items_len}
use Rattle.serde_json.specs.View.{view, items_view}
use Rattle.serde_json.specs.declared.value.Value.{Value}
use Rattle.ice_defs.specs.FileFault.{Path}
use Rattle.ice_read.specs.Values.{array_of}

pub items_len-items_view : (vs : List Value) → items_len (items_view vs) ≡ length vs
items_len-items_view [] = refl
items_len-items_view (v ∷ vs) = ap suc (items_len-items_view vs)

two : (vs : List Value) (a b : Value) → length vs ≡ 2 → a ≡ get_or vs 0 a → b ≡ get_or vs 1 b → items_view vs ≡ item (view a) (item (view b) no_items)
two [] a b count first second = absurd (omega arith)
two (x ∷ []) a b count first second = absurd (omega arith)
two (x ∷ y ∷ []) a b count first second = rw (first, second)
two (x ∷ y ∷ z ∷ vs) a b count first second = absurd (omega arith)

-- an array of two elements, as a pattern gives them
pub pair : (d : Data) (vs same : List Value) (a b : Value) (path : Path) → array_of path d ≡ Ok (items_view vs) → same ≡ vs → length same ≡ 2 → a ≡ get_or same 0 a → b ≡ get_or same 1 b
    → array_of path d ≡ Ok (item (view a) (item (view b) no_items))
pair d vs same a b path reading is count first second = reading ∙ rw (← is) (ap (λ items. Ok items) (two same a b count first second))
