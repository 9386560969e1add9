-- Values of a record are in range.
use Rattle.std.proofs.Common.{◌≡◌, ◌≤◌, true, List, [], ◌∷◌, length, ℤ, refl, arith}
use Rattle.std.specs.List.{AllByRecursion, list_all}
use Rattle.std.proofs.lemmas.Bool.{and_from}
use Rattle.std.proofs.lemmas.Int.{ints}
use Rattle.ice_defs.specs.Making.{is_value}
use Rattle.ice_terms.specs.Bids.{AreValues}
use Rattle.ice_journal.specs.Ranges.{IsValue}

value_true : (v : ℤ) → IsValue v → is_value v ≡ true
value_true v is = (let low = is.0 in let high = is.1 in grind (arith, ints))

values_true : (vs : List ℤ) → AllByRecursion IsValue vs → list_all is_value vs ≡ true
values_true [] all = refl
values_true (v ∷ vs) all = and_from (is_value v) (list_all is_value vs) (value_true v all.0) (values_true vs all.1)

pub are_values : (vs : List ℤ) → length vs ≤ 200 → AllByRecursion IsValue vs → AreValues vs
are_values vs few all = record { few = few; each = values_true vs all }
