-- The names of goods, and owned amounts.
use Rattle.std.specs.Prelude.{ℕ, ◌≤◌, IsTrue, List}
use Rattle.std.specs.List.{AllByRecursion}
use Rattle.ice_defs.specs.Name.{is_name}

abbrev pub AreNames : List (List ℕ) → Type 0
AreNames names = AllByRecursion (λ name. IsTrue (is_name name)) names

abbrev pub AreAmounts : List ℕ → Type 0
AreAmounts own = AllByRecursion (λ amount. amount ≤ 1000000) own
