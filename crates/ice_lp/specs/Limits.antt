-- What a program that can be solved is made of.
use Rattle.std.specs.Prelude.{ℕ, ◌≡◌, ◌<◌, ◌≤◌, ◌^◌, List, [], ◌∷◌, ◌++◌, length, ℤ, pos, ◌≤ℤ◌, unsigned_abs, All}
use Rattle.ice_defs.specs.Program.{Program, Constraint}

-- a number of a program
abbrev pub IsNumber : ℤ → Type 0
IsNumber n = unsigned_abs n ≤ 2 ^ 90

-- so many coefficients, none too large
pub record IsConstraint (n : ℕ) (row : Constraint) : Type 0 where
  pub same_length : length row.coeffs ≡ n
  pub coeffs : All IsNumber row.coeffs
  pub least : IsNumber row.least

-- a program with one row more, behind the others
abbrev pub with_row : Program → List ℤ → ℤ → Program
with_row p coeffs least = record { costs = p.costs; rows = p.rows ++ record { coeffs = coeffs; least = least } ∷ [] }

-- 1 to 64 columns, at most 400 rows, no cost below 0
pub record IsProgram (p : Program) : Type 0 where
  pub some : 0 < length p.costs
  pub few : length p.costs ≤ 64
  pub sized : All IsNumber p.costs
  pub low : All (λ c. pos 0 ≤ℤ c) p.costs
  pub rows_few : length p.rows ≤ 400
  pub rows : All (IsConstraint (length p.costs)) p.rows
