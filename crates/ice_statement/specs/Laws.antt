-- A law of what `statement` answers.
use Rattle.std.specs.Prelude.{ℕ, ◌≡◌, ◌≢◌, List, Result, Err}
use Rattle.ice_reading.specs.Ends.{in_want}
use Rattle.ice_statement.specs.declared.judging.StatementEnd.{StatementEnd}
use Rattle.ice_statement.specs.declared.judging.StatementEnd.TheVariants.{Journal}
use Rattle.ice_statement.specs.Judging.{MayState}

-- but for want of memory, bytes have one answer for a name: that
-- there is a statement, or one reason why there is none
abbrev pub OneStatementAnswer : Type 0
OneStatementAnswer =
    (bytes name : List ℕ) (one other : Result (Unit {0}) StatementEnd) → MayState bytes name one → MayState bytes name other
    → one ≢ Err (Journal in_want) → other ≢ Err (Journal in_want) → one ≡ other
