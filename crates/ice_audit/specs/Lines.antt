-- The lines of a statement, as the code has them.
use Rattle.std.specs.Prelude.{◌≡◌, ℕ, List, Option, Some, None}
use Rattle.ice_journal.specs.Lines.{record_of}
use Rattle.ice_statement_laws.specs.Statement as spec
use Rattle.ice_statement_laws.specs.Texts.{IsLine}
use Rattle.ice_audit.specs.declared.line.StatementLine.{StatementLine}
use Rattle.ice_audit.specs.declared.line.StatementLine.TheVariants.{Named, Shown, Kept, Offered, Ended}

abbrev pub line_of : StatementLine → spec.StatementLine
line_of (Named name) = spec.named name
line_of (Shown r) = spec.shown (record_of r)
line_of (Kept s) = spec.kept s
line_of (Offered s) = spec.offered s
line_of Ended = spec.ended

-- it is no record
abbrev pub IsOwn : spec.StatementLine → Type 0
IsOwn (spec.shown r) = ⊥
IsOwn other = Unit {0}

-- a line that has this text and is no record, or none
abbrev pub FindsOwn : Option spec.StatementLine → List ℕ → Type 0
FindsOwn None text = (l : spec.StatementLine) → IsOwn l → IsLine l → text ≡ spec.statement_text l → ⊥
FindsOwn (Some l) text = IsOwn l × IsLine l × (text ≡ spec.statement_text l)
