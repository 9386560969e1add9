-- Lines of a statement are read by their one spelling.
use Rattle.std.proofs.Common.{List, ℕ, sym, ◌∙◌}
use Rattle.std.specs.Prelude.{Some}
use Rattle.ice_line.specs.Reading.{Reads}
use Rattle.ice_journal.proofs.OneSpelling.{one_spelling}
use Rattle.ice_statement_laws.specs.Statement.{StatementLine, statement_text}
use Rattle.ice_statement_laws.specs.Texts.{IsLine}
use Rattle.ice_statement_laws.proofs.Spelling.{one_line_spelling}
use Rattle.ice_audit.specs.Lines.{FindsOwn}

-- a line that is no record is the only line with its text
pub own_read : (l : StatementLine) (text : List ℕ) → FindsOwn (Some l) text → Reads (Some l) IsLine statement_text text
own_read l text (own, lawful, spelled) = (lawful, spelled, λ y h e. one_line_spelling one_spelling y l h lawful (sym e ∙ spelled))
