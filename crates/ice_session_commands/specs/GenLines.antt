-- The lines of the summary of a generated session.
use Rattle.std.specs.Prelude.{List, [], ◌∷◌, ℕ, codes, decimal}
use Rattle.std.specs.Fmt.{signed_decimal}
use Rattle.ice_journal.specs.Spelling.{fraction_text}
use Rattle.ice_trial.specs.declared.summary.Summary.{Summary}
use Rattle.ice_session_commands.specs.declared.summary_line.SummaryLine.{SummaryLine}
use Rattle.ice_session_commands.specs.declared.summary_line.SummaryLine.TheVariants as line
use Rattle.ice_command_parts.specs.Lines.{line_text}

abbrev pub summary_line : SummaryLine → List ℕ
summary_line (line.Generated number) = line_text (codes "gen" ∷ decimal number ∷ [])
summary_line line.Goods = line_text (codes "goods" ∷ codes "12" ∷ [])
summary_line line.Bidders = line_text (codes "bidders" ∷ codes "8" ∷ [])
summary_line line.Nodes = line_text (codes "nodes" ∷ codes "68" ∷ [])
summary_line (line.Opened value regret) = line_text (codes "opened" ∷ signed_decimal value ∷ signed_decimal regret ∷ [])
summary_line (line.Settled number) = line_text (codes "settled" ∷ decimal number ∷ [])
summary_line (line.Total value) = line_text (codes "total" ∷ signed_decimal value ∷ [])
summary_line (line.Regret amount) = line_text (codes "regret" ∷ signed_decimal amount ∷ [])
summary_line (line.Surplus surplus) = line_text (codes "surplus" ∷ fraction_text surplus ∷ [])
summary_line line.End = line_text (codes "end" ∷ codes "gen" ∷ [])

abbrev pub lines_of_summary : ℕ → Summary → List SummaryLine
lines_of_summary number s =
    line.Generated number ∷ line.Goods ∷ line.Bidders ∷ line.Nodes ∷ line.Opened s.opened s.opened_regret
    ∷ line.Settled s.settled ∷ line.Total s.total ∷ line.Regret s.regret ∷ line.Surplus s.surplus ∷ line.End ∷ []
