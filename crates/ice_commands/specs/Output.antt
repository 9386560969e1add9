-- Lines of output that are no records.
use Rattle.std.specs.Prelude.{ℕ, List, [], ◌∷◌, ◌++◌, codes, decimal, ℤ}
use Rattle.std.specs.Fmt.{signed_decimal}
use Rattle.ice_defs.specs.Set.{NodeSet}
use Rattle.ice_journal.specs.Records as line
use Rattle.ice_journal.specs.Spelling.{line_of, fraction_text}
use Rattle.ice_journal_laws.specs.declared.rule.Rule.{Rule}
use Rattle.ice_journal_laws.specs.declared.rule.Rule.TheVariants as rule
use Rattle.ice_journal_laws.specs.Checks.{Failure}
use Rattle.ice_journal_laws.specs.Theorems.{Yes, of_assigned, of_regret, of_session}
use Rattle.ice_command_parts.specs.Lines.{line_text}

abbrev pub rule_word : Rule → List ℕ
rule_word rule.Closed = codes "closed"
rule_word rule.Order = codes "order"
rule_word rule.Short = codes "short"
rule_word rule.Exchange = codes "exchange"
rule_word rule.Count = codes "count"
rule_word rule.Parent = codes "parent"
rule_word rule.Few = codes "few"
rule_word rule.Many = codes "many"
rule_word rule.Fixing = codes "fixing"
rule_word rule.Excess = codes "excess"
rule_word rule.Value = codes "value"
rule_word rule.Near = codes "near"
rule_word rule.Sign = codes "sign"
rule_word rule.Fixed = codes "fixed"
rule_word rule.Above = codes "above"
rule_word rule.Alive = codes "alive"
rule_word rule.Regret = codes "regret"
rule_word rule.Prices = codes "prices"
rule_word rule.Violation = codes "violation"
rule_word rule.Accuracy = codes "accuracy"
rule_word rule.Balance = codes "balance"
rule_word rule.Verdict = codes "verdict"
rule_word rule.Threshold = codes "threshold"
rule_word rule.Payment = codes "payment"

abbrev pub yes_line : Yes → List ℕ
yes_line (of_assigned value) = line_text (codes "yes" ∷ signed_decimal value ∷ [])
yes_line (of_regret amount) = line_text (codes "yes" ∷ signed_decimal amount ∷ [])
yes_line (of_session amount surplus) = line_text (codes "yes" ∷ signed_decimal amount ∷ fraction_text surplus ∷ [])

abbrev pub no_line : Failure → List ℕ
no_line failure = line_text (codes "no" ∷ decimal failure.line ∷ rule_word failure.rule ∷ [])

-- the net of a bidder's best set, and the set
abbrev pub best_lines : List ℕ → ℤ → NodeSet → List ℕ
best_lines name net s = line_text (codes "best" ∷ name ∷ signed_decimal net ∷ []) ++ line_of (line.set s)

abbrev pub best_end : List ℕ
best_end = line_text (codes "end" ∷ codes "best" ∷ [])
