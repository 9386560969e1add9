-- The states of a journal while its exchange is described, and the sets that are stated behind it.
use Rattle.std.specs.Prelude.{ℕ, ◌<◌, length, pos, Some, None}
use Rattle.ice_defs.specs.declared.SatRule.{SatRule}
use Rattle.ice_defs.specs.declared.SatRule.TheVariants.{Parent, Few, Many}
use Rattle.ice_defs.specs.Trade.{Assignment, is_exact, IsCovered, total_units}
use Rattle.ice_defs.specs.Exchange.{Exchange, trees_of, exact_of, opening_bounds}
use Rattle.ice_journal.specs.Records.{Version, Kind}
use Rattle.ice_section.specs.Section.{Section}
use Rattle.ice_journal_laws.specs.declared.rule.Rule.{Rule}
use Rattle.ice_journal_laws.specs.declared.rule.Rule.TheVariants as rule
use Rattle.ice_journal_laws.specs.State.{State, begun}

-- the records of the section are read, and this line is next
abbrev pub section_state : Version → Kind → ℕ → Section → State
section_state version kind line section = record (begun version kind) { line = line; section = section }

-- the section of a complete exchange
abbrev pub section_of : Exchange → Section
section_of ex = record { settings = Some ex.settings; goods = ex.goods; bidders = ex.bidders; draft = None }

-- the records that describe this exchange are read, and this line is next
abbrev pub exchange_state : Version → Kind → ℕ → Exchange → State
exchange_state version kind line ex = record (section_state version kind line (section_of ex)) { bounds = opening_bounds ex }

-- the rule of a set at fault
abbrev pub rule_of : SatRule → Rule
rule_of Parent = rule.Parent
rule_of Few = rule.Few
rule_of Many = rule.Many

-- what is bought of a good is covered by what is sold of it
abbrev pub IsBalanced : Exchange → Assignment → ℕ → Type 0
IsBalanced ex sets g = IsCovered (is_exact (exact_of ex) g) (total_units (trees_of ex) sets g) (pos 0)

-- each good is covered
abbrev pub AreBalanced : Exchange → Assignment → Type 0
AreBalanced ex sets = (g : ℕ) → g < length (exact_of ex) → IsBalanced ex sets g

-- some good is not covered
abbrev pub AreShort : Exchange → Assignment → Type 0
AreShort ex sets = (g : ℕ) × (g < length (exact_of ex)) × ¬ IsBalanced ex sets g
