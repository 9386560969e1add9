-- The rule that a set breaks by itself.
use Rattle.std.specs.Prelude.{◌≡◌, ◌≢◌, length, Option, Some, None}
use Rattle.ice_defs.specs.declared.SatRule.{SatRule}
use Rattle.ice_defs.specs.Tree.{Tree}
use Rattle.ice_defs.specs.Set.{NodeSet, IsSatisfied}
use Rattle.ice_defs.specs.SetFault.{set_fault}
use Rattle.ice_journal_laws.specs.declared.rule.Rule.{Rule}
use Rattle.ice_journal_laws.specs.declared.rule.Rule.TheVariants as rule
use Rattle.ice_journal_laws.specs.Assigning.{rule_of}

-- the rule that a set of this tree breaks by itself, if it breaks one
abbrev pub IsBroken : Tree → NodeSet → Option Rule → Type 0
IsBroken t s None = IsSatisfied t s
IsBroken t s (Some rule.Count) = length s ≢ length t
IsBroken t s (Some other) = (length s ≡ length t) × (k : SatRule) × (set_fault t s ≡ Some k) × (other ≡ rule_of k)
