-- The rule that a set breaks by itself, and that a row's set does.
use Rattle.std.proofs.Common.{◌≡◌, ◌<◌, ℕ, List, length, refl, inl}
use Rattle.std.specs.Prelude.{Option, Some, None}
use Rattle.ice_defs.specs.declared.SatRule.{SatRule}
use Rattle.ice_defs.specs.declared.SatRule.TheVariants.{Parent, Few, Many}
use Rattle.ice_defs.specs.Tree.{Tree}
use Rattle.ice_defs.specs.Set.{NodeSet}
use Rattle.ice_defs.specs.SetFault.{set_fault}
use Rattle.ice_defs.specs.Trade.{tree_of}
use Rattle.ice_journal_laws.specs.declared.rule.Rule.{Rule}
use Rattle.ice_journal_laws.specs.declared.rule.Rule.TheVariants as rule
use Rattle.ice_journal_laws.specs.Assigning.{rule_of}
use Rattle.ice_check_offer.specs.Broken.{IsBroken}
use Rattle.ice_check_offer.specs.Rows.{IsBrokenRow}

-- a set at fault breaks the rule of its fault
pub broken_by : (t : Tree) (s : NodeSet) (k : SatRule) → length s ≡ length t → set_fault t s ≡ Some k → IsBroken t s (Some (rule_of k))
broken_by t s Parent count is = (count, Parent, is, refl)
broken_by t s Few count is = (count, Few, is, refl)
broken_by t s Many count is = (count, Many, is, refl)

-- of a bidder that is there
pub broken_there : (ts : List Tree) (b : ℕ) (x : NodeSet) (found : Option Rule) → b < length ts → IsBroken (tree_of ts b) x found → IsBrokenRow ts b x found
broken_there ts b x None there is = (there, is)
broken_there ts b x (Some rule.Count) there is = inl is
broken_there ts b x (Some other) there (counts, k, faulty, e) = (there, counts, k, faulty, e)
