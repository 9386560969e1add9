-- The rows of a list, and its test.
use Rattle.std.specs.Prelude.{ℕ, ◌<◌, ◌≤◌, ◌≡◌, ◌≢◌, ◌⊎◌, nat_lt, true, List, length, Option, Some, None}
use Rattle.ice_defs.specs.declared.SatRule.{SatRule}
use Rattle.ice_defs.specs.Tree.{Tree}
use Rattle.ice_defs.specs.Set.{NodeSet, IsSatisfied}
use Rattle.ice_defs.specs.SetFault.{set_fault}
use Rattle.ice_defs.specs.Trade.{tree_of}
use Rattle.ice_defs.specs.Exchange.{Exchange}
use Rattle.ice_defs.specs.Rows.{Row, PassesAccuracy, PassesBalance}
use Rattle.ice_journal_laws.specs.declared.rule.Rule.{Rule}
use Rattle.ice_journal_laws.specs.declared.rule.Rule.TheVariants as rule
use Rattle.ice_journal_laws.specs.Assigning.{rule_of}
use Rattle.ice_check_offer.specs.declared.place.CertificateList.{CertificateList}
use Rattle.ice_check_offer.specs.declared.place.CertificateList.TheVariants as list
use Rattle.ice_check_offer.specs.declared.offer.Offer.{Offer}
use Rattle.ice_check_offer.specs.Offers.{trade_of}
use Rattle.ice_pricing.specs.Tallies.{IsTallyOf}

-- the rule that a row's set breaks by itself, or none
abbrev pub IsBrokenRow : List Tree → ℕ → NodeSet → Option Rule → Type 0
IsBrokenRow ts b x None = (b < length ts) × IsSatisfied (tree_of ts b) x
IsBrokenRow ts b x (Some rule.Count) = (length x ≢ length (tree_of ts b)) ⊎ (length ts ≤ b)
IsBrokenRow ts b x (Some other) = (b < length ts) × (length x ≡ length (tree_of ts b))
    × (k : SatRule) × (set_fault (tree_of ts b) x ≡ Some k) × (other ≡ rule_of k)

abbrev pub rule_of_list : CertificateList → Rule
rule_of_list list.Accuracy = rule.Accuracy
rule_of_list list.Balance = rule.Balance

-- the list passes its test
abbrev pub Passes : Exchange → Offer → CertificateList → List Row → Type 0
Passes ex o list.Accuracy rows = (let t = trade_of ex o in
    PassesAccuracy t.trees t.weights t.sets t.goods t.cap o.judge.prices o.violation (record { den = o.den; rows = rows }))
Passes ex o list.Balance rows = (let t = trade_of ex o in
    PassesBalance t.trees t.weights t.sets t.goods o.judge.prices o.violation (record { den = o.den; rows = rows }))

-- rows of it that came pass, where there are fewer than 200
abbrev pub HasPassed : Exchange → Offer → CertificateList → Type 0
HasPassed ex o of = (rows : List Row) → IsTallyOf (trade_of ex o) rows o.tally → nat_lt (length rows) 200 ≡ true → Passes ex o of rows
