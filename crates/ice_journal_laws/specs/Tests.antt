-- The tests of a record: one small definition for each rule. Each is named by what is wrong, as its
-- rule is: a record fails the rule exactly where the definition holds. `Holds` alone says what is
-- right.
use Rattle.std.specs.Prelude.{ℕ, suc, ◌+◌, ◌<◌, ◌≤◌, ◌≡◌, ◌≢◌, ◌⊎◌, ◌==◌, ◌&&◌, ◌||◌, Bool, true, false, if◌then◌else◌, IsTrue, IsSome}
use Rattle.std.specs.Prelude.{IfSome, IsSomeAnd, is_none, List, [], ◌∷◌, ◌++◌, length, map, Any, slice_index_or, ℤ, pos, ◌-ℤ◌, ◌*ℤ◌, ◌<ℤ◌}
use Rattle.std.specs.Prelude.{◌≤ℤ◌, Option, Some, None, option_map, Result, Ok, Err}
use Rattle.ice_defs.specs.declared.SatRule.{SatRule}
use Rattle.ice_defs.specs.declared.SatRule.TheVariants.{Parent, Few, Many}
use Rattle.ice_defs.specs.Set.{NodeSet, Weights, value}
use Rattle.ice_defs.specs.SetFault.{set_fault}
use Rattle.ice_defs.specs.Trade.{tree_of, set_of, weights_of, is_exact, IsCovered, total_units, total_value}
use Rattle.ice_defs.specs.Bound.{Multipliers, IsBound}
use Rattle.ice_defs.specs.Steps.{Step, branch, leaf, dead, Side}
use Rattle.ice_defs.specs.Log.{HasWrongSign, IsFreeNode, IsDeadBidder, HasDead}
use Rattle.ice_defs.specs.Vickrey.{IsEmpty}
use Rattle.ice_defs.specs.Prices.{Prices, price_of}
use Rattle.ice_defs.specs.Pricing.{IsViolation}
use Rattle.ice_defs.specs.Rows.{Row, PassesAccuracy, PassesBalance, HasCommonDivisor}
use Rattle.ice_defs.specs.Fraction.{Fraction, whole_number, AtMost, Below, Equals, minus}
use Rattle.ice_defs.specs.Cut.{discount_at_cut, cut_sum}
use Rattle.ice_defs.specs.Round.{IsNextVerdict}
use Rattle.ice_journal.specs.Records.{Record, Change}
use Rattle.ice_section.specs.Section.{SectionFault, order, count, no_good, maker, take_record, Section}
use Rattle.ice_journal_laws.specs.declared.rule.Rule.{Rule}
use Rattle.ice_journal_laws.specs.declared.rule.Rule.TheVariants as rule
use Rattle.ice_defs.specs.declared.Group.{Group}
use Rattle.ice_defs.specs.declared.Group.TheVariants.{Assign, Final, Rival, Provisional, Without}
use Rattle.ice_journal_laws.specs.Fields.{set_in, is_spent, step_in, changes_in, amount_in, prices_in, is_limit, accuracy_in, row_in}
use Rattle.ice_journal_laws.specs.Fields.{verdict_in, Closing, threshold_in, payment_in, is_round_stop}
use Rattle.ice_defs.specs.Session.{Payment, standings}
use Rattle.ice_journal_laws.specs.State.{Stated, Place, at_section, at_sets, at_log, at_regret, at_prices, at_accuracy, at_accuracy_rows}
use Rattle.ice_journal_laws.specs.State.{at_balance_rows, at_verdict, at_threshold, at_payment, State, exchange_at, settings_at, trees_at}
use Rattle.ice_journal_laws.specs.State.{exact_at, goods_at, weights_at}
use Rattle.ice_journal_laws.specs.Next.{next, with_set, may_have_row}

-- ---- order

-- the record may not stand here
abbrev pub IsOutOfOrder : State → Record → Type 0
IsOutOfOrder s r = next s r ≡ None

-- a stop stands where it may stand
abbrev pub IsStop : State → Record → Type 0
IsStop s r = IsTrue (is_spent r || is_limit r || is_round_stop (s.number + 2) r) × IsSome (next s r)

-- a maker refuses, owned amounts don't count the goods, or a node names no good
abbrev pub is_refusal : Result Section SectionFault → Bool
is_refusal (Ok section) = false
is_refusal (Err order) = false
is_refusal (Err count) = true
is_refusal (Err no_good) = true
is_refusal (Err (maker number)) = true

-- the record belongs to the section of the exchange, and is refused there
abbrev pub IsRefused : State → Record → Type 0
IsRefused s r = (s.place ≡ at_section) × IsTrue (is_refusal (take_record s.section r))

-- ---- sets

-- a set of a bidder
pub record BidderSet : Type 0 where
  pub bidder : ℕ
  pub set : NodeSet

-- the set that a record states, with its bidder
abbrev pub stated_set : Place → Record → Option BidderSet
stated_set (at_sets g found) r = option_map (λ x. record { bidder = length found.sets; set = x }) (set_in r)
stated_set (at_accuracy_rows den rows) r = option_map (λ row. record { bidder = row.bidder; set = row.set }) (row_in r)
stated_set (at_balance_rows den rows) r = option_map (λ row. record { bidder = row.bidder; set = row.set }) (row_in r)
stated_set place r = None

-- the record states a set, and P holds of it
abbrev pub OfSet : State → Record → (BidderSet → Type 0) → Type 0
OfSet s r P = IsSomeAnd (stated_set s.place r) P

-- the bits of the set don't count the bidder's nodes, or no bidder is there
abbrev pub IsMiscounted : State → Record → Type 0
IsMiscounted s r = OfSet s r (λ x. length x.set ≢ length (tree_of (trees_at s) x.bidder) ⊎ (length (trees_at s) ≤ x.bidder))

-- the set isn't satisfied, by this rule at the least node at fault
abbrev pub IsUnsatisfied : SatRule → State → Record → Type 0
IsUnsatisfied rule s r = OfSet s r (λ x. set_fault (tree_of (trees_at s) x.bidder) x.set ≡ Some rule)

-- the bidder that the group leaves out has a set that isn't empty
abbrev pub HasLeftOut : Place → Record → Type 0
HasLeftOut (at_sets (Without b) found) r = (length found.sets ≡ b) × IsSomeAnd (set_in r) (λ x. ¬ IsEmpty x)
HasLeftOut place r = ⊥

-- a group with its value and all its sets
pub record Complete : Type 0 where
  pub group : Group
  pub stated : Stated

-- the group whose last set this is
abbrev pub complete_group : ℕ → Place → Record → Option Complete
complete_group bidders (at_sets g found) r = if suc (length found.sets) == bidders
    then option_map (λ x. record { group = g; stated = with_set found x }) (set_in r) else None
complete_group bidders place r = None

-- the record is the last set of a group, and P holds of the group
abbrev pub OfSets : State → Record → (Complete → Type 0) → Type 0
OfSets s r P = IsSomeAnd (complete_group (length (trees_at s)) s.place r) P

-- the units of the sets don't sum to at most 0 in each good, or not to 0 in an exact one
abbrev pub IsUnbalanced : State → Record → Type 0
IsUnbalanced s r =
    OfSets s r (λ c. (g : ℕ) × (g < goods_at s) × ¬ IsCovered (is_exact (exact_at s) g) (total_units (trees_at s) c.stated.sets g) (pos 0))

-- whether the head of a group states a value
abbrev pub is_valued : Group → Bool
is_valued Assign = false
is_valued Final = true
is_valued Rival = true
is_valued Provisional = true
is_valued (Without b) = true

-- the head's value isn't the sets' value at the group's weights
abbrev pub IsMisvalued : State → Record → Type 0
IsMisvalued s r = OfSets s r (λ c. IsTrue (is_valued c.group) × (total_value c.stated.sets (weights_at s c.group) ≢ c.stated.value))

-- ---- steps

-- a step with its group, the value that the group's log is to close at, the side that it stands in,
-- and the multipliers of the leaf before it
pub record Taken : Type 0 where
  pub group : Group
  pub target : ℤ
  pub side : Side
  pub before : Multipliers
  pub step : Step

-- the step that a record is, where a log is due
abbrev pub taken_step : State → Place → Record → Option Taken
taken_step s (at_log g found (side ∷ open_sides) m) r =
    option_map (λ x. record { group = g; target = found.value; side = side; before = m; step = x }) (step_in s.version (goods_at s) m r)
taken_step s place r = None

-- the record is a step of a log, and P holds of it
abbrev pub OfStep : State → Record → (Taken → Type 0) → Type 0
OfStep s r P = IsSomeAnd (taken_step s s.place r) P

-- a change names a good that isn't there, or the number that the good already has
abbrev pub IsNoChange : ℕ → Multipliers → Change → Type 0
IsNoChange goods m c = (goods ≤ c.good) ⊎ (slice_index_or m c.good (pos 0) ≡ c.multiplier)

-- a leaf is written with a change that names a good that isn't there, or the number that the good
-- already has
abbrev pub IsMisstated : State → Record → Type 0
IsMisstated s r = OfStep s r (λ t. IsSomeAnd (changes_in s.version r) (Any (IsNoChange (goods_at s) t.before)))

-- a leaf has a negative multiplier of a good that isn't exact
abbrev pub HasSign : State → Step → Type 0
HasSign s (branch b n) = ⊥
HasSign s (leaf m) = HasWrongSign (exact_at s) m
HasSign s (dead b) = ⊥

-- a branch names a node that isn't there, or that its side doesn't leave free
abbrev pub IsFixed : State → Side → Step → Type 0
IsFixed s side (branch b n) = ¬ IsFreeNode (trees_at s) side b n
IsFixed s side (leaf m) = ⊥
IsFixed s side (dead b) = ⊥

-- the bound of a leaf is above the value of the group
abbrev pub IsAbove : State → Taken → Step → Type 0
IsAbove s t (branch b n) = ⊥
IsAbove s t (leaf m) = (v : ℤ) × IsBound (trees_at s) (weights_at s t.group) m t.side v × (t.target <ℤ v)
IsAbove s t (dead b) = ⊥

-- a dead step names a bidder that isn't there, or that has a satisfied set left
abbrev pub IsAlive : State → Side → Step → Type 0
IsAlive s side (branch b n) = ⊥
IsAlive s side (leaf m) = ⊥
IsAlive s side (dead b) = ¬ IsDeadBidder (trees_at s) side b

-- ---- the regret, and prices

-- the stated regret isn't the rival's value less the final one
abbrev pub IsOtherRegret : Place → State → Record → Type 0
IsOtherRegret at_regret s r = IsSomeAnd (amount_in r) (λ amount. amount ≢ (s.rival -ℤ s.final.value))
IsOtherRegret place s r = ⊥

-- a price is above the cap, or the prices are not in lowest terms
abbrev pub AreUnlawful : State → Prices → Type 0
AreUnlawful s p = ((g : ℕ) × (g < goods_at s) × (((settings_at s).cap *ℤ pos p.den) <ℤ price_of p g)) ⊎ HasCommonDivisor p

-- the stated prices are unlawful
abbrev pub HasUnlawfulPrices : Place → State → Record → Type 0
HasUnlawfulPrices at_prices s r = IsSomeAnd (prices_in (goods_at s) r) (AreUnlawful s)
HasUnlawfulPrices place s r = ⊥

-- the weighted values, at which the provisional sets were searched and prices are tested
abbrev pub offered_weights : State → List Weights
offered_weights s = weights_at s Provisional

-- the stated violation isn't that of the prices
abbrev pub HasOtherViolation : Place → State → Record → Type 0
HasOtherViolation at_accuracy s r =
    IsSomeAnd (accuracy_in r) (λ a. ¬ IsViolation (trees_at s) (offered_weights s) s.offered s.prices a.violation)
HasOtherViolation place s r = ⊥

-- the rows show that no prices have a smaller violation
abbrev pub AccuracyHolds : State → ℕ → List Row → Type 0
AccuracyHolds s den rows =
    PassesAccuracy (trees_at s) (offered_weights s) s.offered (goods_at s) (settings_at s).cap s.prices s.violation
    (record { den = den; rows = rows })

-- the rows show that no prices of this violation have a smaller greatest price
abbrev pub BalanceHolds : State → ℕ → List Row → Type 0
BalanceHolds s den rows =
    PassesBalance (trees_at s) (offered_weights s) s.offered (goods_at s) s.prices s.violation (record { den = den; rows = rows })

-- the row behind these is the 200th
abbrev pub is_last_row : List Row → Bool
is_last_row rows = suc (length rows) == 200

-- the record is the 200th row of accuracy, and the rows don't show it
abbrev pub FailsAccuracy : Place → State → Record → Type 0
FailsAccuracy (at_accuracy_rows den rows) s r = IsTrue (is_last_row rows)
    × IsSomeAnd (row_in r) (λ row. ¬ AccuracyHolds s den (rows ++ row ∷ []))
FailsAccuracy place s r = ⊥

-- the record is the 200th row of balance, and the rows don't show it
abbrev pub FailsBalance : Place → State → Record → Type 0
FailsBalance (at_balance_rows den rows) s r = IsTrue (is_last_row rows)
    × IsSomeAnd (row_in r) (λ row. ¬ BalanceHolds s den (rows ++ row ∷ []))
FailsBalance place s r = ⊥

-- ---- rounds and the closing

-- the stated verdict isn't the one that the rules give
abbrev pub IsOtherVerdict : Place → State → Record → Type 0
IsOtherVerdict (at_verdict x) s r =
    IsSomeAnd (verdict_in r) (λ v. ¬ IsNextVerdict s.prices (settings_at s).improve
    (standings (exchange_at s) s.bounds s.offered) s.judged x v)
IsOtherVerdict place s r = ⊥

-- the Vickrey discounts by the values without each bidder
abbrev pub vickreys : State → List ℤ
vickreys s = map (λ without. s.final.value -ℤ without) s.withouts

-- the cut is in range, the discounts that it leaves sum to at most the total, and to no less unless
-- it is 0, and the surplus is the rest
pub record IsThresholdLine (vickrey : List ℤ) (total : ℤ) (c : Closing) : Type 0 where
  pub low : AtMost (whole_number (pos 0)) c.cut
  pub high : Any (λ v. AtMost c.cut (whole_number v)) vickrey
  pub paid : AtMost (cut_sum c.cut vickrey) (whole_number total)
  pub spent : Below (whole_number (pos 0)) c.cut → Equals (cut_sum c.cut vickrey) (whole_number total)
  pub rest : Equals c.surplus (minus (whole_number total) (cut_sum c.cut vickrey))

-- the stated cut and surplus aren't those that the Vickrey discounts give
abbrev pub IsOtherThreshold : Place → State → Record → Type 0
IsOtherThreshold at_threshold s r = IsSomeAnd (threshold_in r) (λ c. ¬ IsThresholdLine (vickreys s) s.final.value c)
IsOtherThreshold place s r = ⊥

-- the lower value of a bidder's final set
abbrev pub final_worth : State → ℕ → ℤ
final_worth s b = value (set_of s.final.sets b) (weights_of (weights_at s Final) b)

-- the stated Vickrey discount is this, the discount is what the cut leaves of it, and the payment
-- is the worth less the discount
pub record IsPaymentLine (vickrey : ℤ) (worth : ℤ) (cut : Fraction) (p : Payment) : Type 0 where
  pub vickrey_is : p.vickrey ≡ vickrey
  pub discount : Equals p.discount (discount_at_cut cut vickrey)
  pub payment : Equals p.payment (minus (whole_number worth) p.discount)

-- a stated number of the payment isn't the one that is due
abbrev pub IsOtherPayment : Place → State → Record → Type 0
IsOtherPayment (at_payment b) s r =
    IsSomeAnd (payment_in r) (λ p. ¬ IsPaymentLine (slice_index_or (vickreys s) b (pos 0)) (final_worth s b) s.cut p)
IsOtherPayment place s r = ⊥

-- ---- the table

-- a record fails the test of a rule
abbrev pub Fails : Rule → State → Record → Type 0
Fails rule.Closed s r = IsStop s r
Fails rule.Order s r = IsOutOfOrder s r
Fails rule.Short s r = ⊥
Fails rule.Exchange s r = IsRefused s r
Fails rule.Count s r = IsMiscounted s r
Fails rule.Parent s r = IsUnsatisfied Parent s r
Fails rule.Few s r = IsUnsatisfied Few s r
Fails rule.Many s r = IsUnsatisfied Many s r
Fails rule.Fixing s r = HasLeftOut s.place r
Fails rule.Excess s r = IsUnbalanced s r
Fails rule.Value s r = IsMisvalued s r
Fails rule.Near s r = IsMisstated s r
Fails rule.Sign s r = OfStep s r (λ t. HasSign s t.step)
Fails rule.Fixed s r = OfStep s r (λ t. IsFixed s t.side t.step)
Fails rule.Above s r = OfStep s r (λ t. IsAbove s t t.step)
Fails rule.Alive s r = OfStep s r (λ t. IsAlive s t.side t.step)
Fails rule.Regret s r = IsOtherRegret s.place s r
Fails rule.Prices s r = HasUnlawfulPrices s.place s r
Fails rule.Violation s r = HasOtherViolation s.place s r
Fails rule.Accuracy s r = FailsAccuracy s.place s r
Fails rule.Balance s r = FailsBalance s.place s r
Fails rule.Verdict s r = IsOtherVerdict s.place s r
Fails rule.Threshold s r = IsOtherThreshold s.place s r
Fails rule.Payment s r = IsOtherPayment s.place s r

-- where a rule stands in the table, counted from 0; it is no `Place`, where a journal stands
abbrev pub place_of : Rule → ℕ
place_of rule.Closed = 0
place_of rule.Order = 1
place_of rule.Short = 2
place_of rule.Exchange = 3
place_of rule.Count = 4
place_of rule.Parent = 5
place_of rule.Few = 6
place_of rule.Many = 7
place_of rule.Fixing = 8
place_of rule.Excess = 9
place_of rule.Value = 10
place_of rule.Near = 11
place_of rule.Sign = 12
place_of rule.Fixed = 13
place_of rule.Above = 14
place_of rule.Alive = 15
place_of rule.Regret = 16
place_of rule.Prices = 17
place_of rule.Violation = 18
place_of rule.Accuracy = 19
place_of rule.Balance = 20
place_of rule.Verdict = 21
place_of rule.Threshold = 22
place_of rule.Payment = 23

-- no rule before this one fails
abbrev pub FailsFirst : Rule → State → Record → Type 0
FailsFirst r s x = Fails r s x × ((other : Rule) → place_of other < place_of r → ¬ Fails other s x)

-- ---- what a record that passes says outright: that no bound is above the value, say, would not
-- yet give a bound that is at most it

-- the counterpart of IsAbove: a leaf's side is dead, or its bound is at most the value of the group
abbrev pub IsClosing : State → Taken → Step → Type 0
IsClosing s t (branch b n) = Unit {0}
IsClosing s t (leaf m) = HasDead (trees_at s) t.side ⊎ ((v : ℤ) × IsBound (trees_at s) (weights_at s t.group) m t.side v × (v ≤ℤ t.target))
IsClosing s t (dead b) = Unit {0}

-- the counterpart of HasOtherViolation: a stated violation is that of the prices
abbrev pub HasViolation : Place → State → Record → Type 0
HasViolation at_accuracy s r = IfSome (accuracy_in r) (λ a. IsViolation (trees_at s) (offered_weights s) s.offered s.prices a.violation)
HasViolation place s r = Unit {0}

-- the counterpart of FailsAccuracy and FailsBalance: where the record is the 200th row, the rows
-- show what they are to show
abbrev pub HasFullList : Place → State → Record → Type 0
HasFullList (at_accuracy_rows den rows) s r = IsTrue (is_last_row rows) → IfSome (row_in r) (λ row. AccuracyHolds s den (rows ++ row ∷ []))
HasFullList (at_balance_rows den rows) s r = IsTrue (is_last_row rows) → IfSome (row_in r) (λ row. BalanceHolds s den (rows ++ row ∷ []))
HasFullList place s r = Unit {0}

-- the counterpart of IsOtherVerdict: a stated verdict is the one that the rules give
abbrev pub HasVerdict : Place → State → Record → Type 0
HasVerdict (at_verdict x) s r =
    IfSome (verdict_in r) (λ v. IsNextVerdict s.prices (settings_at s).improve (standings (exchange_at s) s.bounds s.offered) s.judged x v)
HasVerdict place s r = Unit {0}

-- what a record that passes says outright: `leaf` is the counterpart of IsAbove, `violation` of
-- HasOtherViolation, `list` of FailsAccuracy and FailsBalance, and `verdict` of IsOtherVerdict
pub record Holds (s : State) (r : Record) : Type 0 where
  pub leaf : IfSome (taken_step s s.place r) (λ t. IsClosing s t t.step)
  pub violation : HasViolation s.place s r
  pub list : HasFullList s.place s r
  pub verdict : HasVerdict s.place s r

-- ---- lists of rows

-- before a record that isn't a row, a list of fewer than 200 rows ends
abbrev pub ended_list : Place → Record → Option Rule
ended_list (at_accuracy_rows den rows) r = if is_none (row_in r) && may_have_row rows then Some rule.Accuracy else None
ended_list (at_balance_rows den rows) r = if is_none (row_in r) && may_have_row rows then Some rule.Balance else None
ended_list place r = None

-- the rows so far show what they are to show
abbrev pub ListHolds : Place → State → Type 0
ListHolds (at_accuracy_rows den rows) s = AccuracyHolds s den rows
ListHolds (at_balance_rows den rows) s = BalanceHolds s den rows
ListHolds place s = Unit {0}
