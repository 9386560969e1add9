-- The tests of a statement: the first that fails, or none.
use Rattle.std.specs.Prelude.{ℕ, suc, ◌<◌, ◌≡◌, ◌≢◌, ◌⊎◌, ◌==◌, Bool, true, false, if◌then◌else◌, IsTrue, IfSome, IsSomeAnd, List, [], ◌∷◌}
use Rattle.std.specs.Prelude.{◌&&◌, ◌++◌, length, slice_index_or, int_le, ℤ, pos, ◌*ℤ◌, ◌<ℤ◌, Option, Some, None, option_map}
use Rattle.std.specs.Prelude.{option_and_then, Result, Ok, Err}
use Rattle.std.specs.List.{list_any}
use Rattle.std.specs.Str.{bytes_eq}
use Rattle.ice_defs.specs.declared.SatRule.{SatRule}
use Rattle.ice_defs.specs.declared.SatRule.TheVariants.{Parent, Few, Many}
use Rattle.ice_defs.specs.Set.{NodeSet, value}
use Rattle.ice_defs.specs.SetFault.{set_fault}
use Rattle.ice_defs.specs.Bounds.{Bounds, no_bounds}
use Rattle.ice_defs.specs.Prices.{Prices, price_of}
use Rattle.ice_defs.specs.Rows.{HasCommonDivisor}
use Rattle.ice_defs.specs.Round.{Submission, Judged, Standing, is_accepted, IsVerdict, bounds_after}
use Rattle.ice_defs.specs.Fraction.{Fraction, whole_number, Equals, minus}
use Rattle.ice_defs.specs.Vickrey.{IsEmpty}
use Rattle.ice_defs.specs.Cut.{discount_at_cut}
use Rattle.ice_defs.specs.Exchange.{Settings, Bidder}
use Rattle.ice_journal.specs.Records.{Record}
use Rattle.ice_journal.specs.Records as line
use Rattle.ice_section.specs.Section.{Section, SectionFault, order, count, no_good, maker, no_section, take_record, may_end, exchange_in}
use Rattle.ice_journal_laws.specs.declared.rule.Rule.{Rule}
use Rattle.ice_journal_laws.specs.declared.rule.Rule.TheVariants as rule
use Rattle.ice_journal_laws.specs.Fields.{settlement_in, amount_in, prices_in, submission_in, verdict_in, threshold_in, payment_in}
use Rattle.ice_defs.specs.Session.{Payment, closes}
use Rattle.ice_journal_laws.specs.Tests.{is_refusal, place_of}
use Rattle.ice_journal_laws.specs.Checks.{Failure}
use Rattle.ice_statement_laws.specs.Statement.{StatementLine, named, shown, kept, offered, ended}

-- what may stand next in a statement
pub data Spot : Type 0 where
  at_name at_section at_regret at_kept at_offered at_prices at_round at_threshold at_payment at_end done : Spot
  at_verdict : Submission → Spot

pub record AuditState : Type 0 where
  pub line : ℕ
  pub name : List ℕ
  pub section : Section
  pub spot : Spot
  pub number : ℕ
  pub bounds : Bounds
  pub regret : ℤ
  pub kept : NodeSet
  pub offered : NodeSet
  pub prices : Prices
  pub judged : List Judged
  pub cut : Fraction

abbrev pub audit_begun : AuditState
audit_begun = record {
  line = 1;
  name = [];
  section = no_section;
  spot = at_name;
  number = 0;
  bounds = no_bounds;
  regret = pos 0;
  kept = [];
  offered = [];
  prices = record { den = 1; nums = [] };
  judged = [];
  cut = whole_number (pos 0);
}

abbrev pub no_bidder : Bidder
no_bidder = record { name = []; own = []; tree = []; bounds = no_bounds }

-- the one bidder
abbrev pub bidder_at : AuditState → Bidder
bidder_at s = slice_index_or (exchange_in s.section).bidders 0 no_bidder

abbrev pub settings_at : AuditState → Settings
settings_at s = (exchange_in s.section).settings

abbrev pub goods_at : AuditState → ℕ
goods_at s = length (exchange_in s.section).goods

abbrev pub move_to : Spot → AuditState → AuditState
move_to spot s = record s { spot = spot }

-- a record that the statement shows
abbrev pub record_in : StatementLine → Option Record
record_in (shown r) = Some r
record_in other = None

abbrev pub name_in : StatementLine → Option (List ℕ)
name_in (named name) = Some name
name_in other = None

abbrev pub kept_in : StatementLine → Option NodeSet
kept_in (kept x) = Some x
kept_in other = None

abbrev pub offered_in : StatementLine → Option NodeSet
offered_in (offered x) = Some x
offered_in other = None

abbrev pub is_ended : StatementLine → Bool
is_ended ended = true
is_ended other = false

abbrev pub if_true : {X : Type 0} → Bool → X → Option X
if_true {X} test x = if test then Some x else None

abbrev pub has_name : AuditState → List ℕ → Bool
has_name s name = bytes_eq s.name name

-- the first bidder's record and nodes, and then settlement 0
abbrev pub begin_settlement : AuditState → ℕ → Record → Option AuditState
begin_settlement s number r =
    option_and_then (λ n. if_true (n == number) (move_to at_regret (record s { number = number; judged = [] }))) (settlement_in r)

-- a bidder record has the name of the statement
abbrev pub is_named : AuditState → Record → Bool
is_named s (line.bidder name own) = has_name s name
is_named s other = true

-- where a maker refuses, the order is not at fault
abbrev pub with_section : AuditState → Result Section SectionFault → Option AuditState
with_section s (Ok section) = Some (record s { section = section })
with_section s (Err order) = None
with_section s (Err count) = Some s
with_section s (Err no_good) = Some s
with_section s (Err (maker number)) = Some s

abbrev pub section_next : AuditState → Record → Option AuditState
section_next s r =
    if may_end s.section then begin_settlement (record s { bounds = (bidder_at s).bounds }) 0 r
    else if is_named s r then with_section s (take_record s.section r)
    else None

-- the standing of the bidder in the round
abbrev pub standing_at : AuditState → Standing
standing_at s = record { name = s.name; tree = (bidder_at s).tree; bounds = s.bounds; set = s.offered }

abbrev pub after_kept : AuditState → AuditState
after_kept s = move_to (if closes (settings_at s) s.number s.regret then at_threshold else at_offered) s

-- a fraction isn't below 0
abbrev pub is_from_0 : Fraction → Bool
is_from_0 a = int_le (pos 0) a.num

-- a submission of the bidder, or the next settlement with the bounds that the round leaves
abbrev pub round_next : AuditState → Record → Option Submission → Option AuditState
round_next s r (Some x) = if_true (has_name s x.name) (move_to (at_verdict x) s)
round_next s r None = begin_settlement (record s { bounds = bounds_after s.bounds s.judged }) (suc s.number) r

abbrev pub spot_next : AuditState → Spot → StatementLine → Option AuditState
spot_next s at_name l = option_map (λ name. move_to at_section (record s { name = name })) (name_in l)
spot_next s at_section l = option_and_then (section_next s) (record_in l)
spot_next s at_regret l = option_and_then (λ r. option_map (λ a. move_to at_kept (record s { regret = a })) (amount_in r)) (record_in l)
spot_next s at_kept l = option_map (λ x. after_kept (record s { kept = x })) (kept_in l)
spot_next s at_offered l = option_map (λ x. move_to at_prices (record s { offered = x })) (offered_in l)
spot_next s at_prices l =
    option_and_then (λ r. option_map (λ p. move_to at_round (record s { prices = p })) (prices_in (goods_at s) r)) (record_in l)
spot_next s at_round l = option_and_then (λ r. round_next s r (submission_in r)) (record_in l)
spot_next s (at_verdict x) l =
    option_and_then (λ r. option_map (λ v. move_to at_round (record s { judged = s.judged ++ record { submission = x; verdict = v } ∷ [] }))
    (verdict_in r)) (record_in l)
spot_next s at_threshold l =
    option_and_then (λ r. option_and_then (λ c. if_true (is_from_0 c.cut && is_from_0 c.surplus)
    (move_to at_payment (record s { cut = c.cut }))) (threshold_in r)) (record_in l)
spot_next s at_payment l =
    option_and_then (λ r. option_and_then (λ p. if_true (has_name s p.name) (move_to at_end s)) (payment_in r)) (record_in l)
spot_next s at_end l = if_true (is_ended l) (move_to done s)
spot_next s done l = None

abbrev pub to_line : ℕ → AuditState → AuditState
to_line n s = record s { line = n }

abbrev pub audit_next : AuditState → StatementLine → Option AuditState
audit_next s l = option_map (to_line (suc s.line)) (spot_next s s.spot l)

-- ---- the tests

abbrev pub stated_set : Spot → StatementLine → Option NodeSet
stated_set at_kept l = kept_in l
stated_set at_offered l = offered_in l
stated_set other l = None

abbrev pub IsUnsatisfied : SatRule → AuditState → StatementLine → Type 0
IsUnsatisfied rule s l = IsSomeAnd (stated_set s.spot l) (λ x. set_fault (bidder_at s).tree x ≡ Some rule)

abbrev pub AreUnlawful : AuditState → Prices → Type 0
AreUnlawful s p = ((g : ℕ) × (g < goods_at s) × (((settings_at s).cap *ℤ pos p.den) <ℤ price_of p g)) ⊎ HasCommonDivisor p

abbrev pub HasUnlawfulPrices : Spot → AuditState → StatementLine → Type 0
HasUnlawfulPrices at_prices s l = IsSomeAnd (option_and_then (prices_in (goods_at s)) (record_in l)) (AreUnlawful s)
HasUnlawfulPrices other s l = ⊥

abbrev pub IsOtherVerdict : Spot → AuditState → StatementLine → Type 0
IsOtherVerdict (at_verdict x) s l =
    IsSomeAnd (option_and_then verdict_in (record_in l))
    (λ v. ¬ IsVerdict s.prices (settings_at s).improve (standing_at s) (list_any is_accepted s.judged) x v)
IsOtherVerdict other s l = ⊥

-- no Vickrey discount where the kept set is empty, the discount by the cut,
-- and the lower value of the kept set less that discount
pub record IsOwnPayment (s : AuditState) (p : Payment) : Type 0 where
  pub vickrey : IsEmpty s.kept → p.vickrey ≡ pos 0
  pub discount : Equals p.discount (discount_at_cut s.cut p.vickrey)
  pub payment : Equals p.payment (minus (whole_number (value s.kept s.bounds.lo)) p.discount)

abbrev pub IsOtherPayment : Spot → AuditState → StatementLine → Type 0
IsOtherPayment at_payment s l = IsSomeAnd (option_and_then payment_in (record_in l)) (λ p. ¬ IsOwnPayment s p)
IsOtherPayment other s l = ⊥

abbrev pub IsRefused : Spot → AuditState → StatementLine → Type 0
IsRefused at_section s l = IsSomeAnd (record_in l) (λ r. IsTrue (is_refusal (take_record s.section r)))
IsRefused other s l = ⊥

abbrev pub AuditFails : Rule → AuditState → StatementLine → Type 0
AuditFails rule.Order s l = audit_next s l ≡ None
AuditFails rule.Exchange s l = IsRefused s.spot s l
AuditFails rule.Count s l = IsSomeAnd (stated_set s.spot l) (λ x. length x ≢ length (bidder_at s).tree)
AuditFails rule.Parent s l = IsUnsatisfied Parent s l
AuditFails rule.Few s l = IsUnsatisfied Few s l
AuditFails rule.Many s l = IsUnsatisfied Many s l
AuditFails rule.Prices s l = HasUnlawfulPrices s.spot s l
AuditFails rule.Verdict s l = IsOtherVerdict s.spot s l
AuditFails rule.Payment s l = IsOtherPayment s.spot s l
AuditFails other s l = ⊥

-- what a line that passes says outright, where that it doesn't fail
-- would say less: its verdict is the one that the rules give
abbrev pub HasOwnVerdict : Spot → AuditState → StatementLine → Type 0
HasOwnVerdict (at_verdict x) s l =
    IfSome (option_and_then verdict_in (record_in l))
    (λ v. IsVerdict s.prices (settings_at s).improve (standing_at s) (list_any is_accepted s.judged) x v)
HasOwnVerdict other s l = Unit {0}

-- the lines from here on: the first test that one of them fails, or none
pub data Audited : AuditState → List StatementLine → Option Failure → Type 0 where
  passes : {s : AuditState} → s.spot ≡ done → Audited s [] None
  is_short : {s : AuditState} → s.spot ≢ done → Audited s [] (Some (record { line = s.line; rule = rule.Short }))
  fails : {s : AuditState} {l : StatementLine} {rest : List StatementLine} {x : Rule}
      → AuditFails x s l → ((y : Rule) → place_of y < place_of x → ¬ AuditFails y s l)
      → Audited s (l ∷ rest) (Some (record { line = s.line; rule = x }))
  goes_on : {s after : AuditState} {l : StatementLine} {rest : List StatementLine} {end : Option Failure}
      → ((x : Rule) → ¬ AuditFails x s l) → HasOwnVerdict s.spot s l → audit_next s l ≡ Some after → Audited after rest end
      → Audited s (l ∷ rest) end

abbrev pub IsAudit : List StatementLine → Option Failure → Type 0
IsAudit lines end = Audited audit_begun lines end

abbrev pub audit_after : AuditState → List StatementLine → Option AuditState
audit_after s [] = Some s
audit_after s (l ∷ rest) = option_and_then (λ after. audit_after after rest) (audit_next s l)
