-- What a record makes of the tests at the cut and at the payments.
use Rattle.std.specs.Prelude.{ℕ, suc, ◌<◌, ◌≡◌, ◌==◌, if◌then◌else◌, List, [], length, slice_index_or, ℤ, pos, Result, Ok, Err}
use Rattle.ice_defs.specs.Fraction.{Fraction}
use Rattle.ice_defs.specs.Exchange.{names_of}
use Rattle.ice_journal.specs.Records.{Record, closed_end}
use Rattle.ice_journal_laws.specs.declared.rule.Rule.{Rule}
use Rattle.ice_journal_laws.specs.State.{State, at_threshold, at_payment, at_end, exchange_at}
use Rattle.ice_journal_laws.specs.Fields.{Closing}
use Rattle.ice_journal_laws.specs.Next.{to_line, go_to, bidder_count}
use Rattle.ice_journal_laws.specs.Tests.{final_worth}
use Rattle.ice_journal_laws.specs.Progress.{passing, failed, TakesOn}
use Rattle.ice_check_charge.specs.declared.due.Due.{Due}

-- ---- the cut and the surplus

-- the cut comes next, with these values without each bidder and this total
pub record AwaitsCut (withouts : List ℤ) (total : ℤ) (s : State) : Type 0 where
  pub place : s.place ≡ at_threshold
  pub withouts_are : s.withouts ≡ withouts
  pub total_is : s.final.value ≡ total

-- in each such state the record passes, with this cut and this surplus
abbrev pub PassesCut : List ℤ → ℤ → Record → Closing → Type 0
PassesCut withouts total r c = (s : State) → AwaitsCut withouts total s
    → TakesOn s r (passing (to_line (suc s.line) (go_to (at_payment 0) (record s { cut = c.cut; surplus = c.surplus }))))

-- or fails this test first
abbrev pub FailsCut : List ℤ → ℤ → Record → Rule → Type 0
FailsCut withouts total r rule = (s : State) → AwaitsCut withouts total s → TakesOn s r (failed (record { line = s.line; rule = rule }))

abbrev pub TakesCut : List ℤ → ℤ → Record → Result Closing Rule → Type 0
TakesCut withouts total r (Ok c) = PassesCut withouts total r c
TakesCut withouts total r (Err rule) = FailsCut withouts total r rule

-- ---- the payments

-- the payment of this bidder comes next, and this is due
pub record AwaitsPayment (cut : Fraction) (due : Due) (b : ℕ) (s : State) : Type 0 where
  pub place : s.place ≡ at_payment b
  pub name_is : slice_index_or (names_of (exchange_at s)) b [] ≡ due.name.now
  pub there : b < length s.withouts
  pub without_is : slice_index_or s.withouts b (pos 0) ≡ due.without
  pub total_is : s.final.value ≡ due.total
  pub worth_is : final_worth s b ≡ due.worth
  pub cut_is : s.cut ≡ cut

-- the next bidder's payment comes, or the end
abbrev pub paid : State → ℕ → State
paid s b = to_line (suc s.line) (go_to (if suc b == bidder_count s then at_end closed_end else at_payment (suc b)) s)

-- in each such state the record passes
abbrev pub PassesPayment : Fraction → Due → Record → Type 0
PassesPayment cut due r = (b : ℕ) (s : State) → AwaitsPayment cut due b s → TakesOn s r (passing (paid s b))

-- or fails this test first
abbrev pub FailsPayment : Fraction → Due → Record → Rule → Type 0
FailsPayment cut due r rule = (b : ℕ) (s : State) → AwaitsPayment cut due b s → TakesOn s r (failed (record { line = s.line; rule = rule }))

abbrev pub TakesPayment : {X : Type 0} → Fraction → Due → Record → Result X Rule → Type 0
TakesPayment cut due r (Ok none) = PassesPayment cut due r
TakesPayment cut due r (Err rule) = FailsPayment cut due r rule
