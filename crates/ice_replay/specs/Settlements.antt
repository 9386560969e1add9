-- The settlements of a session journal: where each states its regret, and the prices behind it.
use Rattle.std.specs.Prelude.{ℕ, ◌≡◌, Bool, true, false, if◌then◌else◌, List, [], ◌∷◌, ◌++◌, ℤ, Option, Some, None, option_and_then}
use Rattle.ice_defs.specs.Prices.{Prices}
use Rattle.ice_journal.specs.Records.{Record, session_kind}
use Rattle.ice_journal.specs.Records as line
use Rattle.ice_journal_laws.specs.declared.rule.Rule.TheVariants as rule
use Rattle.ice_journal_laws.specs.State.{at_regret, State, begun, goods_at}
use Rattle.ice_journal_laws.specs.Fields.{prices_in}
use Rattle.ice_journal_laws.specs.Next.{next, after_all}
use Rattle.ice_journal_laws.specs.Checks.{FirstFailure}
use Rattle.ice_check_records.specs.Due.{is_prices_place}

-- the journal is one of a session, and this holds of the state behind its head and the records
-- from there on
abbrev pub OfSession : (State → List Record → Type 0) → List Record → Type 0
OfSession P (line.head version session_kind ∷ rest) = P (begun version session_kind) rest
OfSession P other = ⊥

abbrev pub is_session_head : Record → Bool
is_session_head (line.head version session_kind) = true
is_session_head other = false

abbrev pub IsSession : List Record → Type 0
IsSession journal = OfSession (λ s records. Unit {0}) journal

-- no test fails, or the first that does is that of a stop
pub data IsReplayable (journal : List Record) : Type 0 where
  passes : FirstFailure journal None → IsReplayable journal
  stops : (number : ℕ) → FirstFailure journal (Some (record { line = number; rule = rule.Closed })) → IsReplayable journal

-- from this state on the records lead to the settlement with this number, where it states its
-- regret
pub record Settles (number : ℕ) (s : State) (records : List Record) : Type 0 where
  pub before : List Record
  pub amount : ℤ
  pub rest : List Record
  pub stands : records ≡ before ++ line.regret amount ∷ rest
  pub state : State
  pub reached : after_all s before ≡ Some state
  pub place : state.place ≡ at_regret
  pub number_is : state.number ≡ number

-- the first prices from this state on
abbrev pub prices_from : State → List Record → Option Prices
prices_from s [] = None
prices_from s (r ∷ rest) =
    if is_prices_place s.place then prices_in (goods_at s) r else option_and_then (λ after. prices_from after rest) (next s r)

-- those behind the settlement's regret
abbrev pub prices_of : {number : ℕ} {s : State} {records : List Record} → Settles number s records → Option Prices
prices_of x = prices_from x.state (line.regret x.amount ∷ x.rest)
