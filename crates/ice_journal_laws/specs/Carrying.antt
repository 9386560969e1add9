-- Records that lead from one state to another and pass: what a writer adds at the end of its
-- journal.
use Rattle.std.specs.Prelude.{ℕ, List}
use Rattle.ice_journal.specs.Records.{Record}
use Rattle.ice_journal_laws.specs.State.{State}
use Rattle.ice_journal_laws.specs.Next.{to_line}
use Rattle.ice_journal_laws.specs.Progress.{passing, Leads}

-- from this state, whatever line is next, these records lead to that one, and each passes its tests
pub record Carries (s : State) (records : List Record) (t : State) : Type 0 where
  pub leads : (n : ℕ) → (m : ℕ) × Leads (passing (to_line n s)) records (passing (to_line m t))
