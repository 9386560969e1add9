-- The journal that `regret` writes of an exchange, as far as it comes.
use Rattle.std.specs.Prelude.{ℕ, ◌+◌, ◌≡◌, List, [], ◌∷◌, ◌++◌}
use Rattle.ice_edge.specs.declared.status.Status.{Status}
use Rattle.ice_edge.specs.declared.status.Status.TheVariants.{Done, Spent, NoMemory}
use Rattle.ice_defs.specs.Steps.{branch_count}
use Rattle.ice_defs.specs.Exchange.{Exchange, opening_bounds}
use Rattle.ice_journal.specs.Records.{Record, version_2, regret_kind, regret_end}
use Rattle.ice_journal.specs.Records as line
use Rattle.ice_journal.specs.Ranges.{IsRecord}
use Rattle.ice_section.specs.Described.{section_records}
use Rattle.ice_search.specs.declared.results.Found.{Found}
use Rattle.ice_search.specs.declared.results.Spent as results
use Rattle.ice_search.specs.Results.{IsFoundBy, IsSpentBy}
use Rattle.ice_regret.specs.declared.lead.Regret.{Regret}
use Rattle.ice_regret.specs.Regretted.{lower_search, rival_search, IsRegretOf}
use Rattle.ice_write_session.specs.Records.{final_records, rival_records, spent_records}

module _ (ex : Exchange) where
  -- the head and the exchange
  abbrev pub begun_records : List Record
  begun_records = line.head version_2 regret_kind ∷ section_records ex

  -- the group of the rival, and then the regret and the end
  abbrev pub ending_records : Regret → List Record
  ending_records r = rival_records ex r ++ (line.regret r.amount ∷ line.end regret_end ∷ [])

  -- the sets are the best at lower values, and so many branches are left
  pub record IsFinal (left : ℕ) (f : Found) : Type 0 where
    pub found : IsFoundBy (lower_search ex (opening_bounds ex)) f
    pub branches : left + branch_count f.log ≡ ex.settings.branches

  -- the journal is begun, it has its final group too, or it
  -- is whole; or one of its two searches is spent
  pub data IsRegretJournal : List Record → Status → Type 0 where
    begins : IsRegretJournal begun_records NoMemory
    final_spent : (s : results.Spent) → IsSpentBy (lower_search ex (opening_bounds ex)) ex.settings.branches s
        → IsRecord (line.spent s.value s.bound) → IsRegretJournal (begun_records ++ spent_records ex s) Spent
    has_final : (left : ℕ) (f : Found) → IsFinal left f → IsRegretJournal (begun_records ++ final_records ex f) NoMemory
    rival_spent : (left : ℕ) (f : Found) (s : results.Spent) → IsFinal left f
        → IsSpentBy (rival_search ex (opening_bounds ex) f.best) left s → IsRecord (line.spent s.value s.bound)
        → IsRegretJournal ((begun_records ++ final_records ex f) ++ spent_records ex s) Spent
    is_whole : (left : ℕ) (f : Found) (r : Regret) → IsFinal left f → IsRegretOf ex (opening_bounds ex) f.best r
        → IsRegretJournal ((begun_records ++ final_records ex f) ++ ending_records r) Done
