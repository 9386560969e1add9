-- The records of final sets and their regret, in parts.
use Rattle.std.proofs.Common.{◌≡◌, ℕ, List, [], ◌∷◌, ◌++◌, ap, append_assoc}
use Rattle.ice_defs.specs.Exchange.{Exchange}
use Rattle.ice_search.specs.declared.results.Found.{Found}
use Rattle.ice_regret.specs.declared.lead.Regret.{Regret}
use Rattle.ice_journal.specs.Records.{Record}
use Rattle.ice_journal.specs.Records as line
use Rattle.ice_write_session.specs.Records.{final_records, rival_records, regret_records}

pub settlement_parts : (ex : Exchange) (number : ℕ) (best : Found) (r : Regret)
    → line.settle number ∷ regret_records ex best r ≡ ((line.settle number ∷ []) ++ final_records ex best) ++ (rival_records ex r ++ (line.regret r.amount ∷ []))
settlement_parts ex number best r = ap (λ (rs : List Record). line.settle number ∷ rs) (append_assoc (final_records ex best) (rival_records ex r) (line.regret r.amount ∷ []))
