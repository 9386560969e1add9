-- What a settlement keeps whose final sets and regret are found.
use Rattle.std.specs.Prelude.{ℕ, List, ℤ}
use Rattle.ice_search.specs.declared.results.Found.{Found}
use Rattle.ice_regret.specs.declared.lead.Regret.{Regret}
use Rattle.ice_vickrey.specs.declared.marginal.Marginal.{Marginal}
use Rattle.ice_round.specs.Held.{Held, HasFound}
use Rattle.ice_round.specs.Kept.{session_at, IsKept}
use Rattle.ice_round.specs.declared.session.Session.{Session}

-- as it is seen
abbrev pub held_at : Session → Found → Regret → List ℤ → ℕ → Held
held_at s best regret discounts left = record { session = session_at s; best = best; regret = regret; discounts = discounts; left = left }

-- some list of what was found is right
pub record IsKeptSettling (s : Session) (best : Found) (regret : Regret) (discounts : List ℤ) (left : ℕ) : Type 0 where
  pub session : IsKept s
  pub done : List Marginal
  pub found : HasFound (held_at s best regret discounts left) done
