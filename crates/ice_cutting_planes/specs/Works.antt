-- What is counted while prices are sought.
use Rattle.std.specs.Prelude.{◌≤◌, max, IsTrue, false}
use Rattle.ice_cutting_planes.specs.declared.work.Work.{Work}

-- nothing was counted
abbrev pub no_work : Work
no_work = record { turns = 0; pivots = 0; columns = 0; is_rounded = false }

-- no count falls; pivots are counted up to 5,000, and columns up to 400
pub record IsMoreWork (before after : Work) : Type 0 where
  pub turns : before.turns ≤ after.turns
  pub pivots : before.pivots ≤ after.pivots
  pub few_pivots : after.pivots ≤ max before.pivots 5000
  pub columns : before.columns ≤ after.columns
  pub few_columns : after.columns ≤ max before.columns 400
  pub rounded : IsTrue before.is_rounded → IsTrue after.is_rounded
