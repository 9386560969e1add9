-- The limits of a bid.
use Rattle.std.specs.Prelude.{◌≤◌, IsTrue, List, length, ℤ}
use Rattle.std.specs.List.{list_all}
use Rattle.ice_defs.specs.Making.{is_value}
use Rattle.ice_defs.specs.Round.{Submission}
use Rattle.ice_terms.specs.Terms.{IsName}

-- at most 200 values, each at most 1,000,000,000 in size
pub record AreValues (values : List ℤ) : Type 0 where
  pub few : length values ≤ 200
  pub each : IsTrue (list_all is_value values)

-- a name and two lists of values, whose lengths may differ
pub record IsBid (s : Submission) : Type 0 where
  pub name : IsName s.name
  pub lo : AreValues s.lo
  pub hi : AreValues s.hi
