-- A search as it goes on.
use Rattle.std.specs.Prelude.{ℕ, ◌<◌, ◌≡◌, length, Bool, true, false, List, sum_by, ℤ, None}
use Rattle.ice_defs.specs.declared.Mark.{Mark}
use Rattle.ice_defs.specs.Bound.{Multipliers}
use Rattle.ice_defs.specs.Trade.{Assignment}
use Rattle.ice_defs.specs.Steps.{Side}
use Rattle.ice_search_log.specs.Parts.{Part, side_at}
use Rattle.ice_search_log.specs.Searching.{AreOpen}
use Rattle.ice_subgradient.specs.declared.incumbent.Incumbent.{Incumbent}
use Rattle.ice_search_log.specs.declared.part.Part as code
use Rattle.ice_search_log.specs.Code.{parts_of}
use Rattle.ice_search.specs.Workspace.{Looking}
use Rattle.ice_search.specs.Instance.{Instance, IsInstance, IsSearchOf, IsIncumbentOf}
use Rattle.ice_search.specs.Open.{AreParts}

-- what is asked, the side that is looked at, the parts, the best assignment so far with its value,
-- and the open parts
pub record State : Type 0 where
  pub instance : Instance
  pub side : Side
  pub parts : List Part
  pub sets : Assignment
  pub value : ℤ
  pub open_parts : List ℕ

abbrev pub state_of : Looking → Incumbent → List code.Part → List ℕ → State
state_of look incumbent parts open_parts =
    record {
      instance = look.instance;
      side = look.side;
      parts = parts_of parts;
      sets = incumbent.sets;
      value = incumbent.value;
      open_parts = open_parts;
    }

pub record IsState (s : State) : Type 0 where
  pub instance : IsInstance s.instance
  pub search : IsSearchOf s.instance s.parts
  pub incumbent : IsIncumbentOf s.instance s.sets s.value
  pub opened : AreOpen s.parts s.value s.open_parts
  pub numbered : AreParts s.parts s.open_parts

-- the side that is looked at is that of the part
pub record LooksAt (s : State) (number : ℕ) : Type 0 where
  pub there : number < length s.parts
  pub side : s.side ≡ side_at s.instance.start s.parts number

abbrev pub number_unswept : Bool → ℕ
number_unswept true = 0
number_unswept false = 1

-- how many parts aren't swept
abbrev pub unswept_count : List Part → ℕ
unswept_count parts = sum_by (λ p. number_unswept p.swept) parts

-- a swept part, with another bound
abbrev pub with_bound : Part → Multipliers → ℤ → Part
with_bound p m key = record p { m = m; key = key; swept = true }

-- a new part below another, with one more mark
abbrev pub child_part : ℕ → ℕ → ℕ → Mark → Multipliers → ℤ → Part
child_part above b n mark m key =
    record { put = record { above = above; bidder = b; node = n; mark = mark }; m = m; key = key; swept = false; split = None }
