-- How far a settlement is written where a search is spent: the groups before it.
use Rattle.std.specs.Prelude.{ℕ, ◌+◌, ◌<◌, ◌≡◌, true, false, List, [], ◌∷◌, ◌++◌, length}
use Rattle.ice_defs.specs.Bounds.{Bounds}
use Rattle.ice_defs.specs.Steps.{branch_count}
use Rattle.ice_defs.specs.Trade.{Assignment}
use Rattle.ice_defs.specs.Weighing.{lower_weights}
use Rattle.ice_defs.specs.declared.Group.{Group}
use Rattle.ice_defs.specs.declared.Group.TheVariants.{Final, Rival, Provisional, Without}
use Rattle.ice_defs.specs.Group.{empty_sets}
use Rattle.ice_defs.specs.Exchange.{Exchange, trees_of, exact_of}
use Rattle.ice_defs.specs.Session.{Proved, Settlement, Going, closes}
use Rattle.ice_journal.specs.Records.{Record, Version}
use Rattle.ice_journal.specs.Records as line
use Rattle.ice_journal_laws.specs.Showing.{group_records, regret_group_records, IsShown, IsShownSettlement}
use Rattle.ice_journal_laws.specs.ShowingSession.{without_group_records, AreShownWithout}
use Rattle.ice_journal_laws.specs.Earning.{Earning, EarnsLog, EarnsWithouts, EarnsSettlement}

-- a search of a settlement, with the groups that stand before it
pub data Position : Type 0 where
  before_final : Position
  before_rival : Proved → Position
  before_provisional : Settlement → Position
  before_without : Settlement → List Proved → Position

-- the group that the search is of
abbrev pub group_at : Position → Group
group_at before_final = Final
group_at (before_rival final) = Rival
group_at (before_provisional x) = Provisional
group_at (before_without x withouts) = Without (length withouts)

-- the assignment that the search begins with
abbrev pub first_at : Exchange → Position → Assignment
first_at ex before_final = empty_sets (trees_of ex)
first_at ex (before_rival final) = final.sets
first_at ex (before_provisional x) = empty_sets (trees_of ex)
first_at ex (before_without x withouts) = empty_sets (trees_of ex)

-- the records of the settlement before this search
abbrev pub position_records : Version → ℕ → ℕ → Position → List Record
position_records version goods number before_final = line.settle number ∷ []
position_records version goods number (before_rival final) = line.settle number ∷ group_records version goods (line.final final.value) final
position_records version goods number (before_provisional x) = line.settle number ∷ regret_group_records version goods x
position_records version goods number (before_without x withouts) = line.settle number ∷ regret_group_records version goods x
    ++ without_group_records version goods 0 withouts

-- the groups before the search are shown, and the close test comes out so that the search follows
abbrev pub IsShownPosition : Exchange → ℕ → List Bounds → Position → Type 0
IsShownPosition ex number bounds before_final = Unit {0}
IsShownPosition ex number bounds (before_rival final) = IsShown (trees_of ex) (exact_of ex) (lower_weights bounds) Final final
IsShownPosition ex number bounds (before_provisional x) = (closes ex.settings number x.regret ≡ false) × IsShownSettlement ex bounds x
IsShownPosition ex number bounds (before_without x withouts) =
    (closes ex.settings number x.regret ≡ true) × IsShownSettlement ex bounds x × (length withouts < length (trees_of ex))
    × AreShownWithout (trees_of ex) (exact_of ex) (lower_weights bounds) 0 withouts

-- each step of the groups before the search is earned
abbrev pub EarnsPosition : Earning → Exchange → List Bounds → Position → Type 0
EarnsPosition E ex bounds before_final = Unit {0}
EarnsPosition E ex bounds (before_rival final) =
    EarnsLog E (trees_of ex) (exact_of ex) (lower_weights bounds) Final (empty_sets (trees_of ex)) final.log
EarnsPosition E ex bounds (before_provisional x) = EarnsSettlement E ex bounds x
EarnsPosition E ex bounds (before_without x withouts) = EarnsSettlement E ex bounds x
    × EarnsWithouts E (trees_of ex) (exact_of ex) (lower_weights bounds) 0 withouts

-- how many branch steps the two groups of a settlement have
abbrev pub settlement_branches : Settlement → ℕ
settlement_branches x = branch_count x.final.log + branch_count x.rival.log

-- how many branch steps these groups have
abbrev pub group_branches : List Proved → ℕ
group_branches [] = 0
group_branches (p ∷ later) = branch_count p.log + group_branches later

-- how many branch steps settlements that go on have
abbrev pub going_branches : List Going → ℕ
going_branches [] = 0
going_branches (g ∷ later) = settlement_branches g.settlement + branch_count g.provisional.log + going_branches later

-- how many branch steps the groups before a search have
abbrev pub position_branches : Position → ℕ
position_branches before_final = 0
position_branches (before_rival final) = branch_count final.log
position_branches (before_provisional x) = settlement_branches x
position_branches (before_without x withouts) = settlement_branches x + group_branches withouts
