-- What is known of the groups that a writer writes, and their records in either version.
use Rattle.std.specs.Prelude.{ℕ, ◌≡◌, Bool, List, [], ◌∷◌, ◌++◌, length, map, ℤ, ◌-ℤ◌}
use Rattle.std.specs.List.{AllByRecursion}
use Rattle.ice_defs.specs.Tree.{Tree}
use Rattle.ice_defs.specs.Set.{Weights}
use Rattle.ice_defs.specs.Trade.{Assignment, set_of, IsFeasible, total_value}
use Rattle.ice_defs.specs.Vickrey.{IsEmpty}
use Rattle.ice_defs.specs.Bound.{Multipliers}
use Rattle.ice_defs.specs.Steps.{Step, branch, leaf, dead}
use Rattle.ice_defs.specs.Log.{Passes}
use Rattle.ice_defs.specs.declared.Group.{Group}
use Rattle.ice_defs.specs.declared.Group.TheVariants.{Assign, Final, Rival, Provisional, Without}
use Rattle.ice_defs.specs.Group.{start_of}
use Rattle.ice_defs.specs.Bounds.{Bounds}
use Rattle.ice_defs.specs.Weighing.{lower_weights, perturbed_weights}
use Rattle.ice_defs.specs.Exchange.{Exchange, trees_of, exact_of, opening_bounds}
use Rattle.ice_defs.specs.Lawful.{IsExchange}
use Rattle.ice_defs.specs.Session.{Proved, Settlement, Regretted}
use Rattle.ice_refute.specs.Code.{CountsGoods}
use Rattle.ice_journal.specs.Records.{Record, Version, version_1, version_2, regret_kind, regret_end}
use Rattle.ice_journal.specs.Records as line
use Rattle.ice_journal.specs.Plain.{all_zero, changes_from}
use Rattle.ice_section.specs.Described.{section_records}
use Rattle.ice_journal_laws.specs.Fields.{multipliers_after}
use Rattle.ice_journal_laws.specs.State.{Stated}

-- the head of a group with this value
abbrev pub head_of_group : Group → ℤ → Record
head_of_group Assign value = line.assign
head_of_group Final value = line.final value
head_of_group Rival value = line.rival value
head_of_group Provisional value = line.provisional value
head_of_group (Without b) value = line.without b value

-- a step, where the leaf before it had these multipliers
abbrev pub step_record : Version → Multipliers → Step → Record
step_record version_1 m x = line.step x
step_record version_2 m (branch b n) = line.step (branch b n)
step_record version_2 m (leaf new) = line.near (changes_from 0 m new)
step_record version_2 m (dead b) = line.step (dead b)

-- the records of a log, where the leaf before it had these multipliers
abbrev pub step_records : Version → Multipliers → List Step → List Record
step_records version m [] = []
step_records version m (x ∷ log) = step_record version m x ∷ step_records version (multipliers_after m x) log

-- a group: its head, its sets and its log
abbrev pub group_records : Version → ℕ → Record → Proved → List Record
group_records version goods first p = first ∷ map line.set p.sets ++ step_records version (all_zero goods) p.log

-- the value and the sets of a search, without its log
abbrev pub stated_of : Proved → Stated
stated_of p = record { value = p.value; sets = p.sets }

-- a bidder that a group leaves out has the empty set
abbrev pub LeavesOut : Group → Assignment → Type 0
LeavesOut Assign sets = Unit {0}
LeavesOut Final sets = Unit {0}
LeavesOut Rival sets = Unit {0}
LeavesOut Provisional sets = Unit {0}
LeavesOut (Without b) sets = IsEmpty (set_of sets b)

-- the sets of a group are feasible and have its value, and its log passes at that value
pub record IsShown (ts : List Tree) (exact : List Bool) (ws : List Weights) (g : Group) (p : Proved) : Type 0 where
  pub feasible : IsFeasible ts exact p.sets
  pub value : total_value p.sets ws ≡ p.value
  pub left_out : LeavesOut g p.sets
  pub counts : AllByRecursion (CountsGoods (length exact)) p.log
  pub passes : Passes ts exact ws p.value (start_of ts g) p.log

-- the final sets, their rival and the regret, in either version
abbrev pub regret_group_records : Version → ℕ → Settlement → List Record
regret_group_records version goods x = group_records version goods (line.final x.final.value) x.final
    ++ group_records version goods (line.rival x.rival.value) x.rival ++ line.regret x.regret ∷ []

-- the final group and the rival's are shown, and the regret is the difference of their values
pub record IsShownSettlement (ex : Exchange) (bounds : List Bounds) (x : Settlement) : Type 0 where
  pub final : IsShown (trees_of ex) (exact_of ex) (lower_weights bounds) Final x.final
  pub rival : IsShown (trees_of ex) (exact_of ex) (perturbed_weights x.final.sets bounds) Rival x.rival
  pub regret : x.regret ≡ x.rival.value -ℤ x.final.value

-- a regret journal in either version
abbrev pub regretted_in : Version → Regretted → List Record
regretted_in version r = line.head version regret_kind ∷ section_records r.exchange
    ++ regret_group_records version (length (exact_of r.exchange)) r.settlement ++ line.end regret_end ∷ []

-- the exchange is lawful, and its one settlement is shown at the opening bounds
pub record IsShownRegretted (r : Regretted) : Type 0 where
  pub exchange : IsExchange r.exchange
  pub settlement : IsShownSettlement r.exchange (opening_bounds r.exchange) r.settlement
