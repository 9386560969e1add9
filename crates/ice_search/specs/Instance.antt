-- What a search is asked.
use Rattle.std.specs.Prelude.{◌≤◌, Bool, List, length, sum_by, ℤ}
use Rattle.ice_defs.specs.Tree.{Tree}
use Rattle.ice_defs.specs.Set.{Weights}
use Rattle.ice_defs.specs.Trade.{Assignment, IsFeasible, MeetsAll, IsBest}
use Rattle.ice_defs.specs.Bound.{Multipliers, IsBound}
use Rattle.ice_defs.specs.Derived.{goods_alone}
use Rattle.ice_defs.specs.Steps.{Side}
use Rattle.ice_defs.specs.Sweep.{Sweeps, all_zero}
use Rattle.ice_defs.specs.Exchange.{Exchange, trees_of, exact_of}
use Rattle.ice_defs.specs.Group.{free_side, empty_sets}
use Rattle.ice_defs.specs.Conditions.{AreWeightsOf, AreFixingsOf}
use Rattle.ice_search_log.specs.Parts.{Part}
use Rattle.ice_search_log.specs.Searching.{IsSearch, IsIncumbent}

-- trees, which goods are exact, weights, the marks to start from, and an assignment
pub record Instance : Type 0 where
  pub trees : List Tree
  pub exact : List Bool
  pub weights : List Weights
  pub start : Side
  pub first : Assignment

-- the trees and goods are those of an exchange
abbrev pub instance_of : Exchange → List Weights → Side → Assignment → Instance
instance_of ex weights start first = record { trees = trees_of ex; exact = exact_of ex; weights = weights; start = start; first = first }

-- with all nodes free, from the empty sets
abbrev pub empty_search : Exchange → List Weights → Instance
empty_search ex weights = instance_of ex weights (free_side (trees_of ex)) (empty_sets (trees_of ex))

-- weights and marks are of the trees, and the assignment is feasible and meets the marks
pub record IsInstance (x : Instance) : Type 0 where
  pub few : length x.trees ≤ 40
  pub few_goods : length x.exact ≤ 32
  pub few_nodes : sum_by length x.trees ≤ 2000
  pub weights : AreWeightsOf x.trees x.weights
  pub start : AreFixingsOf x.trees x.start
  pub feasible : IsFeasible x.trees x.exact x.first
  pub meets : MeetsAll x.first x.start

-- the value of the best assignment that meets the marks
abbrev pub IsBestOf : Instance → ℤ → Type 0
IsBestOf x v = IsBest x.trees x.exact x.weights x.start v

-- what holds of the parts of a search, and of the best assignment so far
abbrev pub IsSearchOf : Instance → List Part → Type 0
IsSearchOf x parts = IsSearch goods_alone x.trees x.exact x.weights x.start x.first parts

abbrev pub IsIncumbentOf : Instance → Assignment → ℤ → Type 0
IsIncumbentOf x sets value = IsIncumbent x.trees x.exact x.weights x.start x.first sets value

-- the bound of a side at multipliers
abbrev pub IsBoundAt : Instance → Multipliers → Side → ℤ → Type 0
IsBoundAt x m side v = IsBound x.trees x.weights m side v

-- what one sweep makes of zeros at a side
abbrev pub IsSweepAt : Instance → Side → Multipliers → Type 0
IsSweepAt x side m = Sweeps x.trees x.exact x.weights side (all_zero x.trees x.exact x.weights) m
