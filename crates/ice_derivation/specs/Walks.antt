-- Walks through logs whose leaves have tolls.
use Rattle.std.specs.Prelude.{ℕ, Bool, List, [], ◌∷◌, ◌++◌, length, replicate, ℤ, pos}
use Rattle.ice_defs.specs.Tree.{Tree}
use Rattle.ice_defs.specs.Set.{Weights}
use Rattle.ice_defs.specs.Bound.{Multipliers}
use Rattle.ice_defs.specs.Derived.{Derived, Means, with_derived}
use Rattle.ice_defs.specs.Steps.{Step, branch, leaf, dead, Side, sides_after}
use Rattle.ice_refute.specs.Passing.{PassesAtBy, HasFaultBy}
use Rattle.ice_refute.specs.Waiting.{nodes_of, first_side}
use Rattle.ice_journal.specs.declared.line.Numbered.{Numbered}
use Rattle.ice_derivation.specs.declared.fault.Fault.{Fault}
use Rattle.ice_derivation.specs.declared.fault.Fault.TheVariants as fault
use Rattle.ice_derivation.specs.Numbers.{changed, HasNoChange}

-- what is seen of a walk: the derived goods that stand and how many there may be, the numbers of
-- nodes of the trees, which goods are exact, the numbers of the leaf before, which are multipliers
-- and then tolls, and the open sides, the next one first
pub record WalkView : Type 0 where
  pub derived : List Derived
  pub most : ℕ
  pub nodes : List ℕ
  pub exact : List Bool
  pub numbers : Multipliers
  pub sides : List Side

-- no derived good stands, and no side is open
abbrev pub new_walk : List Tree → List Bool → ℕ → WalkView
new_walk ts exact most = record {
  derived = [];
  most = most;
  nodes = nodes_of ts;
  exact = exact;
  numbers = replicate (length exact) (pos 0);
  sides = [];
}

-- a log begins at one side, and each number is 0
abbrev pub begun : WalkView → Side → WalkView
begun w start = record w { numbers = replicate (length w.numbers) (pos 0); sides = start ∷ [] }

-- the numbers of the last leaf after this step
abbrev pub numbers_after : Multipliers → Step → Multipliers
numbers_after m (branch b n) = m
numbers_after m (leaf new) = new
numbers_after m (dead b) = m

abbrev pub stepped : WalkView → Step → WalkView
stepped w x = record w { sides = sides_after w.sides x; numbers = numbers_after w.numbers x }

-- no leaf
abbrev pub IsPlain : Step → Type 0
IsPlain (branch b n) = Unit {0}
IsPlain (leaf m) = ⊥
IsPlain (dead b) = Unit {0}

-- one more derived good stands, with toll 0
abbrev pub with_one : WalkView → Derived → WalkView
with_one w d = record w { derived = w.derived ++ d ∷ []; numbers = w.numbers ++ pos 0 ∷ [] }

module _ (ts : List Tree) (ws : List Weights) (target : ℤ) where
  -- a step passes at the first open side by the derived goods that stand, or has this fault there
  abbrev pub PassesIn : WalkView → Step → Type 0
  PassesIn w x = PassesAtBy (with_derived w.derived) ts w.exact ws target (first_side w.sides) x

  -- what a leaf fails with these changes of the leaf before
  abbrev pub FailsLeaf : WalkView → List Numbered → Fault → Type 0
  FailsLeaf w changes fault.Near = HasNoChange w.numbers changes
  FailsLeaf w changes (fault.Step why) = (¬ HasNoChange w.numbers changes)
      × HasFaultBy (with_derived w.derived) ts w.exact ws target (first_side w.sides) (leaf (changed w.numbers changes)) why
  FailsLeaf w changes other = ⊥

  -- what another step fails
  abbrev pub FailsPlain : WalkView → Step → Fault → Type 0
  FailsPlain w x (fault.Step why) = HasFaultBy (with_derived w.derived) ts w.exact ws target (first_side w.sides) x why
  FailsPlain w x other = ⊥

-- these steps pass one after another, and leave these sides open
module _ (means : Means) (ts : List Tree) (exact : List Bool) (ws : List Weights) (target : ℤ) (start : Side) where
  pub data IsWalked : List Step → List Side → Type 0 where
    at_start : IsWalked [] (start ∷ [])
    one_more : {log : List Step} {side : Side} {sides : List Side} (x : Step) → IsWalked log (side ∷ sides)
        → PassesAtBy means ts exact ws target side x → IsWalked (log ++ x ∷ []) (sides_after (side ∷ sides) x)
