-- The derivations of a journal.
use Rattle.std.specs.Prelude.{ℕ, suc, ◌<◌, ◌≤◌, ◌≡◌, ◌⊎◌, nat_lt, if◌then◌else◌, List, [], ◌∷◌, length, map, replicate, slice_set}
use Rattle.std.specs.Prelude.{ℤ, pos, Option, Some, None}
use Rattle.ice_defs.specs.Tree.{Tree}
use Rattle.ice_defs.specs.Trade.{tree_of, weights_of}
use Rattle.ice_defs.specs.Conditions.{AreWeightsOf}
use Rattle.ice_defs.specs.Derived.{Derived, with_derived}
use Rattle.ice_defs.specs.Follows.{AreLawful}
use Rattle.ice_defs.specs.Group.{free_side}
use Rattle.ice_defs.specs.Steps.{Step, Side}
use Rattle.ice_refute.specs.Waiting.{nodes_of}
use Rattle.ice_derived.specs.Ranges.{IsLimit}
use Rattle.ice_journal.specs.declared.line.Numbered.{Numbered}
use Rattle.ice_derivation.specs.declared.fault.Fault.{Fault}
use Rattle.ice_derivation.specs.declared.fault.Fault.TheVariants as fault
use Rattle.ice_derivation.specs.declared.derivations.Stage.{Stage}
use Rattle.ice_derivation.specs.declared.derivations.Stage.TheVariants.{Outside, Amounts, Log}
use Rattle.ice_derivation.specs.declared.derivations.Derivations.{Derivations}
use Rattle.ice_derivation.specs.Numbers.{changed, NamesNone}
use Rattle.ice_derivation.specs.Walks.{WalkView, begun, stepped, with_one, PassesIn, IsWalked}

-- ---- places

-- where a journal stands: outside of derivations; behind a limit and amounts, where amounts of
-- bidders from `least` on may follow; or in the log of a derived good
pub data Place : Type 0 where
  outside : Place
  at_amounts : Derived → (least : ℕ) → Place
  at_log : Derived → Place

abbrev pub place_in : Stage → Derived → ℕ → Place
place_in Outside good least = outside
place_in Amounts good least = at_amounts good least
place_in Log good least = at_log good

-- the derived good of the derivation at hand, so far
abbrev pub good_of : Derivations → Derived
good_of d = record { amounts = d.amounts; limit = d.limit }

abbrev pub place_of : Derivations → Place
place_of d = place_in d.stage (good_of d) d.least

-- nothing is taken of it yet
abbrev pub good_of_limit : List Tree → ℤ → Derived
good_of_limit ts limit = record { amounts = map (λ (t : Tree). replicate (length t) (pos 0)) ts; limit = limit }

-- ---- limits and amounts

-- another derivation is open, or one more derived good isn't allowed
abbrev pub FailsDerive : Derivations → Fault → Type 0
FailsDerive d fault.Order = ¬ (place_of d ≡ outside)
FailsDerive d fault.Derived = (place_of d ≡ outside) × (d.walk.most ≤ length d.walk.derived)
FailsDerive d other = ⊥

-- the amounts of a bidder may stand here
abbrev pub TakesAmounts : Place → ℕ → Type 0
TakesAmounts outside b = ⊥
TakesAmounts (at_amounts good least) b = least ≤ b
TakesAmounts (at_log good) b = ⊥

-- the bidder isn't there, or one of its nodes isn't
abbrev pub NamesNoNode : List Tree → ℕ → List Numbered → Type 0
NamesNoNode ts b numbers = (length ts ≤ b) ⊎ NamesNone (length (tree_of ts b)) numbers

-- amounts may not stand here, or name what isn't there
abbrev pub FailsAmounts : List Tree → Derivations → ℕ → List Numbered → Fault → Type 0
FailsAmounts ts d b numbers fault.Order = ¬ TakesAmounts (place_of d) b
FailsAmounts ts d b numbers fault.Derived = TakesAmounts (place_of d) b × NamesNoNode ts b numbers
FailsAmounts ts d b numbers other = ⊥

abbrev pub with_amounts : Derived → ℕ → List Numbered → Derived
with_amounts good b numbers = record good { amounts = slice_set good.amounts b (changed (weights_of good.amounts b) numbers) }

abbrev pub place_behind : Place → ℕ → List Numbered → Place
place_behind outside b numbers = outside
place_behind (at_amounts good least) b numbers = at_amounts (with_amounts good b numbers) (suc b)
place_behind (at_log good) b numbers = at_log good

-- ---- steps

-- the derived good whose log a step stands in; the log begins behind the amounts of some bidder
abbrev pub good_at : Place → Option Derived
good_at outside = None
good_at (at_amounts good least) = if nat_lt 0 least then Some good else None
good_at (at_log good) = Some good

-- the walk in which that step is taken
abbrev pub walk_at : List Tree → Place → WalkView → WalkView
walk_at ts outside w = w
walk_at ts (at_amounts good least) w = begun w (free_side ts)
walk_at ts (at_log good) w = w

-- behind it the log goes on, or the derived good stands
abbrev pub place_after : Derived → List Side → Place
place_after good [] = outside
place_after good (side ∷ sides) = at_log good

abbrev pub walk_after : Derived → List Side → WalkView → WalkView
walk_after good [] w = with_one w good
walk_after good (side ∷ sides) w = w

module _ (ts : List Tree) (d : Derivations) where
  -- a step of a derivation's log passes, by the derived goods before it, at the amounts as weights
  -- and with the limit as target
  pub record TakesStep (x : Step) (after : Derivations) : Type 0 where
    pub good : Derived
    pub in_log : good_at (place_of d) ≡ Some good
    pub passes : PassesIn ts good.amounts good.limit (walk_at ts (place_of d) d.walk) x
    pub place : place_of after ≡ place_after good (stepped (walk_at ts (place_of d) d.walk) x).sides
    pub walk : after.walk
        ≡ walk_after good (stepped (walk_at ts (place_of d) d.walk) x).sides (stepped (walk_at ts (place_of d) d.walk) x)

  -- or it stands in no log, or fails there
  pub data FailsStep (P : Derived → WalkView → Fault → Type 0) : Fault → Type 0 where
    no_log : good_at (place_of d) ≡ None → FailsStep P fault.Order
    in_log : {good : Derived} {why : Fault} → good_at (place_of d) ≡ Some good → P good (walk_at ts (place_of d) d.walk) why
        → FailsStep P why

-- ---- what is kept

-- so far a log is walked which is to show that the derived good follows, and there is room for it
pub record IsInLog (ts : List Tree) (d : Derivations) (good : Derived) : Type 0 where
  pub room : length d.walk.derived < d.walk.most
  pub walked : (log : List Step)
      × IsWalked (with_derived d.walk.derived) ts d.walk.exact good.amounts good.limit (free_side ts) log d.walk.sides

abbrev pub IsReady : List Tree → Derivations → Place → Type 0
IsReady ts d outside = Unit {0}
IsReady ts d (at_amounts good least) = length d.walk.derived < d.walk.most
IsReady ts d (at_log good) = (0 < length d.walk.sides) × IsInLog ts d good

-- derivations of these trees: each derived good that stands follows from those before it
pub record AreOf (ts : List Tree) (d : Derivations) : Type 0 where
  pub lawful : AreLawful ts d.walk.exact d.walk.derived
  pub nodes : d.walk.nodes ≡ nodes_of ts
  pub free : d.free ≡ free_side ts
  pub zeros : AreWeightsOf ts d.zeros
  pub amounts : nodes_of d.amounts ≡ nodes_of ts
  pub limit : IsLimit d.limit

pub record AreKept (ts : List Tree) (d : Derivations) : Type 0 where
  pub of : AreOf ts d
  pub ready : IsReady ts d (place_of d)
