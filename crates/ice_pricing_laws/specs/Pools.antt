-- The pool of a pricing run: its members are choices, and none is there twice.
use Rattle.std.specs.Prelude.{ℕ, ◌<◌, ◌≤◌, ◌≡◌, ◌≢◌, List, [], ◌∷◌, ◌++◌, length, slice_index_or, ℤ}
use Rattle.ice_defs.specs.Tree.{Tree}
use Rattle.ice_defs.specs.Set.{Weights}
use Rattle.ice_defs.specs.Trade.{Assignment}
use Rattle.ice_defs.specs.Pricing.{IsChoice}
use Rattle.ice_defs.specs.Fraction.{Fraction}
use Rattle.ice_defs.specs.Program.{IsPoint}
use Rattle.ice_defs.specs.PricingRun.{Member, StageAt, stage_program, Violates, IsRunState}
use Rattle.ice_pricing_laws.specs.Laws.{AreMembers}

abbrev pub no_member : Member
no_member = record { bidder = 0; set = [] }

abbrev pub member_at : List Member → ℕ → Member
member_at pool i = slice_index_or pool i no_member

abbrev pub AreDistinct : List Member → Type 0
AreDistinct pool = (i j : ℕ) → i < j → j < length pool → member_at pool i ≢ member_at pool j

-- a choice that violates a point of the pool's program isn't in the pool
abbrev pub ViolatorIsNew : Type 0
ViolatorIsNew =
    (ts : List Tree) (ws : List Weights) (sets : Assignment) (goods : ℕ) (cap : ℤ) (at : StageAt) (pool : List Member) (x : List Fraction)
    (m : Member)
    → IsPoint (stage_program ts ws sets goods cap at pool) x → Violates ts ws sets goods cap at x m → (i : ℕ) → i < length pool
    → member_at pool i ≢ m

-- so a pool without a member twice stays one
abbrev pub PoolStaysDistinct : Type 0
PoolStaysDistinct =
    (ts : List Tree) (ws : List Weights) (sets : Assignment) (goods : ℕ) (cap : ℤ) (at : StageAt) (pool : List Member) (x : List Fraction)
    (m : Member)
    → IsPoint (stage_program ts ws sets goods cap at pool) x → Violates ts ws sets goods cap at x m → AreDistinct pool
    → AreDistinct (pool ++ m ∷ [])

-- the pool of a state of a run has choices alone, at most 200, and none of them twice
abbrev pub RunPoolIsProper : Type 0
RunPoolIsProper = (ts : List Tree) (ws : List Weights) (sets : Assignment) (goods : ℕ) (cap : ℤ) (at : StageAt) (pool : List Member)
    → IsRunState ts ws sets goods cap at pool
    → AreMembers ts ws sets pool × (length pool ≤ 200) × AreDistinct pool

-- a list of choices without one twice is at most as long as any list that has each choice
abbrev pub DistinctIsShort : Type 0
DistinctIsShort = (ts : List Tree) (ws : List Weights) (sets : Assignment) (pool all : List Member)
    → AreMembers ts ws sets pool → AreDistinct pool
    → ((m : Member) → IsChoice ts ws sets (m.bidder, m.set) → (i : ℕ) × (i < length all) × (member_at all i ≡ m))
    → length pool ≤ length all
