-- What holds of the parts of a search at all times.
use Rattle.std.specs.Prelude.{ℕ, suc, ◌+◌, ◌<◌, ◌≤◌, ◌≡◌, ◌⊎◌, Bool, true, List, length, slice_index_or}
use Rattle.std.specs.Prelude.{ℤ, pos, ◌+ℤ◌, ◌≤ℤ◌, ◌<ℤ◌, Option, Some, None}
use Rattle.std.specs.List.{Contains}
use Rattle.ice_defs.specs.declared.Mark.TheVariants.{Must, Never}
use Rattle.ice_defs.specs.Sum.{sum_below, sum_over}
use Rattle.ice_defs.specs.Tree.{Tree}
use Rattle.ice_defs.specs.Set.{Weights}
use Rattle.ice_defs.specs.Trade.{Assignment, IsFeasible, MeetsAll, total_value}
use Rattle.ice_defs.specs.Bound.{Multipliers}
use Rattle.ice_defs.specs.Derived.{Means, goods_alone, with_derived, flags_of, IsBoundBy}
use Rattle.ice_defs.specs.Steps.{Side, with_mark}
use Rattle.ice_defs.specs.Log.{HasWrongSign, IsFreeNode}
use Rattle.ice_defs.specs.Sweep.{IsSweptBound, IsEarned}
use Rattle.ice_defs.specs.Follows.{IsLawful}
use Rattle.ice_bound.specs.Laws.{in_4096ths}
use Rattle.ice_search_log.specs.Parts.{Put, Split, Part, part_at, side_at}

-- the sum of a number over the children of a part
abbrev pub over_children : (ℕ → ℤ) → Option Split → ℤ
over_children f None = pos 0
over_children f (Some s) = f s.must +ℤ f (suc s.must)

-- each part but the first is a child of one part, so any sum over the
-- children of all parts and the first part is the sum over all
abbrev pub IsPaired : List Part → Type 0
IsPaired parts = (f : ℕ → ℤ) → (sum_over (λ p. over_children f p.split) parts +ℤ f 0) ≡ sum_below f (length parts)

-- one number for each good, where there are no others; else at most one for each good and derived
-- good, since those that are left out are 0
abbrev pub HasNumbers : Means → List Bool → Multipliers → Type 0
HasNumbers goods_alone exact m = length m ≡ length exact
HasNumbers (with_derived ds) exact m = length m ≤ length exact + length ds

-- multipliers of the goods in 64ths, as the numbers of a leaf
abbrev pub leaf_numbers : Means → Multipliers → Multipliers
leaf_numbers goods_alone m = m
leaf_numbers (with_derived ds) m = in_4096ths m

module _ (means : Means) (ts : List Tree) (exact : List Bool) (ws : List Weights) where
  -- the key is the bound at the numbers; once swept, it is at most the swept bound
  pub record IsPart (side : Side) (p : Part) : Type 0 where
    pub counts : HasNumbers means exact p.m
    pub signs : ¬ HasWrongSign (flags_of means exact) p.m
    pub bound : IsBoundBy means ts exact ws p.m side p.key
    pub swept : p.swept ≡ true → (v : ℤ) × IsSweptBound ts exact ws side v × (p.key ≤ℤ v)

module _ (ts : List Tree) (exact : List Bool) (ws : List Weights) (start : Side) (first : Assignment) where
  -- a part is split at a free node, by an earned branch, and its children come after it
  pub record IsSplit (parts : List Part) (k : ℕ) (s : Split) : Type 0 where
    pub after : k < s.must
    pub inside : suc s.must < length parts
    pub must : side_at start parts s.must ≡ with_mark (side_at start parts k) s.bidder s.node Must
    pub never : side_at start parts (suc s.must) ≡ with_mark (side_at start parts k) s.bidder s.node Never
    pub free : IsFreeNode ts (side_at start parts k) s.bidder s.node
    pub earned : IsEarned ts exact ws start first (side_at start parts k) s.bidder s.node

  -- the mark of a part that isn't the first is one of the two that split the part above it
  pub record IsChild (parts : List Part) (j : ℕ) (put : Put) : Type 0 where
    pub split : Split
    pub earlier : put.above < j
    pub has : (part_at parts put.above).split ≡ Some split
    pub bidder : put.bidder ≡ split.bidder
    pub node : put.node ≡ split.node
    pub one : ((j ≡ split.must) × (put.mark ≡ Must)) ⊎ ((j ≡ suc split.must) × (put.mark ≡ Never))

  -- an assignment with its value, no less than the first one's
  pub record IsIncumbent (sets : Assignment) (value : ℤ) : Type 0 where
    pub feasible : IsFeasible ts exact sets
    pub meets : MeetsAll sets start
    pub has : total_value sets ws ≡ value
    pub no_less : total_value first ws ≤ℤ value

-- the parts of a search whose leaves close by these means
pub record IsSearch (means : Means) (ts : List Tree) (exact : List Bool) (ws : List Weights) (start : Side) (first : Assignment)
    (parts : List Part) : Type 0 where
  pub lawful : IsLawful ts exact means
  pub root : 0 < length parts
  pub each : (k : ℕ) → k < length parts → IsPart means ts exact ws (side_at start parts k) (part_at parts k)
  pub splits : (k : ℕ) (s : Split) → k < length parts → (part_at parts k).split ≡ Some s → IsSplit ts exact ws start first parts k s
  pub child : (j : ℕ) → 0 < j → j < length parts → IsChild ts exact ws start first parts j (part_at parts j).put
  pub paired : IsPaired parts

-- no part that isn't split has a bound above this
abbrev pub IsAboveWhole : List Part → ℤ → Type 0
IsAboveWhole parts bound = (j : ℕ) → j < length parts → (part_at parts j).split ≡ None → (part_at parts j).key ≤ℤ bound

-- the part to be split next: swept, and of the greatest bound, which is above the value
pub record IsNext (parts : List Part) (value : ℤ) (k : ℕ) : Type 0 where
  pub there : k < length parts
  pub whole : (part_at parts k).split ≡ None
  pub swept : (part_at parts k).swept ≡ true
  pub above : value <ℤ (part_at parts k).key
  pub greatest : IsAboveWhole parts (part_at parts k).key

-- each part that isn't split is among the open ones, or has a bound of at most the value
abbrev pub AreOpen : List Part → ℤ → List ℕ → Type 0
AreOpen parts value open_parts = (k : ℕ) → k < length parts → (part_at parts k).split ≡ None
    → ((part_at parts k).key ≤ℤ value) ⊎ Contains open_parts k

-- no open part that isn't split has a bound above this
abbrev pub IsAboveOpen : List Part → List ℕ → ℤ → Type 0
IsAboveOpen parts open_parts bound =
    (i : ℕ) → i < length open_parts → (part_at parts (slice_index_or open_parts i 0)).split ≡ None
    → (part_at parts (slice_index_or open_parts i 0)).key ≤ℤ bound
