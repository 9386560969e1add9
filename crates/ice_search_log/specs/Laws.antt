-- Laws of searches, as statements.
use Rattle.std.specs.Prelude.{ℕ, suc, ◌+◌, ◌*◌, ◌^◌, ◌<◌, ◌≤◌, ◌≡◌, ◌⊎◌}
use Rattle.std.specs.Prelude.{Bool, true, List, [], ◌∷◌, ◌++◌, length, slice_set, slice_index_or}
use Rattle.std.specs.Prelude.{ℤ, pos, ◌+ℤ◌, ◌*ℤ◌, ◌≤ℤ◌, ◌<ℤ◌, Some, None}
use Rattle.std.specs.List.{AllByRecursion, Contains}
use Rattle.ice_defs.specs.declared.Mark.{Mark}
use Rattle.ice_defs.specs.declared.Mark.TheVariants.{Free, Must, Never}
use Rattle.ice_defs.specs.Sum.{sum_below}
use Rattle.ice_defs.specs.Tree.{Tree}
use Rattle.ice_defs.specs.Set.{NodeSet, Weights}
use Rattle.ice_defs.specs.Fixing.{mark_of}
use Rattle.ice_defs.specs.Trade.{Assignment, tree_of, set_of, weights_of, fixing_of, total_units, is_exact, IsCovered, IsFeasible, MeetsAll}
use Rattle.ice_defs.specs.Trade.{total_value, IsBest}
use Rattle.ice_defs.specs.Bound.{Multipliers, net, IsOpen, IsBound}
use Rattle.ice_defs.specs.Derived.{Means, flags_of, IsBoundBy}
use Rattle.ice_defs.specs.Steps.{Side, branch, leaf, with_mark, branch_count}
use Rattle.ice_defs.specs.Log.{HasWrongSign, IsFreeNode, PassesBy}
use Rattle.ice_defs.specs.Sweep.{IsLive, Sweeps, all_zero, IsSweptBound, IsEarned, IsEarnedLog, LeavesEarned}
use Rattle.ice_defs.specs.Follows.{IsLawful}
use Rattle.ice_defs.specs.Session.{Proved}
use Rattle.ice_defs.specs.Searched.{IsFound, IsFoundBy, IsSpentSearchBy}
use Rattle.ice_defs.specs.Conditions.{AreFixingsOf}
use Rattle.ice_refute.specs.Code.{CountsGoods}
use Rattle.ice_refute.specs.Laws.{CountsBy, CountsUpTo}
use Rattle.ice_search_log.specs.Parts.{Put, Split, Part, part_at, AreLater, side_at, split_at, split_unless, steps_left, log_of}
use Rattle.ice_search_log.specs.Parts.{never_stops, is_closed, split_count}
use Rattle.ice_search_log.specs.Nodes.{HasNoNode, AreOpenSets}
use Rattle.ice_search_log.specs.Searching.{leaf_numbers, IsPart, IsSearch, IsIncumbent, IsAboveWhole, IsNext, AreOpen, IsAboveOpen}

-- what a search finds is the best
abbrev pub FoundIsBest : Type 0
FoundIsBest = (ts : List Tree) (exact : List Bool) (ws : List Weights) (start : Side) (first : Assignment) (p : Proved)
    → AllByRecursion (CountsGoods (length exact)) p.log → IsFound ts exact ws start first p → IsBest ts exact ws start p.value

-- so is what it finds by lawful derived goods
abbrev pub FoundByIsBest : Type 0
FoundByIsBest =
    (means : Means) (ts : List Tree) (exact : List Bool) (ws : List Weights) (start : Side) (first : Assignment) (p : Proved)
    → IsLawful ts exact means → AllByRecursion (CountsBy means exact) p.log → IsFoundBy means ts exact ws start first p
    → IsBest ts exact ws start p.value

-- ---- splitting

abbrev pub MeetsOne : Assignment → Side → Side → Type 0
MeetsOne a one other = (MeetsAll a one × (¬ MeetsAll a other)) ⊎ (MeetsAll a other × (¬ MeetsAll a one))

-- a feasible assignment that meets a side meets one of its two children, and not both
abbrev pub SplitCovers : Type 0
SplitCovers = (ts : List Tree) (exact : List Bool) (side : Side) (b n : ℕ) (a : Assignment)
    → AreFixingsOf ts side → IsFreeNode ts side b n → IsFeasible ts exact a → MeetsAll a side
    → MeetsOne a (with_mark side b n Must) (with_mark side b n Never)

-- where each part that isn't split is open or has a bound of at most the value, a feasible
-- assignment that meets the start is worth at most the value or meets an open part
abbrev pub CoverIsWhole : Type 0
CoverIsWhole = (means : Means) (ts : List Tree) (exact : List Bool) (ws : List Weights) (start : Side) (first : Assignment)
    (parts : List Part) (open_parts : List ℕ) (value : ℤ)
    → IsSearch means ts exact ws start first parts → AreOpen parts value open_parts → (a : Assignment) → IsFeasible ts exact a
    → MeetsAll a start
    → (total_value a ws ≤ℤ value) ⊎ ((k : ℕ) × (k < length parts) × Contains open_parts k × MeetsAll a (side_at start parts k))

-- so no feasible assignment that meets the start is worth
-- more than the greatest bound of a part that isn't split
abbrev pub BestIsBelow : Type 0
BestIsBelow = (means : Means) (ts : List Tree) (exact : List Bool) (ws : List Weights) (start : Side) (first : Assignment)
    (parts : List Part) (bound : ℤ)
    → IsSearch means ts exact ws start first parts → IsAboveWhole parts bound
    → (a : Assignment) → IsFeasible ts exact a → MeetsAll a start → total_value a ws ≤ℤ bound

-- ---- the sides

-- a part but the first has the marks of the part above
-- it, and one more on a node that is free there
abbrev pub SideIsBelow : Type 0
SideIsBelow = (means : Means) (ts : List Tree) (exact : List Bool) (ws : List Weights) (start : Side) (first : Assignment)
    (parts : List Part) (j : ℕ) (put : Put)
    → IsSearch means ts exact ws start first parts → 0 < j → j < length parts → (part_at parts j).put ≡ put
    → (put.above < j) × (side_at start parts j ≡ with_mark (side_at start parts put.above) put.bidder put.node put.mark)
    × IsFreeNode ts (side_at start parts put.above) put.bidder put.node

-- the first part is the start
abbrev pub SideIsStart : Type 0
SideIsStart = (means : Means) (ts : List Tree) (exact : List Bool) (ws : List Weights) (start : Side) (first : Assignment)
    (parts : List Part)
    → IsSearch means ts exact ws start first parts → side_at start parts 0 ≡ start

-- each side has one mark per node
abbrev pub SidesAreFixings : Type 0
SidesAreFixings = (means : Means) (ts : List Tree) (exact : List Bool) (ws : List Weights) (start : Side) (first : Assignment)
    (parts : List Part) (j : ℕ)
    → IsSearch means ts exact ws start first parts → AreFixingsOf ts start → j < length parts → AreFixingsOf ts (side_at start parts j)

-- what meets a marked side meets the side, where the node was free
abbrev pub MarkedIsMet : Type 0
MarkedIsMet = (a : Assignment) (side : Side) (b n : ℕ) (m : Mark) → mark_of (fixing_of side b) n ≡ Free → MeetsAll a (with_mark side b n m)
    → MeetsAll a side

-- what meets a part meets the start
abbrev pub MeetsStart : Type 0
MeetsStart = (means : Means) (ts : List Tree) (exact : List Bool) (ws : List Weights) (start : Side) (first : Assignment)
    (parts : List Part) (k : ℕ) (a : Assignment)
    → IsSearch means ts exact ws start first parts → k < length parts → MeetsAll a (side_at start parts k) → MeetsAll a start

-- the nets of any assignment and the costs of its goods sum to 64 times its value
abbrev pub NetsGiveValue : Type 0
NetsGiveValue = (ts : List Tree) (ws : List Weights) (m : Multipliers) (a : Assignment) → length a ≡ length ts
    → (sum_below (λ b. net (tree_of ts b) (weights_of ws b) m (set_of a b)) (length ts) +ℤ sum_below
    (λ g. slice_index_or m g (pos 0) *ℤ total_units ts a g) (length m)) ≡ (pos 64 *ℤ total_value a ws)

-- a sweep of zeros gives one lawful multiplier per good
abbrev pub SweepIsLawful : Type 0
SweepIsLawful = (ts : List Tree) (exact : List Bool) (ws : List Weights) (side : Side) (m : Multipliers)
    → Sweeps ts exact ws side (all_zero ts exact ws) m → (length m ≡ length exact) × (¬ HasWrongSign exact m)

-- a part is swept: its bound falls to the swept one, or is no greater
abbrev pub SweptIsPart : Type 0
SweptIsPart = (means : Means) (ts : List Tree) (exact : List Bool) (ws : List Weights) (side : Side) (p : Part) (m : Multipliers) (v : ℤ)
    → IsPart means ts exact ws side p → Sweeps ts exact ws side (all_zero ts exact ws) m → IsBound ts ws m side v
    → IsPart means ts exact ws side (record p { m = leaf_numbers means m; key = v; swept = true })
    × (p.key ≤ℤ v → IsPart means ts exact ws side (record p { swept = true }))

-- a side with a bound is live
abbrev pub BoundIsLive : Type 0
BoundIsLive = (means : Means) (ts : List Tree) (exact : List Bool) (ws : List Weights) (m : Multipliers) (side : Side) (v : ℤ)
    → IsBoundBy means ts exact ws m side v → IsLive ts side

-- ---- the log

-- the children of each part come later
abbrev pub ChildrenAreLater : Type 0
ChildrenAreLater = (means : Means) (ts : List Tree) (exact : List Bool) (ws : List Weights) (start : Side) (first : Assignment)
    (parts : List Part)
    → IsSearch means ts exact ws start first parts → AreLater parts

-- at first the whole log is left
abbrev pub AllIsLeft : Type 0
AllIsLeft = (stops : Part → Bool) (parts : List Part) → steps_left stops parts (0 ∷ []) ≡ log_of stops parts

-- the last part of the stack is written as a leaf
abbrev pub LeafIsNext : Type 0
LeafIsNext = (parts : List Part) (stops : Part → Bool) (stack : List ℕ) (k : ℕ) → AreLater parts → k < length parts
    → split_unless (stops (part_at parts k)) (part_at parts k).split ≡ None
    → steps_left stops parts (stack ++ k ∷ []) ≡ leaf (part_at parts k).m ∷ steps_left stops parts stack

-- or as a branch, and its two children take its place
abbrev pub BranchIsNext : Type 0
BranchIsNext = (parts : List Part) (stops : Part → Bool) (stack : List ℕ) (k : ℕ) (s : Split) → AreLater parts → k < length parts
    → split_unless (stops (part_at parts k)) (part_at parts k).split ≡ Some s
    → (suc s.must < length parts) ×
    (steps_left stops parts (stack ++ k ∷ []) ≡ branch s.bidder s.node ∷ steps_left stops parts ((stack ++ suc s.must ∷ []) ++ s.must ∷ []))

-- the bound of a part that is written as a leaf is at most the target
abbrev pub ClosesAll : (Part → Bool) → List Part → ℤ → Type 0
ClosesAll stops parts target = (k : ℕ) → k < length parts → (stops (part_at parts k) ≡ true) ⊎ ((part_at parts k).split ≡ None)
    → (part_at parts k).key ≤ℤ target

-- then the log passes
abbrev pub TreeLogPasses : Type 0
TreeLogPasses =
    (means : Means) (ts : List Tree) (exact : List Bool) (ws : List Weights) (start : Side) (first : Assignment) (parts : List Part)
    (stops : Part → Bool)
    (target : ℤ)
    → IsSearch means ts exact ws start first parts → ClosesAll stops parts target
    → PassesBy means ts exact ws target start (log_of stops parts)

-- its branch steps are earned, and each leaf has as many numbers as its bound wants, and at most
-- one for each good and derived good
abbrev pub TreeLogIsEarned : Type 0
TreeLogIsEarned =
    (means : Means) (ts : List Tree) (exact : List Bool) (ws : List Weights) (start : Side) (first : Assignment) (parts : List Part)
    (stops : Part → Bool)
    → IsSearch means ts exact ws start first parts
    → IsEarnedLog ts exact ws start first (log_of stops parts) × AllByRecursion (CountsBy means exact) (log_of stops parts)
    × AllByRecursion (CountsUpTo (length (flags_of means exact))) (log_of stops parts)

-- where nothing stops, it leaves an earned branch where a part that isn't split has one
abbrev pub TreeLogLeaves : Type 0
TreeLogLeaves = (means : Means) (ts : List Tree) (exact : List Bool) (ws : List Weights) (start : Side) (first : Assignment)
    (parts : List Part) (k b n : ℕ)
    → IsSearch means ts exact ws start first parts → k < length parts → (part_at parts k).split ≡ None
    → IsFreeNode ts (side_at start parts k) b n
    → IsEarned ts exact ws start first (side_at start parts k) b n → LeavesEarned ts exact ws start first (log_of never_stops parts)

-- the log of all parts has a branch step for each part that is split, and any other
-- log of them no more; there are two parts for each such part, and the first
abbrev pub BranchesAreSplits : Type 0
BranchesAreSplits =
    (means : Means) (ts : List Tree) (exact : List Bool) (ws : List Weights) (start : Side) (first : Assignment) (parts : List Part)
    (stops : Part → Bool)
    → IsSearch means ts exact ws start first parts
    → (branch_count (log_of never_stops parts) ≡ split_count parts) × (branch_count (log_of stops parts) ≤ split_count parts)
    × (length parts ≡ 2 * split_count parts + 1)

-- ---- the best

-- where an assignment is feasible and meets the start, there is a best one
abbrev pub BestIsThere : Type 0
BestIsThere = (ts : List Tree) (exact : List Bool) (ws : List Weights) (start : Side) (a : Assignment)
    → IsFeasible ts exact a → MeetsAll a start → (best : ℤ) × IsBest ts exact ws start best

-- ---- the open parts

-- where no open part has a bound above the value, no part that isn't split has one
abbrev pub NoneIsLeft : Type 0
NoneIsLeft = (parts : List Part) (value : ℤ) (open_parts : List ℕ) → AreOpen parts value open_parts → IsAboveOpen parts open_parts value
    → IsAboveWhole parts value

-- a swept part of the greatest bound of all open ones is next, where that is above the value
abbrev pub GreatestIsNext : Type 0
GreatestIsNext = (parts : List Part) (value : ℤ) (open_parts : List ℕ) (k : ℕ)
    → k < length parts → (part_at parts k).split ≡ None → (part_at parts k).swept ≡ true → value <ℤ (part_at parts k).key
    → AreOpen parts value open_parts → IsAboveOpen parts open_parts (part_at parts k).key → IsNext parts value k

-- the open parts stay so where the value rises
abbrev pub OpenRises : Type 0
OpenRises = (parts : List Part) (value higher : ℤ) (open_parts : List ℕ) → AreOpen parts value open_parts → value ≤ℤ higher
    → AreOpen parts higher open_parts

-- and where an open part takes another bound
abbrev pub OpenBounds : Type 0
OpenBounds = (parts : List Part) (value : ℤ) (open_parts : List ℕ) (k : ℕ) (p : Part) → AreOpen parts value open_parts
    → Contains open_parts k → AreOpen (slice_set parts k p) value open_parts

-- a part is split: all other open parts stay open, and each
-- child is open or has a bound of at most the value
abbrev pub OpenSplits : Type 0
OpenSplits = (parts : List Part) (value : ℤ) (open_parts left : List ℕ) (k b n : ℕ) (must never : Part)
    → AreOpen parts value open_parts → k < length parts → ((j : ℕ) → Contains open_parts j → (j ≡ k → ⊥) → Contains left j)
    → (must.key ≤ℤ value) ⊎ Contains left (length parts) → (never.key ≤ℤ value) ⊎ Contains left (suc (length parts))
    → AreOpen ((slice_set parts k (split_at (part_at parts k) b n (length parts)) ++ must ∷ []) ++ never ∷ []) value left

-- a part whose bound is at most the value needn't stay open
abbrev pub OpenCloses : Type 0
OpenCloses = (parts : List Part) (value : ℤ) (open_parts left : List ℕ) (k : ℕ)
    → AreOpen parts value open_parts → (part_at parts k).key ≤ℤ value → ((j : ℕ) → Contains open_parts j → (j ≡ k → ⊥) → Contains left j)
    → AreOpen parts value left

-- a branch of the next part is earned, where both its children are live
abbrev pub SplitIsEarned : Type 0
SplitIsEarned =
    (means : Means) (ts : List Tree) (exact : List Bool) (ws : List Weights) (start : Side) (first : Assignment) (parts : List Part)
    (sets : Assignment) (value : ℤ) (k b n : ℕ)
    → IsSearch means ts exact ws start first parts → IsIncumbent ts exact ws start first sets value → IsNext parts value k
    → IsLive ts (with_mark (side_at start parts k) b n Must) → IsLive ts (with_mark (side_at start parts k) b n Never)
    → IsEarned ts exact ws start first (side_at start parts k) b n

-- a marked side is live where the bidder of the node still has a set, and isn't where it has none
abbrev pub MarkedIsLive : Type 0
MarkedIsLive = (ts : List Tree) (side : Side) (b n : ℕ) (m : Mark) (s : NodeSet)
    → IsLive ts side → b < length ts → IsOpen (tree_of ts b) (fixing_of (with_mark side b n m) b) s → IsLive ts (with_mark side b n m)

-- sets that bidders may still take meet the side, and are feasible where their goods are covered
abbrev pub OpenSetsMeet : Type 0
OpenSetsMeet = (ts : List Tree) (exact : List Bool) (side : Side) (a : Assignment) → AreOpenSets ts side a
    → MeetsAll a side × (((g : ℕ) → g < length exact → IsCovered (is_exact exact g) (total_units ts a g) (pos 0)) → IsFeasible ts exact a)

-- where no free node leaves both children live, each bidder has one set
-- that it may still take; so the swept bound is at most the value,
-- where those sets are worth no more than the value if they
-- are feasible, and than 2^50 above it in any case
abbrev pub NodeIsThere : Type 0
NodeIsThere = (ts : List Tree) (exact : List Bool) (ws : List Weights) (side : Side) (v : ℤ) (a : Assignment) (value : ℤ)
    → IsSweptBound ts exact ws side v → HasNoNode ts side → AreOpenSets ts side a
    → (IsFeasible ts exact a → total_value a ws ≤ℤ value) → total_value a ws ≤ℤ (value +ℤ pos (2 ^ 50)) → v ≤ℤ value

-- ---- steps of the search

-- it begins with one part, the start
abbrev pub SearchBegins : Type 0
SearchBegins = (means : Means) (ts : List Tree) (exact : List Bool) (ws : List Weights) (start : Side) (first : Assignment) (p : Part)
    → IsLawful ts exact means → IsPart means ts exact ws start p → p.split ≡ None → IsSearch means ts exact ws start first (p ∷ [])

-- a part takes other multipliers, or is swept
abbrev pub SearchBounds : Type 0
SearchBounds = (means : Means) (ts : List Tree) (exact : List Bool) (ws : List Weights) (start : Side) (first : Assignment)
    (parts : List Part) (k : ℕ) (p : Part)
    → IsSearch means ts exact ws start first parts → k < length parts → p.put ≡ (part_at parts k).put → p.split ≡ (part_at parts k).split
    → IsPart means ts exact ws (side_at start parts k) p → IsSearch means ts exact ws start first (slice_set parts k p)

-- a part is split, by an earned branch, and two parts are pushed
abbrev pub SearchSplits : Type 0
SearchSplits = (means : Means) (ts : List Tree) (exact : List Bool) (ws : List Weights) (start : Side) (first : Assignment)
    (parts : List Part) (k b n : ℕ) (must never : Part)
    → IsSearch means ts exact ws start first parts → k < length parts → (part_at parts k).split ≡ None
    → IsFreeNode ts (side_at start parts k) b n → IsEarned ts exact ws start first (side_at start parts k) b n
    → must.put ≡ record { above = k; bidder = b; node = n; mark = Must } → must.split ≡ None
    → IsPart means ts exact ws (with_mark (side_at start parts k) b n Must) must
    → never.put ≡ record { above = k; bidder = b; node = n; mark = Never } → never.split ≡ None
    → IsPart means ts exact ws (with_mark (side_at start parts k) b n Never) never
    → IsSearch means ts exact ws start first
    ((slice_set parts k (split_at (part_at parts k) b n (length parts)) ++ must ∷ []) ++ never ∷ [])

-- ---- what a search gives

-- where no part that isn't split has a bound above the value, the sets are found
abbrev pub SearchIsFound : Type 0
SearchIsFound =
    (means : Means) (ts : List Tree) (exact : List Bool) (ws : List Weights) (start : Side) (first : Assignment) (parts : List Part)
    (stops : Part → Bool)
    (p : Proved)
    → IsSearch means ts exact ws start first parts → IsIncumbent ts exact ws start first p.sets p.value → IsAboveWhole parts p.value
    → ((q : Part) → stops q ≡ true → q.key ≤ℤ p.value) → p.log ≡ log_of stops parts → IsFoundBy means ts exact ws start first p

-- where the next part has a free node both of whose sides are
-- live, the search is spent, and the bound is the part's
abbrev pub SearchIsSpent : Type 0
SearchIsSpent =
    (means : Means) (ts : List Tree) (exact : List Bool) (ws : List Weights) (start : Side) (first : Assignment) (parts : List Part)
    (p : Proved) (k b n : ℕ)
    → IsSearch means ts exact ws start first parts → IsIncumbent ts exact ws start first p.sets p.value → IsNext parts p.value k
    → IsFreeNode ts (side_at start parts k) b n → IsLive ts (with_mark (side_at start parts k) b n Must)
    → IsLive ts (with_mark (side_at start parts k) b n Never)
    → p.log ≡ log_of never_stops parts → IsSpentSearchBy means ts exact ws start first p (part_at parts k).key

-- a log that writes the closed parts as leaves writes none of a bound above the value so
abbrev pub ClosedIsLow : Type 0
ClosedIsLow = (value : ℤ) (q : Part) → is_closed value q ≡ true → q.key ≤ℤ value
