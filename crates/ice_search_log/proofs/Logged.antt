-- The log of the parts: it passes, and its branches are earned.
use Rattle.std.proofs.Common.{ℕ, zero, suc, ◌-◌, ◌<◌, ◌≡◌, Bool, true, List, [], ◌∷◌, ◌++◌, length, Ok, ℤ, Some, None, refl, arith, ap, sym, ◌∙◌, subst, ◌⊎◌, inl, inr, append_assoc}
use Rattle.std.specs.Prelude.{Any}
use Rattle.std.specs.List.{AllByRecursion}
use Rattle.ice_defs.specs.declared.Mark.TheVariants.{Must, Never}
use Rattle.ice_defs.specs.Tree.{Tree}
use Rattle.ice_defs.specs.Set.{Weights}
use Rattle.ice_defs.specs.Trade.{Assignment}
use Rattle.ice_defs.specs.Derived.{Means, flags_of}
use Rattle.ice_defs.specs.Steps.{Step, branch, leaf, Side, with_mark, sides_after, steps_with_sides}
use Rattle.ice_defs.specs.Log.{IsFreeNode, ReadsBy, branches, closes, PassesBy}
use Rattle.ice_defs.specs.Sweep.{IsEarned, EarnsStep, LeavesEarnedAt, LeavesEarned}
use Rattle.ice_refute.specs.Laws.{CountsBy, CountsUpTo}
use Rattle.ice_search_log.specs.Parts.{Put, Split, Part, part_at, side_at, steps_from, steps_of, log_of, never_stops}
use Rattle.ice_search_log.specs.Searching.{IsSplit, IsChild, IsSearch}
use Rattle.ice_search_log.specs.Laws.{ClosesAll, TreeLogPasses, TreeLogIsEarned, TreeLogLeaves}
use Rattle.ice_search_log.proofs.Sides.{side_at-root}
use Rattle.ice_search_log.proofs.Written.{by_parts, steps_of-more}
use Rattle.ice_search_log.proofs.Covering.{later, as_wanted}

append_none : {X : Type 0} (xs : List X) → xs ++ [] ≡ xs
append_none [] = refl
append_none (x ∷ xs) = ap (λ ys. x ∷ ys) (append_none xs)

module _ (means : Means) (ts : List Tree) (exact : List Bool) (ws : List Weights) (start : Side) (first : Assignment) (parts : List Part) (is : IsSearch means ts exact ws start first parts) where
  module _ (stops : Part → Bool) (target : ℤ) (low : ClosesAll stops parts target) where
    abbrev ReadsPart : ℕ → List Step → Type 0
    ReadsPart k log = (rest : List Step) → ReadsBy means ts exact ws target (side_at start parts k) (log ++ rest) (Ok rest)

    read_leaf : (k : ℕ) → k < length parts → (stops (part_at parts k) ≡ true) ⊎ ((part_at parts k).split ≡ None) → ReadsPart k (leaf (part_at parts k).m ∷ [])
    read_leaf k l end rest = closes (is.each k l).signs (is.each k l).bound (low k l end)

    read_split : (k : ℕ) (s : Split) (xs ys : List Step) → k < length parts → (part_at parts k).split ≡ Some s → ReadsPart s.must xs → ReadsPart (suc s.must) ys
        → ReadsPart k (branch s.bidder s.node ∷ xs ++ ys)
    read_split k s xs ys l has must never rest =
        let split = is.splits k s l has in
        subst (λ log. ReadsBy means ts exact ws target (side_at start parts k) (branch s.bidder s.node ∷ log) (Ok rest)) (sym (append_assoc xs ys rest))
        (branches split.free
        (subst (λ side. ReadsBy means ts exact ws target side (xs ++ (ys ++ rest)) (Ok (ys ++ rest))) split.must (must (ys ++ rest)))
        (subst (λ side. ReadsBy means ts exact ws target side (ys ++ rest) (Ok rest)) split.never (never rest)))

    passes : PassesBy means ts exact ws target start (log_of stops parts)
    passes =
        subst (λ side. ReadsBy means ts exact ws target side (log_of stops parts) (Ok [])) (side_at-root start parts is.root)
        (subst (λ log. ReadsBy means ts exact ws target (side_at start parts 0) log (Ok [])) (append_none (log_of stops parts))
        (by_parts stops parts ReadsPart (later means ts exact ws start first parts is) read_leaf read_split (length parts - 0) 0 is.root (omega arith) []))

  abbrev AllEarned : List Side → List Step → Type 0
  AllEarned sides log = AllByRecursion (λ p. EarnsStep ts exact ws start first p.0 p.1) (steps_with_sides sides log)

  abbrev EarnsPart : ℕ → List Step → Type 0
  EarnsPart k log = (more : List Side) (rest : List Step) → AllEarned more rest → AllEarned (side_at start parts k ∷ more) (log ++ rest)

  module _ (stops : Part → Bool) where
    earn_leaf : (k : ℕ) → k < length parts → (stops (part_at parts k) ≡ true) ⊎ ((part_at parts k).split ≡ None) → EarnsPart k (leaf (part_at parts k).m ∷ [])
    earn_leaf k l end more rest all = (tt, all)

    earn_split : (k : ℕ) (s : Split) (xs ys : List Step) → k < length parts → (part_at parts k).split ≡ Some s → EarnsPart s.must xs → EarnsPart (suc s.must) ys
        → EarnsPart k (branch s.bidder s.node ∷ xs ++ ys)
    earn_split k s xs ys l has must never more rest all =
        let split = is.splits k s l has in
        let second = subst (λ side. AllEarned (side ∷ more) (ys ++ rest)) split.never (never more rest all) in
        let both = subst (λ side. AllEarned (side ∷ with_mark (side_at start parts k) s.bidder s.node Never ∷ more) (xs ++ (ys ++ rest))) split.must (must (with_mark (side_at start parts k) s.bidder s.node Never ∷ more) (ys ++ rest) second) in
        (split.earned, subst (AllEarned (with_mark (side_at start parts k) s.bidder s.node Must ∷ with_mark (side_at start parts k) s.bidder s.node Never ∷ more)) (sym (append_assoc xs ys rest)) both)

    earned : AllEarned (start ∷ []) (log_of stops parts)
    earned =
        subst (λ side. AllEarned (side ∷ []) (log_of stops parts)) (side_at-root start parts is.root)
        (subst (AllEarned (side_at start parts 0 ∷ [])) (append_none (log_of stops parts))
        (by_parts stops parts EarnsPart (later means ts exact ws start first parts is) earn_leaf earn_split (length parts - 0) 0 is.root (omega arith) [] [] tt))

    -- what holds of each branch step and of each part's leaf holds of all steps
    module _ (P : Step → Type 0) (on_branch : (b n : ℕ) → P (branch b n)) (on_leaf : (k : ℕ) → k < length parts → P (leaf (part_at parts k).m)) where
      abbrev HoldsPart : ℕ → List Step → Type 0
      HoldsPart k log = (rest : List Step) → AllByRecursion P rest → AllByRecursion P (log ++ rest)

      hold_split : (k : ℕ) (s : Split) (xs ys : List Step) → k < length parts → (part_at parts k).split ≡ Some s → HoldsPart s.must xs → HoldsPart (suc s.must) ys
          → HoldsPart k (branch s.bidder s.node ∷ xs ++ ys)
      hold_split k s xs ys l has must never rest all = (on_branch s.bidder s.node, subst (AllByRecursion P) (sym (append_assoc xs ys rest)) (must (ys ++ rest) (never rest all)))

      pub all_hold : AllByRecursion P (log_of stops parts)
      all_hold =
          subst (AllByRecursion P) (append_none (log_of stops parts))
          (by_parts stops parts HoldsPart (later means ts exact ws start first parts is) (λ k l end rest all. (on_leaf k l, all)) hold_split (length parts - 0) 0 is.root (omega arith) [] tt)

  -- ---- an earned branch that is left

  abbrev LeavesAny : List Side → List Step → Type 0
  LeavesAny sides log = Any (λ p. LeavesEarnedAt ts exact ws start first p.0 p.1) (steps_with_sides sides log)

  any_later : (side : Side) (more : List Side) (step : Step) (rest : List Step) → LeavesAny (sides_after (side ∷ more) step) rest → LeavesAny (side ∷ more) (step ∷ rest)
  any_later side more step rest (k, x, l, e, p) = (suc k, x, omega (arith, l), e, p)

  -- a part's steps pass over what its later sides leave
  abbrev SkipsPart : ℕ → List Step → Type 0
  SkipsPart k log = (more : List Side) (rest : List Step) → LeavesAny more rest → LeavesAny (side_at start parts k ∷ more) (log ++ rest)

  skip_split : (k : ℕ) (s : Split) (xs ys : List Step) → k < length parts → (part_at parts k).split ≡ Some s → SkipsPart s.must xs → SkipsPart (suc s.must) ys
      → SkipsPart k (branch s.bidder s.node ∷ xs ++ ys)
  skip_split k s xs ys l has must never more rest any =
      let split = is.splits k s l has in
      let second = subst (λ side. LeavesAny (side ∷ more) (ys ++ rest)) split.never (never more rest any) in
      let both = subst (λ side. LeavesAny (side ∷ with_mark (side_at start parts k) s.bidder s.node Never ∷ more) (xs ++ (ys ++ rest))) split.must (must (with_mark (side_at start parts k) s.bidder s.node Never ∷ more) (ys ++ rest) second) in
      any_later (side_at start parts k) more (branch s.bidder s.node) ((xs ++ ys) ++ rest)
      (subst (LeavesAny (with_mark (side_at start parts k) s.bidder s.node Must ∷ with_mark (side_at start parts k) s.bidder s.node Never ∷ more)) (sym (append_assoc xs ys rest)) both)

  skips : (k : ℕ) → k < length parts → SkipsPart k (steps_of never_stops parts k)
  skips k l =
      by_parts never_stops parts SkipsPart (later means ts exact ws start first parts is)
      (λ k l end more rest any. any_later (side_at start parts k) more (leaf (part_at parts k).m) rest any)
      skip_split _ k l (omega (arith, l))

  -- a part's steps leave one
  abbrev LeavesPart : ℕ → Type 0
  LeavesPart k = (more : List Side) (rest : List Step) → LeavesAny (side_at start parts k ∷ more) (steps_of never_stops parts k ++ rest)

  leaves_here : (k b n : ℕ) → k < length parts → (part_at parts k).split ≡ None → IsFreeNode ts (side_at start parts k) b n → IsEarned ts exact ws start first (side_at start parts k) b n
      → LeavesPart k
  leaves_here k b n l whole free earned more rest =
      subst (λ log. LeavesAny (side_at start parts k ∷ more) (log ++ rest)) (sym (written k l whole)) (0, (side_at start parts k, leaf (part_at parts k).m), omega arith, refl, (b, n, free, earned))
    where
      written : (k : ℕ) → k < length parts → (part_at parts k).split ≡ None → steps_of never_stops parts k ≡ leaf (part_at parts k).m ∷ []
      written k l whole =
          steps_of-more never_stops parts (later means ts exact ws start first parts is) k l
          ∙ ap (λ o. steps_from (part_at parts k).m o (steps_of never_stops parts)) whole

  -- a part's steps leave what a child's do
  leaves_above : (k : ℕ) (s : Split) (j : ℕ) → k < length parts → (part_at parts k).split ≡ Some s → (j ≡ s.must) ⊎ (j ≡ suc s.must) → LeavesPart j → LeavesPart k
  leaves_above k s j l has one leaves more rest =
      let split = is.splits k s l has in
      let written = steps_of-more never_stops parts (later means ts exact ws start first parts is) k l ∙ ap (λ o. steps_from (part_at parts k).m o (steps_of never_stops parts)) has in
      pass (steps_of never_stops parts s.must) (steps_of never_stops parts (suc s.must)) split written refl refl one
    where
      pass : (xs ys : List Step) → IsSplit ts exact ws start first parts k s → steps_of never_stops parts k ≡ branch s.bidder s.node ∷ xs ++ ys
          → steps_of never_stops parts s.must ≡ xs → steps_of never_stops parts (suc s.must) ≡ ys → (j ≡ s.must) ⊎ (j ≡ suc s.must)
          → LeavesAny (side_at start parts k ∷ more) (steps_of never_stops parts k ++ rest)
      pass xs ys split written is_xs is_ys one =
          subst (λ log. LeavesAny (side_at start parts k ∷ more) (log ++ rest)) (sym written)
          (any_later (side_at start parts k) more (branch s.bidder s.node) ((xs ++ ys) ++ rest)
          (subst (LeavesAny (with_mark (side_at start parts k) s.bidder s.node Must ∷ with_mark (side_at start parts k) s.bidder s.node Never ∷ more)) (sym (append_assoc xs ys rest))
          (subst (λ side. LeavesAny (side ∷ with_mark (side_at start parts k) s.bidder s.node Never ∷ more) (xs ++ (ys ++ rest))) split.must
          (subst (λ log. LeavesAny (side_at start parts s.must ∷ with_mark (side_at start parts k) s.bidder s.node Never ∷ more) (log ++ (ys ++ rest))) is_xs (by one)))))
        where
          by : (j ≡ s.must) ⊎ (j ≡ suc s.must)
              → LeavesAny (side_at start parts s.must ∷ with_mark (side_at start parts k) s.bidder s.node Never ∷ more) (steps_of never_stops parts s.must ++ (ys ++ rest))
          by (inl e) = (subst LeavesPart e leaves) (with_mark (side_at start parts k) s.bidder s.node Never ∷ more) (ys ++ rest)
          by (inr e) =
              skips s.must (omega (arith, split.inside)) (with_mark (side_at start parts k) s.bidder s.node Never ∷ more) (ys ++ rest)
              (subst (λ side. LeavesAny (side ∷ more) (ys ++ rest)) split.never
              (subst (λ log. LeavesAny (side_at start parts (suc s.must) ∷ more) (log ++ rest)) is_ys ((subst LeavesPart e leaves) more rest)))

  climbs : (n k : ℕ) → k < n → k < length parts → LeavesPart k → LeavesPart 0
  climbs zero k h l leaves = absurd (omega (arith, h))
  climbs (suc n) zero h l leaves = leaves
  climbs (suc n) (suc k) h l leaves = by (part_at parts (suc k)).put (is.child (suc k) (omega arith) l) (λ j h' l' there. climbs n j h' l' there)
    where
      by : (put : Put) → IsChild ts exact ws start first parts (suc k) put → ((j : ℕ) → j < n → j < length parts → LeavesPart j → LeavesPart 0) → LeavesPart 0
      by put child climb =
          let earlier : put.above < suc k = child.earlier in
          climb put.above (omega (arith, h, earlier)) (omega (arith, l, earlier)) (leaves_above put.above child.split (suc k) (omega (arith, l, earlier)) child.has (number_of child.one) leaves)
        where
          number_of : ((suc k ≡ child.split.must) × (put.mark ≡ Must)) ⊎ ((suc k ≡ suc child.split.must) × (put.mark ≡ Never)) → (suc k ≡ child.split.must) ⊎ (suc k ≡ suc child.split.must)
          number_of (inl is) = inl is.0
          number_of (inr is) = inr is.0

  leaves_all : (k b n : ℕ) → k < length parts → (part_at parts k).split ≡ None → IsFreeNode ts (side_at start parts k) b n → IsEarned ts exact ws start first (side_at start parts k) b n
      → LeavesEarned ts exact ws start first (log_of never_stops parts)
  leaves_all k b n l whole free earned =
      subst (λ side. LeavesAny (side ∷ []) (log_of never_stops parts)) (side_at-root start parts is.root)
      (subst (LeavesAny (side_at start parts 0 ∷ [])) (append_none (log_of never_stops parts)) (climbs (suc k) k (omega arith) l (leaves_here k b n l whole free earned) [] []))

pub tree_log_passes : TreeLogPasses
tree_log_passes means ts exact ws start first parts stops target is low = passes means ts exact ws start first parts is stops target low

pub tree_log_is_earned : TreeLogIsEarned
tree_log_is_earned means ts exact ws start first parts stops is = (
  earned means ts exact ws start first parts is stops,
  all_hold means ts exact ws start first parts is stops (CountsBy means exact) (λ b n. tt) (λ k l. (as_wanted means exact (part_at parts k).m (is.each k l).counts).0),
  all_hold means ts exact ws start first parts is stops (CountsUpTo (length (flags_of means exact))) (λ b n. tt) (λ k l. (as_wanted means exact (part_at parts k).m (is.each k l).counts).1),
)

pub tree_log_leaves : TreeLogLeaves
tree_log_leaves means ts exact ws start first parts k b n is l whole free earned = leaves_all means ts exact ws start first parts is k b n l whole free earned
