-- The branch steps of the log are as many as the parts that are split.
use Rattle.std.proofs.Common.{ℕ, zero, suc, ◌+◌, ◌-◌, ◌*◌, ◌<◌, ◌≤◌, ◌≡◌, Bool, true, false, List, [], ◌∷◌, ◌++◌, length, ℤ, pos, ◌+ℤ◌, Option, Some, None, refl, arith, ap, ◌∙◌}
use Rattle.std.proofs.lemmas.Int.{ints}
use Rattle.ice_defs.specs.Sum.{sum_below, sum_over}
use Rattle.ice_defs.proofs.Sums.{sum_below-same, sum_below-front}
use Rattle.ice_defs.specs.Bound.{Multipliers}
use Rattle.ice_defs.specs.Steps.{Step, branch, leaf, dead, branch_count}
use Rattle.ice_search_log.specs.Parts.{Split, Part, part_at, AreLater, steps_from, split_unless, steps_down, steps_of, log_of, never_stops, number_split, split_count}
use Rattle.ice_search_log.specs.Searching.{over_children, IsPaired}
use Rattle.ice_search_log.specs.Laws.{BranchesAreSplits}
use Rattle.ice_search_log.proofs.Written.{steps_of-more}
use Rattle.ice_search_log.proofs.Covering.{later}

branch_count-append : (xs ys : List Step) → branch_count (xs ++ ys) ≡ branch_count xs + branch_count ys
branch_count-append [] ys = omega arith
branch_count-append (branch b n ∷ xs) ys = omega (arith, branch_count-append xs ys)
branch_count-append (leaf m ∷ xs) ys = branch_count-append xs ys
branch_count-append (dead b ∷ xs) ys = branch_count-append xs ys

-- ---- sums

sum_over-below : (h : Part → ℤ) (parts : List Part) → sum_over h parts ≡ sum_below (λ k. h (part_at parts k)) (length parts)
sum_over-below h [] = refl
sum_over-below h (p ∷ parts) = omega (arith, ints, sum_over-below h parts, sum_below-front (λ k. h (part_at (p ∷ parts) k)) (length parts))

sum_over-add : (f g : Part → ℤ) (parts : List Part) → sum_over (λ p. f p +ℤ g p) parts ≡ sum_over f parts +ℤ sum_over g parts
sum_over-add f g [] = refl
sum_over-add f g (p ∷ parts) = omega (arith, ints, sum_over-add f g parts)

sum_over-split : (parts : List Part) → sum_over (λ p. pos (number_split p.split)) parts ≡ pos (split_count parts)
sum_over-split [] = refl
sum_over-split (p ∷ parts) = omega (arith, ints, sum_over-split parts)

two_children : (o : Option Split) → over_children (λ _. pos 1) o ≡ pos (2 * number_split o)
two_children None = refl
two_children (Some s) = refl

sum_over-children : (parts : List Part) → sum_over (λ p. over_children (λ _. pos 1) p.split) parts ≡ pos (2 * split_count parts)
sum_over-children [] = refl
sum_over-children (p ∷ parts) = omega (arith, ints, sum_over-children parts, two_children p.split)

sum_below-ones : (n : ℕ) → sum_below (λ _. pos 1) n ≡ pos n
sum_below-ones zero = refl
sum_below-ones (suc n) = omega (arith, ints, sum_below-ones n)

-- ---- branches

counts_children : (m : Multipliers) (o : Option Split) (next : ℕ → List Step)
    → pos (branch_count (steps_from m o next)) ≡ pos (number_split o) +ℤ over_children (λ j. pos (branch_count (next j))) o
counts_children m None next = refl
counts_children m (Some s) next = omega (arith, ints, branch_count-append (next s.must) (next (suc s.must)))

module _ (parts : List Part) (later : AreLater parts) (paired : IsPaired parts) (root : 0 < length parts) where
  below : ℕ → ℤ
  below k = pos (branch_count (steps_of never_stops parts k))

  all_counted : branch_count (log_of never_stops parts) ≡ split_count parts
  unfolding below
  all_counted =
      let each = sum_below-same below (λ k. pos (number_split (part_at parts k).split) +ℤ over_children below (part_at parts k).split) (length parts)
      (λ k l. ap (λ log. pos (branch_count log)) (steps_of-more never_stops parts later k l) ∙ counts_children (part_at parts k).m (part_at parts k).split (steps_of never_stops parts)) in
      let listed = sum_over-below (λ p. pos (number_split p.split) +ℤ over_children below p.split) parts in
      let added = sum_over-add (λ p. pos (number_split p.split)) (λ p. over_children below p.split) parts in
      omega (arith, ints, each, listed, added, sum_over-split parts, paired below)

  two_each : length parts ≡ 2 * split_count parts + 1
  two_each = omega (arith, ints, paired (λ _. pos 1), sum_over-children parts, sum_below-ones (length parts))

fewer_from : (m : Multipliers) (b : Bool) (o : Option Split) (one other : ℕ → List Step) → ((j : ℕ) → branch_count (one j) ≤ branch_count (other j))
    → branch_count (steps_from m (split_unless b o) one) ≤ branch_count (steps_from m o other)
fewer_from m true o one other each = omega arith
fewer_from m false None one other each = omega arith
fewer_from m false (Some s) one other each =
    omega (arith, branch_count-append (one s.must) (one (suc s.must)), branch_count-append (other s.must) (other (suc s.must)), each s.must, each (suc s.must))

fewer : (stops : Part → Bool) (parts : List Part) (depth k : ℕ) → branch_count (steps_down stops parts depth k) ≤ branch_count (steps_down never_stops parts depth k)
fewer stops parts zero k = omega arith
fewer stops parts (suc depth) k =
    fewer_from (part_at parts k).m (stops (part_at parts k)) (part_at parts k).split (steps_down stops parts depth) (steps_down never_stops parts depth) (fewer stops parts depth)

pub branches_are_splits : BranchesAreSplits
branches_are_splits means ts exact ws start first parts stops is =
    let all = all_counted parts (later means ts exact ws start first parts is) is.paired is.root in (
      all,
      omega (arith, all, fewer stops parts (length parts - 0) 0),
      two_each parts (later means ts exact ws start first parts is) is.paired is.root,
    )
