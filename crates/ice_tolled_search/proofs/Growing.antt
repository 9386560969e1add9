-- A log that grows by steps that are taken.
use Rattle.std.proofs.Common.{ℕ, suc, ◌+◌, ◌<◌, ◌≡◌, Bool, true, false, List, [], ◌∷◌, ◌++◌, length, ℤ, arith, ap, sym, ◌∙◌, subst, refl, append_assoc, append-nil}
use Rattle.std.specs.List.{AllByRecursion}
use Rattle.ice_defs.specs.Tree.{Tree}
use Rattle.ice_defs.specs.Set.{Weights}
use Rattle.ice_defs.specs.Derived.{Derived, with_derived}
use Rattle.ice_defs.specs.Steps.{Step, branch, leaf, dead, Side, sides_after, steps_with_sides, branch_count}
use Rattle.ice_refute.specs.Laws.{CountsUpTo}
use Rattle.ice_defs.specs.Fixing.{Fixing}
use Rattle.ice_defs.specs.Conditions.{AreFixingsOf}
use Rattle.ice_refute.specs.Waiting.{nodes_of}
use Rattle.ice_refute.proofs.Reading.{Stands, stands_at_start, stands_more, stands_closed}
use Rattle.ice_tolled_search.specs.Pass.{IsWorthStep, IsTaken, IsWhole}
use Rattle.ice_tolled_search.specs.Turn.{IsTurn}

counted : (step : Step) (rest : List Step) → branch_count (step ∷ rest) ≡ branch_count rest + branch_count (step ∷ [])
counted (branch b n) rest = refl
counted (leaf m) rest = omega (arith)
counted (dead b) rest = omega (arith)

-- marks of trees are as many as their nodes
pub nodes_of_fixings : (ts : List Tree) (xs : List Fixing) → AreFixingsOf ts xs → nodes_of xs ≡ nodes_of ts
nodes_of_fixings [] [] are = refl
nodes_of_fixings [] (x ∷ xs) are = absurd (omega (arith, are.same_length))
nodes_of_fixings (t ∷ ts) [] are = absurd (omega (arith, are.same_length))
nodes_of_fixings (t ∷ ts) (x ∷ xs) are =
    ap (λ k. k ∷ nodes_of xs) (are.nodes 0 (omega arith))
    ∙ ap (λ r. length t ∷ r) (nodes_of_fixings ts xs (record { same_length = omega (arith, are.same_length); nodes = λ b h. are.nodes (suc b) (omega (arith, h)) }))

module _ (ds : List Derived) (ts : List Tree) (exact : List Bool) (ws : List Weights) (value : ℤ) (start : Side) where
  -- whatever steps close the open sides, the log with them closes the start; so it is with what its
  -- branches are worth, and with the counts
  pub record Grows (log : List Step) (sides : List Side) (used : ℕ) : Type 0 where
    pub stands : (rest : List Step) → Stands (with_derived ds) ts exact ws value start (log ++ rest) sides rest
    pub worth : (rest : List Step) → AllByRecursion (λ p. IsWorthStep ds ts exact ws value p.0 p.1) (steps_with_sides sides rest)
        → AllByRecursion (λ p. IsWorthStep ds ts exact ws value p.0 p.1) (steps_with_sides (start ∷ []) (log ++ rest))
    pub counts : (rest : List Step) → AllByRecursion (CountsUpTo (length exact + length ds)) rest
        → AllByRecursion (CountsUpTo (length exact + length ds)) (log ++ rest)
    pub branches : (rest : List Step) → branch_count (log ++ rest) ≡ branch_count rest + used

  pub grows_at_start : Grows [] (start ∷ []) 0
  grows_at_start = record {
    stands = λ rest. stands_at_start (with_derived ds) ts exact ws value start rest;
    worth = λ rest all. all;
    counts = λ rest all. all;
    branches = λ rest. omega (arith);
  }

  pub grows_more : (log : List Step) (side : Side) (sides : List Side) (used more : ℕ) (new_sides : List Side) (new_log : List Step)
      → Grows log (side ∷ sides) used → IsTaken ds ts exact ws value more (side ∷ sides) new_sides log new_log → Grows new_log new_sides (used + more)
  grows_more log side sides used more new_sides new_log is taken =
      let step = taken.step in
      subst (λ l. Grows l new_sides (used + more)) (sym taken.log) (subst (λ s. Grows (log ++ step ∷ []) s (used + more)) (sym taken.sides) record {
        stands = λ rest. subst (λ l. Stands (with_derived ds) ts exact ws value start l (sides_after (side ∷ sides) step) rest) (sym (append_assoc log (step ∷ []) rest))
            (stands_more (with_derived ds) ts exact ws value start (log ++ step ∷ rest) side sides step rest taken.passes (is.stands (step ∷ rest)));
        worth = λ rest all. subst (λ l. AllByRecursion (λ p. IsWorthStep ds ts exact ws value p.0 p.1) (steps_with_sides (start ∷ []) l)) (sym (append_assoc log (step ∷ []) rest))
            (is.worth (step ∷ rest) (taken.worth, all));
        counts = λ rest all. subst (AllByRecursion (CountsUpTo (length exact + length ds))) (sym (append_assoc log (step ∷ []) rest)) (is.counts (step ∷ rest) (taken.counts, all));
        branches = λ rest. omega (arith, ap branch_count (append_assoc log (step ∷ []) rest), is.branches (step ∷ rest), counted step rest, taken.branches);
      })

  pub grown_whole : (log : List Step) (used : ℕ) → Grows log [] used → IsWhole ds ts exact ws value start log × (branch_count log ≡ used)
  grown_whole log used is =
      let e = append-nil log in (
        record {
          passes = stands_closed (with_derived ds) ts exact ws value start log (subst (λ l. Stands (with_derived ds) ts exact ws value start l [] []) e (is.stands []));
          worth = subst (λ l. AllByRecursion (λ p. IsWorthStep ds ts exact ws value p.0 p.1) (steps_with_sides (start ∷ []) l)) e (is.worth [] tt);
          counts = subst (AllByRecursion (CountsUpTo (length exact + length ds))) e (is.counts [] tt);
        },
        omega (arith, ap branch_count e, is.branches []),
      )

  pub grows_begun : (log : List Step) (sides : List Side) → log ≡ [] → sides ≡ start ∷ [] → Grows log sides 0
  grows_begun log sides none one = subst (λ l. Grows l sides 0) (sym none) (subst (λ s. Grows [] s 0) (sym one) grows_at_start)

  grows_taken : (log : List Step) (sides : List Side) (used more : ℕ) (new_sides : List Side) (new_log : List Step)
      → Grows log sides used → IsTaken ds ts exact ws value more sides new_sides log new_log → Grows new_log new_sides (used + more)
  grows_taken log [] used more new_sides new_log is taken = absurd (omega (arith, taken.opened))
  grows_taken log (side ∷ sides) used more new_sides new_log is taken = grows_more log side sides used more new_sides new_log is taken

  -- a step is taken by goods that are the same
  pub grows_turn : (given : List Derived) (room : List Bool) (log : List Step) (sides : List Side) (used more : ℕ) (new_sides : List Side) (new_log : List Step) (said : Bool)
      → given ≡ ds → room ≡ exact → said ≡ true → Grows log sides used → IsTurn given ts room ws value more sides new_sides log new_log said → Grows new_log new_sides (used + more)
  grows_turn given room log sides used more new_sides new_log said same same_exact e is turn =
      grows_taken log sides used more new_sides new_log is
      (subst (λ d. IsTaken d ts exact ws value more sides new_sides log new_log) same
      (subst (λ r. IsTaken given ts r ws value more sides new_sides log new_log) same_exact
      (subst (λ b. IsTurn given ts room ws value more sides new_sides log new_log b) e turn)))

  -- no step is taken
  pub grows_idle : (given : List Derived) (room : List Bool) (log : List Step) (sides : List Side) (used more : ℕ) (new_sides : List Side) (new_log : List Step) (said : Bool)
      → said ≡ false → Grows log sides used → IsTurn given ts room ws value more sides new_sides log new_log said → Grows new_log new_sides used
  grows_idle given room log sides used more new_sides new_log said e is turn =
      let (same_sides, same_log) = subst (λ b. IsTurn given ts room ws value more sides new_sides log new_log b) e turn in
      subst (λ l. Grows l new_sides used) (sym same_log) (subst (λ s. Grows log s used) (sym same_sides) is)

  pub idle_length : (given : List Derived) (room : List Bool) (log : List Step) (sides : List Side) (more : ℕ) (new_sides : List Side) (new_log : List Step) (said : Bool)
      → said ≡ false → IsTurn given ts room ws value more sides new_sides log new_log said → length new_sides ≡ length sides
  idle_length given room log sides more new_sides new_log said e turn =
      let (same_sides, same_log) = subst (λ b. IsTurn given ts room ws value more sides new_sides log new_log b) e turn in
      ap length same_sides

  taken_length : (used : ℕ) (sides : List Side) (step : Step) → 0 < length sides → branch_count (step ∷ []) ≡ used → length (sides_after sides step) + 1 ≡ length sides + (used + used)
  taken_length used [] step some e = absurd (omega (arith, some))
  taken_length used (side ∷ sides) (branch b n) some e = omega (arith, e)
  taken_length used (side ∷ sides) (leaf m) some e = omega (arith, e)
  taken_length used (side ∷ sides) (dead b) some e = omega (arith, e)

  -- a branch opens one side more, and another step one fewer
  pub turn_length : (given : List Derived) (room : List Bool) (log : List Step) (sides : List Side) (used : ℕ) (new_sides : List Side) (new_log : List Step) (said : Bool)
      → said ≡ true → IsTurn given ts room ws value used sides new_sides log new_log said → length new_sides + 1 ≡ length sides + (used + used)
  turn_length given room log sides used new_sides new_log said e turn =
      let taken : IsTaken given ts room ws value used sides new_sides log new_log = subst (λ b. IsTurn given ts room ws value used sides new_sides log new_log b) e turn in
      omega (arith, ap length taken.sides, taken_length used sides taken.step taken.opened taken.branches)
