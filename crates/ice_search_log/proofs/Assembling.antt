-- A turn of the loop that writes the log.
use Rattle.std.proofs.Common.{ℕ, Bool, ◌+◌, ◌<◌, ◌≤◌, ◌≡◌, List, [], ◌∷◌, ◌++◌, length, map, get_or, Some, None, refl, arith, ap, sym, ◌∙◌, subst, ◌⊎◌, inl, inr, append_assoc, length-append, add-one}
use Rattle.std.specs.List.{AllByRecursion}
use Rattle.std.proofs.lemmas.Bool.{cases_lt}
use Rattle.std.proofs.lemmas.List.{length-map, get_or-map, get_or_append_left, get_or_push}
use Rattle.ice_defs.proofs.Lists.{all-append}
use Rattle.ice_defs.specs.Steps.{Step, branch, leaf}
use Rattle.ice_search_log.specs.Parts as parts
use Rattle.ice_search_log.specs.Parts.{AreLater, steps_left}
use Rattle.ice_search_log.proofs.Marked.{leaf_is_next, branch_is_next}
use Rattle.ice_search_log.specs.declared.part.Split.{Split}
use Rattle.ice_search_log.specs.declared.part.Part.{Part}
use Rattle.ice_search_log.specs.Code.{split_of, part_of, parts_of, IsRangedStep}

pub part_read : (list : List Part) (k : ℕ) (p : Part) → k < length list → p ≡ get_or list k p → parts.part_at (parts_of list) k ≡ part_of p
part_read list k p l e = get_or-map part_of list k p parts.no_part l ∙ ap part_of (sym e)

-- parts of the code, each of which is one of the definitions
module _ {X : Type 0} (of : X → parts.Part) (stops : parts.Part → Bool) (list : List X) (outer : List ℕ) (k : ℕ) (p : X)
    (later : AreLater (map of list)) (l : k < length list) (e : p ≡ get_or list k p) where
  there : k < length (map of list)
  there = omega (arith, l, length-map list of)

  read : parts.part_at (map of list) k ≡ of p
  read = get_or-map of list k p parts.no_part l ∙ ap of (sym e)

  -- where the part is split, unless it stops
  shown : parts.split_unless (stops (parts.part_at (map of list) k)) (parts.part_at (map of list) k).split ≡ parts.split_unless (stops (of p)) (of p).split
  shown = ap (λ q. parts.split_unless (stops q) q.split) read

  pub leaf_step : None ≡ parts.split_unless (stops (of p)) (of p).split
      → steps_left stops (map of list) (outer ++ k ∷ []) ≡ leaf (of p).m ∷ steps_left stops (map of list) outer
  leaf_step whole =
      leaf_is_next (map of list) stops outer k later there (shown ∙ sym whole)
      ∙ ap (λ q. leaf q.m ∷ steps_left stops (map of list) outer) read

  pub branch_step : (s : Split) → Some (split_of s) ≡ parts.split_unless (stops (of p)) (of p).split
      → (s.must + 1 < length list) × (steps_left stops (map of list) (outer ++ k ∷ []) ≡ branch s.bidder s.node ∷ steps_left stops (map of list) ((outer ++ (s.must + 1) ∷ []) ++ s.must ∷ []))
  branch_step s has =
      let next = branch_is_next (map of list) stops outer k (split_of s) later there (shown ∙ sym has) in (
        omega (arith, next.0, length-map list of),
        next.1 ∙ ap (λ j. branch s.bidder s.node ∷ steps_left stops (map of list) ((outer ++ j ∷ []) ++ s.must ∷ [])) (sym (add-one s.must)),
      )

pub inside_push : (xs : List ℕ) (k n : ℕ) → ((i : ℕ) → i < length xs → get_or xs i 0 < n) → k < n → (i : ℕ) → i < length (xs ++ k ∷ []) → get_or (xs ++ k ∷ []) i 0 < n
inside_push xs k n each here i l = by (cases_lt i (length xs))
  where
    by : (i < length xs) ⊎ (length xs ≤ i) → get_or (xs ++ k ∷ []) i 0 < n
    by (inl h) = omega (arith, each i h, get_or_append_left xs (k ∷ []) 0 i h)
    by (inr h) = let e : length xs ≡ i = omega (arith, h, l, length-append xs (k ∷ [])) in omega (arith, here, get_or_push xs k 0 i e)

pub inside_pop : (xs : List ℕ) (k n : ℕ) → ((i : ℕ) → i < length (xs ++ k ∷ []) → get_or (xs ++ k ∷ []) i 0 < n) → (k < n) × ((i : ℕ) → i < length xs → get_or xs i 0 < n)
inside_pop xs k n each = (
  omega (arith, each (length xs) (omega (arith, length-append xs (k ∷ []))), get_or_push xs k 0 (length xs) refl),
  λ i h. omega (arith, each i (omega (arith, h, length-append xs (k ∷ []))), get_or_append_left xs (k ∷ []) 0 i h),
)

-- a step is written, and what is left is one step less
pub turn : (log new : List Step) (left : List ℕ → List Step) (stack rest : List ℕ) (step : Step) (whole : List Step)
    → new ≡ log ++ step ∷ [] → left stack ≡ step ∷ left rest → log ++ left stack ≡ whole → new ++ left rest ≡ whole
turn log new left stack rest step whole written less before =
    ap (λ xs. xs ++ left rest) written ∙ append_assoc log (step ∷ []) (left rest) ∙ ap (λ xs. log ++ xs) (sym less) ∙ before

-- a step is added to ranged ones
pub ranged_push : (log new : List Step) (step : Step) → new ≡ log ++ step ∷ [] → AllByRecursion IsRangedStep log → IsRangedStep step → AllByRecursion IsRangedStep new
ranged_push log new step written are is = subst (AllByRecursion IsRangedStep) (sym written) (all-append IsRangedStep log (step ∷ []) are (is, tt))
