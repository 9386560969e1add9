-- How a walk is seen when its numbers change.
use Rattle.std.proofs.Common.{ℕ, ◌<◌, ◌≤◌, ◌≡◌, ◌+◌, ◌-◌, Bool, List, [], ◌∷◌, ◌++◌, length, set, replicate, ℤ, pos, refl, sym, ◌∙◌, ap, length-append}
use Rattle.std.proofs.lemmas.List.{set-append_left, set-append_right, replicate-append-replicate}
use Rattle.ice_defs.specs.Derived.{Derived}
use Rattle.ice_defs.specs.Steps.{Side}
use Rattle.ice_derivation.specs.Walks.{WalkView, begun}

-- by its parts
abbrev viewed : List Derived → ℕ → List ℕ → List Bool → List ℤ → List Side → WalkView
viewed ds most nodes exact numbers sides = record { derived = ds; most = most; nodes = nodes; exact = exact; numbers = numbers; sides = sides }

module _ (ds : List Derived) (most : ℕ) (nodes : List ℕ) (exact : List Bool) (rates tolls : List ℤ) (sides : List Side) (w : WalkView)
    (is : viewed ds most nodes exact (rates ++ tolls) sides ≡ w) where
  -- another multiplier
  pub rate_put : (new : List ℤ) (k : ℕ) (z : ℤ) → k < length rates → new ≡ set rates k z
      → viewed ds most nodes exact (new ++ tolls) sides ≡ record w { numbers = set w.numbers k z }
  rate_put new k z h e =
      ap (λ (m : List ℤ). viewed ds most nodes exact m sides) (ap (λ (r : List ℤ). r ++ tolls) e ∙ sym (set-append_left rates tolls k z h))
      ∙ ap (λ (v : WalkView). record v { numbers = set v.numbers k z }) is

  -- another toll
  pub toll_put : (goods : List Derived) (room : ℕ) (new : List ℤ) (k : ℕ) (z : ℤ) → goods ≡ ds → room ≡ most → length rates ≤ k → new ≡ set tolls (k - length rates) z
      → viewed goods room nodes exact (rates ++ new) sides ≡ record w { numbers = set w.numbers k z }
  toll_put goods room new k z same same_room h e =
      ap (λ (gs : List Derived). viewed gs room nodes exact (rates ++ new) sides) same ∙ ap (λ (r : ℕ). viewed ds r nodes exact (rates ++ new) sides) same_room
      ∙ ap (λ (m : List ℤ). viewed ds most nodes exact m sides) (ap (λ (t : List ℤ). rates ++ t) e ∙ sym (set-append_right rates tolls (length rates) k z refl h))
      ∙ ap (λ (v : WalkView). record v { numbers = set v.numbers k z }) is

  -- a log begins
  pub begun_is : (goods : List Derived) (room : ℕ) (new_nodes : List ℕ) (zero_rates zero_tolls : List ℤ) (new_sides : List Side) (start : Side) → length tolls ≡ length ds
      → goods ≡ ds → room ≡ most → new_nodes ≡ nodes → zero_rates ≡ replicate (length rates) (pos 0) → zero_tolls ≡ replicate (length ds) (pos 0) → new_sides ≡ start ∷ []
      → viewed goods room new_nodes exact (zero_rates ++ zero_tolls) new_sides ≡ begun w start
  begun_is goods room new_nodes zero_rates zero_tolls new_sides start count same same_room same_nodes zr zt opened =
      let numbers : zero_rates ++ zero_tolls ≡ replicate (length (rates ++ tolls)) (pos 0) =
      ap (λ (r : List ℤ). r ++ zero_tolls) zr ∙ ap (λ (t : List ℤ). replicate (length rates) (pos 0) ++ t) zt
      ∙ replicate-append-replicate (length rates) (length ds) (pos 0) ∙ ap (λ (n : ℕ). replicate n (pos 0)) (sym (length-append rates tolls ∙ ap (λ (n : ℕ). length rates + n) count)) in
      ap (λ (gs : List Derived). viewed gs room new_nodes exact (zero_rates ++ zero_tolls) new_sides) same
      ∙ ap (λ (r : ℕ). viewed ds r new_nodes exact (zero_rates ++ zero_tolls) new_sides) same_room
      ∙ ap (λ (ns : List ℕ). viewed ds most ns exact (zero_rates ++ zero_tolls) new_sides) same_nodes
      ∙ ap (λ (m : List ℤ). viewed ds most nodes exact m new_sides) numbers
      ∙ ap (λ (ss : List Side). viewed ds most nodes exact (replicate (length (rates ++ tolls)) (pos 0)) ss) opened
      ∙ ap (λ (v : WalkView). begun v start) is
