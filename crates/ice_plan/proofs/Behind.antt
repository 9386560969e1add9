-- Splits that stand behind those at their sides.
use Rattle.std.proofs.Common.{◌≡◌, ℕ, zero, suc, ◌+◌, List, [], ◌∷◌, ◌++◌, length, take, arith, subst}
use Rattle.std.proofs.lemmas.List.{map-append}
use Rattle.ice_plan.specs.declared.plan.Split.{Split}
use Rattle.ice_plan.specs.Arena.{IsBehind, AreBehind, node_of, nodes_of}

-- one more split, of the number m
pub behind_push : (n m : ℕ) (xs : List Split) (s : Split) → m ≡ n + length xs → AreBehind n xs → IsBehind m s → AreBehind n (xs ++ s ∷ [])
behind_push n m [] s e all one =
    let here : m ≡ n = omega (arith, e) in
    (subst (λ (k : ℕ). IsBehind k s) here one, tt)
behind_push n m (x ∷ xs) s e all one =
    let next : m ≡ suc n + length xs = omega (arith, e) in
    (all.0, behind_push (suc n) m xs s next all.1 one)

-- the first splits alone
pub behind_take : (n k : ℕ) (xs : List Split) → AreBehind n xs → AreBehind n (take k xs)
behind_take n zero xs all = tt
behind_take n (suc k) [] all = tt
behind_take n (suc k) (x ∷ xs) all = (all.0, behind_take (suc n) k xs all.1)

-- the nodes of one more split
pub nodes_push : (xs : List Split) (s : Split) → nodes_of (xs ++ s ∷ []) ≡ nodes_of xs ++ s.node ∷ []
nodes_push xs s = map-append node_of xs (s ∷ [])
