-- The steps of a part: by the steps of its children.
use Rattle.std.proofs.Common.{ℕ, zero, suc, ◌+◌, ◌-◌, ◌<◌, ◌≤◌, ◌≡◌, Bool, true, false, List, [], ◌∷◌, ◌++◌, length, Option, Some, None, refl, arith, ap, ◌∙◌, ◌⊎◌, inl, inr}
use Rattle.std.proofs.lemmas.Option.{none-some}
use Rattle.ice_defs.specs.Bound.{Multipliers}
use Rattle.ice_defs.specs.Steps.{Step, branch, leaf}
use Rattle.ice_search_log.specs.Parts.{Split, Part, part_at, AreLater, steps_from, split_unless, steps_down, steps_of}

pub split_unless-Some : (b : Bool) (o : Option Split) (s : Split) → split_unless b o ≡ Some s → o ≡ Some s
split_unless-Some true o s e = absurd (none-some s e)
split_unless-Some false o s e = e

pub split_unless-None : (b : Bool) (o : Option Split) → split_unless b o ≡ None → (b ≡ true) ⊎ (o ≡ None)
split_unless-None true o e = inl refl
split_unless-None false o e = inr e

-- what holds of the leaves, and of a part where it holds of its children, holds of all parts
pub by_parts : (stops : Part → Bool) (parts : List Part) (P : ℕ → List Step → Type 0) → AreLater parts
    → ((k : ℕ) → k < length parts → (stops (part_at parts k) ≡ true) ⊎ ((part_at parts k).split ≡ None) → P k (leaf (part_at parts k).m ∷ []))
    → ((k : ℕ) (s : Split) (xs ys : List Step) → k < length parts → (part_at parts k).split ≡ Some s → P s.must xs → P (suc s.must) ys → P k (branch s.bidder s.node ∷ xs ++ ys))
    → (depth k : ℕ) → k < length parts → length parts ≤ depth + k → P k (steps_down stops parts depth k)
by_parts stops parts P later on_leaf on_split zero k l deep = absurd (omega (arith, l, deep))
by_parts stops parts P later on_leaf on_split (suc depth) k l deep =
    by (split_unless (stops (part_at parts k)) (part_at parts k).split) refl (λ j l' deep'. by_parts stops parts P later on_leaf on_split depth j l' deep')
  where
    by : (o : Option Split) → split_unless (stops (part_at parts k)) (part_at parts k).split ≡ o
        → ((j : ℕ) → j < length parts → length parts ≤ depth + j → P j (steps_down stops parts depth j))
        → P k (steps_from (part_at parts k).m o (steps_down stops parts depth))
    by None e down = on_leaf k l (split_unless-None _ _ e)
    by (Some s) e down =
        let has : (part_at parts k).split ≡ Some s = split_unless-Some (stops (part_at parts k)) (part_at parts k).split s e in
        let after : (k < s.must) × (suc s.must < length parts) = later k s l has in
        on_split k s _ _ l has (down s.must (omega (arith, after)) (omega (arith, deep, after))) (down (suc s.must) after.1 (omega (arith, deep, after)))

steps_from-same : (m : Multipliers) (o : Option Split) (one other : ℕ → List Step)
    → ((s : Split) → o ≡ Some s → (one s.must ≡ other s.must) × (one (suc s.must) ≡ other (suc s.must))) → steps_from m o one ≡ steps_from m o other
steps_from-same m None one other each = refl
steps_from-same m (Some s) one other each =
    ap (λ xs. branch s.bidder s.node ∷ xs ++ one (suc s.must)) (each s refl).0 ∙ ap (λ ys. branch s.bidder s.node ∷ other s.must ++ ys) (each s refl).1

-- any depth that is enough gives the same steps
pub steps_down-same : (stops : Part → Bool) (parts : List Part) → AreLater parts → (d e k : ℕ) → k < length parts → length parts ≤ d + k → length parts ≤ e + k
    → steps_down stops parts d k ≡ steps_down stops parts e k
steps_down-same stops parts later zero e k l deep deep' = absurd (omega (arith, l, deep))
steps_down-same stops parts later (suc d) zero k l deep deep' = absurd (omega (arith, l, deep'))
steps_down-same stops parts later (suc d) (suc e) k l deep deep' =
    steps_from-same (part_at parts k).m (split_unless (stops (part_at parts k)) (part_at parts k).split) (steps_down stops parts d) (steps_down stops parts e)
    (λ s is. let after : (k < s.must) × (suc s.must < length parts) = later k s l (split_unless-Some (stops (part_at parts k)) (part_at parts k).split s is) in (
      steps_down-same stops parts later d e s.must (omega (arith, after.0, after.1)) (omega (arith, deep, after.0)) (omega (arith, deep', after.0)),
      steps_down-same stops parts later d e (suc s.must) after.1 (omega (arith, deep, after.0)) (omega (arith, deep', after.0)),
    ))

-- a part's steps by those of its children
pub steps_of-more : (stops : Part → Bool) (parts : List Part) → AreLater parts → (k : ℕ) → k < length parts
    → steps_of stops parts k ≡ steps_from (part_at parts k).m (split_unless (stops (part_at parts k)) (part_at parts k).split) (steps_of stops parts)
steps_of-more stops parts later k l =
    steps_down-same stops parts later (length parts - k) (suc (length parts)) k l (omega (arith, l)) (omega arith)
    ∙ steps_from-same (part_at parts k).m (split_unless (stops (part_at parts k)) (part_at parts k).split) (steps_down stops parts (length parts)) (steps_of stops parts)
    (λ s is. let after : (k < s.must) × (suc s.must < length parts) = later k s l (split_unless-Some (stops (part_at parts k)) (part_at parts k).split s is) in (
      steps_down-same stops parts later (length parts) (length parts - s.must) s.must (omega (arith, after.1)) (omega arith) (omega (arith, after.1)),
      steps_down-same stops parts later (length parts) (length parts - suc s.must) (suc s.must) after.1 (omega arith) (omega (arith, after.1)),
    ))
