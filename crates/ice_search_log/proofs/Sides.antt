-- The sides of parts: later parts and other bounds don't change them.
use Rattle.std.proofs.Common.{ℕ, zero, suc, ◌+◌, ◌<◌, ◌≡◌, List, [], ◌∷◌, ◌++◌, length, get_or, set, refl, arith, ap, ◌∙◌, length-append}
use Rattle.std.proofs.lemmas.List.{get_or_append_left, get_or_push}
use Rattle.ice_defs.specs.Steps.{Side, with_mark}
use Rattle.ice_search_log.specs.Parts.{Part, part_at, side_below, sides_from, sides_of, side_at}

length-sides_from : (sides : List Side) (parts : List Part) → length (sides_from sides parts) ≡ length sides + length parts
length-sides_from sides [] = omega arith
length-sides_from sides (p ∷ parts) = omega (arith, length-sides_from (sides ++ side_below sides p.put ∷ []) parts, length-append sides (side_below sides p.put ∷ []))

sides_from-append : (sides : List Side) (xs ys : List Part) → sides_from sides (xs ++ ys) ≡ sides_from (sides_from sides xs) ys
sides_from-append sides [] ys = refl
sides_from-append sides (p ∷ xs) ys = sides_from-append (sides ++ side_below sides p.put ∷ []) xs ys

get_or-sides_from : (sides : List Side) (parts : List Part) (k : ℕ) → k < length sides → get_or (sides_from sides parts) k [] ≡ get_or sides k []
get_or-sides_from sides [] k h = refl
get_or-sides_from sides (p ∷ parts) k h =
    let x = side_below sides p.put in
    get_or-sides_from (sides ++ x ∷ []) parts k (omega (arith, h, length-append sides (x ∷ []))) ∙ get_or_append_left sides (x ∷ []) [] k h

sides_from-set : (sides : List Side) (parts : List Part) (k : ℕ) (q : Part) → q.put ≡ (part_at parts k).put → sides_from sides (set parts k q) ≡ sides_from sides parts
sides_from-set sides [] k q e = refl
sides_from-set sides (p ∷ parts) zero q e = ap (λ put. sides_from (sides ++ side_below sides put ∷ []) parts) e
sides_from-set sides (p ∷ parts) (suc k) q e = sides_from-set (sides ++ side_below sides p.put ∷ []) parts k q e

pub length-sides_of : (start : Side) (parts : List Part) → length (sides_of start parts) ≡ length parts
length-sides_of start [] = refl
length-sides_of start (root ∷ parts) = omega (arith, length-sides_from (start ∷ []) parts)

sides_of-append : (start : Side) (xs ys : List Part) → 0 < length xs → sides_of start (xs ++ ys) ≡ sides_from (sides_of start xs) ys
sides_of-append start [] ys h = absurd (omega (arith, h))
sides_of-append start (root ∷ xs) ys h = sides_from-append (start ∷ []) xs ys

-- the first part is the start
pub side_at-root : (start : Side) (parts : List Part) → 0 < length parts → side_at start parts 0 ≡ start
side_at-root start [] h = absurd (omega (arith, h))
side_at-root start (root ∷ parts) h = get_or-sides_from (start ∷ []) parts 0 (omega arith)

-- a part with the same mark in the place of another
pub side_at-set : (start : Side) (parts : List Part) (k j : ℕ) (q : Part) → q.put ≡ (part_at parts k).put → side_at start (set parts k q) j ≡ side_at start parts j
side_at-set start parts k j q e = ap (λ sides. get_or sides j []) (all parts k e)
  where
    all : (parts : List Part) (k : ℕ) → q.put ≡ (part_at parts k).put → sides_of start (set parts k q) ≡ sides_of start parts
    all [] k e = refl
    all (root ∷ parts) zero e = refl
    all (root ∷ parts) (suc k) e = sides_from-set (start ∷ []) parts k q e

-- later parts
pub side_at-append : (start : Side) (xs ys : List Part) (k : ℕ) → k < length xs → side_at start (xs ++ ys) k ≡ side_at start xs k
side_at-append start xs ys k h =
    ap (λ sides. get_or sides k []) (sides_of-append start xs ys (omega (arith, h))) ∙ get_or-sides_from (sides_of start xs) ys k (omega (arith, h, length-sides_of start xs))

-- one part more
pub side_at-first : (start : Side) (xs : List Part) (a : Part) (ys : List Part) → 0 < length xs → side_at start (xs ++ a ∷ ys) (length xs) ≡ side_below (sides_of start xs) a.put
side_at-first start xs a ys h =
    let sides = sides_of start xs in
    let x = side_below sides a.put in
    ap (λ all. get_or all (length xs) []) (sides_of-append start xs (a ∷ ys) h)
    ∙ get_or-sides_from (sides ++ x ∷ []) ys (length xs) (omega (arith, length-sides_of start xs, length-append sides (x ∷ [])))
    ∙ get_or_push sides x [] (length xs) (length-sides_of start xs)

-- and another
pub side_at-second : (start : Side) (xs : List Part) (a b : Part) → 0 < length xs → b.put.above < length xs
    → side_at start (xs ++ a ∷ b ∷ []) (suc (length xs)) ≡ side_below (sides_of start xs) b.put
side_at-second start xs a b h l =
    let sides = sides_of start xs in
    let x = side_below sides a.put in
    let y = side_below (sides ++ x ∷ []) b.put in
    ap (λ all. get_or all (suc (length xs)) []) (sides_of-append start xs (a ∷ b ∷ []) h)
    ∙ get_or_push (sides ++ x ∷ []) y [] (suc (length xs)) (omega (arith, length-sides_of start xs, length-append sides (x ∷ [])))
    ∙ ap (λ side. with_mark side b.put.bidder b.put.node b.put.mark) (get_or_append_left sides (x ∷ []) [] b.put.above (omega (arith, l, length-sides_of start xs)))
