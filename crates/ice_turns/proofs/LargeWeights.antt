-- Weights that are too large, and those that aren't.
use Rattle.std.proofs.Common.{ℕ, zero, suc, ◌+◌, ◌*◌, ◌<◌, ◌≤◌, ◌≡◌, ◌⊎◌, inl, inr, ◌^◌, ◌/◌, ◌++◌, ◌&&◌, if◌then◌else◌, Bool, true, false, Some, None, List, [], ◌∷◌, length, drop, get_or, ℤ, pos, negsuc, ◌≤ℤ◌, ◌<ℤ◌, ◌*ℤ◌, arith, refl, sym, ap, subst, ◌∙◌}
use Rattle.std.specs.Prelude.{Any}
use Rattle.std.specs.List.{AllByRecursion}
use Rattle.std.proofs.lemmas.Bool.Decides.{nat_tests}
use Rattle.std.proofs.lemmas.Int.{ints}
use Rattle.std.proofs.lemmas.List.{drop_more, length-map, get_or-map, get_or_default}
use Rattle.std.proofs.Math.Nat.{mul-le-mul_left}
use Rattle.std.proofs.lemmas.Nat.{le-div}
use Rattle.ice_defs.specs.Frac.{if_fits, num_fits, den_fits}
use Rattle.ice_defs.specs.Fraction.{Fraction, whole_number, IsFraction, times, fraction_at}
use Rattle.ice_defs.specs.Program.{AreNonNegative}
use Rattle.ice_defs.specs.PricingRun.{Member, common_den, num_over}
use Rattle.ice_defs.specs.Rows.{Row}
use Rattle.ice_frac.proofs.Lowest.{positive-lowest}
use Rattle.ice_pricing_laws.specs.Weights.{lowest_of, weights_of_duals, nums_over, rows_with}
use Rattle.ice_pricing_laws.proofs.Dens.{common_den-pos}
use Rattle.ice_pricing_laws.proofs.Lists.{all-each}
use Rattle.ice_pricing_laws.proofs.Lowered.{abs-is}
use Rattle.ice_turns.specs.Large.{IsLarge, AreFitting, AreLarge}
use Rattle.ice_turns.proofs.Multiples.{lcm-left, lcm-right}

-- each denominator is at most the least common one
pub den-most : (ws : List Fraction) (i : ℕ) → AllByRecursion IsFraction ws → i < length ws → (fraction_at ws i).den ≤ common_den ws
den-most [] i are h = absurd (omega arith)
den-most (w ∷ ws) zero (is, are) h = lcm-left w.den (common_den ws) is (common_den-pos ws are)
den-most (w ∷ ws) (suc i) (is, are) h = omega (arith, den-most ws i are (omega arith), lcm-right w.den (common_den ws) is (common_den-pos ws are))

-- a numerator over a multiple of the denominator is no smaller
num-most : (d : ℕ) (w : Fraction) → IsFraction w → 0 < d → w.den ≤ d → pos 0 ≤ℤ w.num → w.num ≤ℤ num_over d w
num-most d w is some few low =
    let one : 1 ≤ d / w.den = quotient-some d w.den is few in
    let more = times-one (d / w.den) w.num one low in
    more
  where
    quotient-some : (a b : ℕ) → 0 < b → b ≤ a → 1 ≤ a / b
    quotient-some a b hb h = le-div 1 a b hb (omega (arith, h))

    times-one : (k : ℕ) (z : ℤ) → 1 ≤ k → pos 0 ≤ℤ z → z ≤ℤ (z *ℤ pos k)
    times-one k (pos n) h low = let e : n * 1 ≤ n * k = mul-le-mul_left n h in omega (arith, ints, e)
    times-one k (negsuc n) h low = absurd (omega (arith, ints, low))

-- a list with a large weight is too large
large-in : (most : ℕ) (ws : List Fraction) (i : ℕ) → AllByRecursion IsFraction ws → i < length ws → IsLarge most (fraction_at ws i) → AreLarge most ws
large-in most ws i are h (inl big) = inl (omega (arith, big, den-most ws i are h))
large-in most ws i are h (inr big) =
    let w : Fraction = fraction_at ws i in
    inr (i, w, h, get_or_default ws i w (whole_number (pos 0)) h, (let more = num-most (common_den ws) w (proper-at ws i are h) (common_den-pos ws are) (den-most ws i are h) (omega (arith, ints, big)) in omega (arith, ints, big, more)))
  where
    proper-at : (xs : List Fraction) (k : ℕ) → AllByRecursion IsFraction xs → k < length xs → IsFraction (fraction_at xs k)
    proper-at [] k ps l = absurd (omega arith)
    proper-at (x ∷ xs) zero (p, ps) l = p
    proper-at (x ∷ xs) (suc k) (p, ps) l = proper-at xs k ps (omega arith)

pub any-large : (most : ℕ) (ws : List Fraction) → AllByRecursion IsFraction ws → Any (IsLarge most) ws → AreLarge most ws
any-large most ws are (i, w, h, e, large) = large-in most ws i are h (subst (IsLarge most) (sym e ∙ get_or_default ws i w (whole_number (pos 0)) h) large)

-- ---- what is outside 128 bits

num-large : (most : ℕ) (z : ℤ) → most ≤ 2 ^ 32 → pos 0 ≤ℤ z → num_fits z ≡ false → pos most <ℤ z
num-large most (pos n) few low h = let big : 2 ^ 127 ≤ n = grind (arith, nat_tests) in omega (arith, ints, big, few)
num-large most (negsuc n) few low h = absurd (omega (arith, ints, low))

den-large : (most d : ℕ) → most ≤ 2 ^ 32 → 0 < d → den_fits d ≡ false → most < d
den-large most d few some h = let big : 2 ^ 32 < d = grind (arith, nat_tests) in omega (arith, big, few)

pub none-large : (most : ℕ) (f : Fraction) → most ≤ 2 ^ 32 → IsFraction f → pos 0 ≤ℤ f.num → if_fits f ≡ None → IsLarge most f
none-large most f few is low e = by (not-both (num_fits f.num) (den_fits f.den) f e)
  where
    not-both : (b d : Bool) (x : Fraction) → (if b && d then Some x else None) ≡ None → (b ≡ false) ⊎ (d ≡ false)
    not-both true true x e = absurd cc
    not-both true false x e = inr refl
    not-both false d x e = inl refl

    by : (num_fits f.num ≡ false) ⊎ (den_fits f.den ≡ false) → IsLarge most f
    by (inl h) = inr (num-large most f.num few low h)
    by (inr h) = inl (den-large most f.den few is h)

-- ---- the weights of duals

pub weighed-proper : (factor : ℕ) (fs : List Fraction) → AreNonNegative fs → AllByRecursion IsFraction (weights_of_duals factor fs)
weighed-proper factor [] h = tt
weighed-proper factor (f ∷ fs) (h, hs) = (positive-lowest (times (whole_number (pos factor)) f).num (times (whole_number (pos factor)) f).den (omega (arith, h.0)), weighed-proper factor fs hs)

-- one that is too large by itself
pub stop-large : (most factor : ℕ) (fs : List Fraction) (i : ℕ) (f : Fraction) → i < length fs → f ≡ get_or fs i f
    → IsLarge most (lowest_of (times (whole_number (pos factor)) f)) → Any (IsLarge most) (weights_of_duals factor fs)
stop-large most factor fs i f h is large =
    let made : Fraction → Fraction = λ y. lowest_of (times (whole_number (pos factor)) y) in
    (i, made f, omega (arith, length-map fs made, h), get_or-map made fs i f (made f) h ∙ ap made (sym is), large)

-- ---- numerators

-- one that is too large
pub stop-num : (most den : ℕ) (ws : List Fraction) (i : ℕ) (w : Fraction) → i < length ws → w ≡ get_or ws i w → pos most <ℤ num_over den w → Any (λ f. pos most <ℤ num_over den f) ws
stop-num most den ws i w h is large = (i, w, h, sym is, large)

pub nums-fit : (most den : ℕ) (ws : List Fraction) → AllByRecursion (λ w. pos 0 ≤ℤ num_over den w) ws → AllByRecursion (λ w. num_over den w ≤ℤ pos most) ws
    → AllByRecursion (λ n. n ≤ most) (nums_over den ws)
nums-fit most den [] low fits = tt
nums-fit most den (w ∷ ws) (l, low) (f, fits) = (let e = abs-is (num_over den w) l in omega (arith, ints, e, f), nums-fit most den ws low fits)

-- ---- the rows

-- the row of a member with a weight that isn't 0
abbrev pub row_of : Member → ℕ → Row
row_of m n = record { bidder = m.bidder; weight = n; set = m.set }

module _ (pool : List Member) (ns : List ℕ) (i : ℕ) (m : Member) (n : ℕ) (front total : List Row) (there : i < length pool) (same : length ns ≡ length pool)
    (member : m ≡ get_or pool i m) (weight : get_or ns i 0 ≡ n) (before : front ++ rows_with (drop i pool) (drop i ns) ≡ total) where
  here : rows_with (drop i pool) (drop i ns) ≡ rows_with (m ∷ drop (i + 1) pool) (n ∷ drop (i + 1) ns)
  here =
      ap (λ ks. rows_with (drop i pool) ks) (drop_more ns i 0 (omega (arith, same, there)) ∙ ap (λ k. k ∷ drop (i + 1) ns) weight)
      ∙ ap (λ ms. rows_with ms (n ∷ drop (i + 1) ns)) (drop_more pool i m there ∙ ap (λ x. x ∷ drop (i + 1) pool) (sym member))

-- there are no more than members
pub rows-few : (pool : List Member) (ns : List ℕ) → length (rows_with pool ns) ≤ length pool
rows-few [] ns = omega arith
rows-few (m ∷ pool) [] = omega arith
rows-few (m ∷ pool) (zero ∷ ns) = omega (arith, rows-few pool ns)
rows-few (m ∷ pool) (suc n ∷ ns) = omega (arith, rows-few pool ns)

-- and their weights are among those given
pub rows-fit : (most : ℕ) (pool : List Member) (ns : List ℕ) → AllByRecursion (λ n. n ≤ most) ns → AllByRecursion (λ (row : Row). row.weight ≤ most) (rows_with pool ns)
rows-fit most [] ns fits = tt
rows-fit most (m ∷ pool) [] fits = tt
rows-fit most (m ∷ pool) (zero ∷ ns) (f, fits) = rows-fit most pool ns fits
rows-fit most (m ∷ pool) (suc n ∷ ns) (f, fits) = (f, rows-fit most pool ns fits)

pub fitting-proper : (most : ℕ) (ws : List Fraction) → AllByRecursion (AreFitting most) ws → AllByRecursion IsFraction ws
fitting-proper most ws are = all-each (AreFitting most) IsFraction ws (λ w is. is.proper) are
