-- What is accepted stays so where it is tightened.
use Rattle.std.proofs.Common.{ℕ, ◌+◌, ◌-◌, ◌*◌, ◌^◌, ◌/◌, ◌<◌, ◌≤◌, ◌≡◌, List, length, ℤ, pos, negsuc, ◌+ℤ◌, ◌-ℤ◌, ◌*ℤ◌, ◌≤ℤ◌, ◌<ℤ◌, sym, subst, ap, arith, ◌∙◌, ◌⊎◌, inl, inr}
use Rattle.std.proofs.lemmas.Int.{ints}
use Rattle.std.proofs.lemmas.Nat.{shr-shr}
use Rattle.std.proofs.Math.Nat.{div-le_self, mul-div-le}
use Rattle.ice_defs.specs.Tree.{Tree}
use Rattle.ice_defs.specs.Set.{NodeSet, IsSatisfied, Weights, weight_of}
use Rattle.ice_defs.specs.Bounds.{Bounds, IsInside}
use Rattle.ice_defs.specs.Prices.{Prices}
use Rattle.ice_defs.specs.Rules.{net_at, IsBestThroughout, IsAhead, IsLoss, IsMrpar, GainsMore, Improves}
use Rattle.ice_defs.specs.Lawful.{AreBounds}
use Rattle.std.proofs.Math.IntN.{*ℤ-zero}
use Rattle.ice_defs.proofs.Products.{times-le, times_add}
use Rattle.ice_defs.proofs.Multiples.{times_cancel, one_time, times-lt}
use Rattle.ice_proxy.specs.Proposals.{width_after_halvings, proposal}
use Rattle.ice_proxy.specs.Laws.{IsTighter, TighterIsAccepted, LaterIsTighter, LaterIsAccepted, WidthsAreHalved, LargeImproveAsksNothing}
use Rattle.ice_proxy.proofs.Proposals.{proposed_bounds, weight_of-proposed_lo, weight_of-proposed_hi}
use Rattle.ice_proxy.proofs.Attempts.{loss_there}

-- a profile inside the narrow bounds lies inside the wide ones
inside_wide : (nodes k : ℕ) (wide narrow : Bounds) (v : Weights) → AreBounds nodes wide → AreBounds nodes narrow → IsTighter nodes wide narrow → IsInside k narrow v → IsInside k wide v
inside_wide nodes k wide narrow v are were tight inside = record {
  same_length = inside.same_length ∙ were.lo_count ∙ sym are.lo_count;
  low = λ n h.
      let l : n < nodes = omega (arith, h, inside.same_length, were.lo_count) in
      omega (arith, ints, inside.low n h, times-le k (weight_of wide.lo n) (weight_of narrow.lo n) (tight.low n l));
  high = λ n h.
      let l : n < nodes = omega (arith, h, inside.same_length, were.lo_count) in
      omega (arith, ints, inside.high n h, times-le k (weight_of narrow.hi n) (weight_of wide.hi n) (tight.high n l));
}

module _ (t : Tree) (p : Prices) (one other : Bounds) (are : AreBounds (length t) one) (were : AreBounds (length t) other) (tight : IsTighter (length t) one other) where
  wide : (k : ℕ) (v : Weights) → IsInside k other v → IsInside k one v
  wide k v inside = inside_wide (length t) k one other v are were tight inside

  best_tighter : (a : NodeSet) → IsBestThroughout t p one a → IsBestThroughout t p other a
  best_tighter a best k v b some inside sat = best k v b some (wide k v inside) sat

  ahead_tighter : (a s : NodeSet) → IsAhead t p one a s → IsAhead t p other a s
  ahead_tighter a s ahead k v some inside = ahead k v some (wide k v inside)

  mrpar_tighter : (s : NodeSet) → IsMrpar t p s one → IsMrpar t p s other
  mrpar_tighter s (a, sat, best, ends) = (a, sat, best_tighter a best, by ends)
    where
      by : IsBestThroughout t p one s ⊎ IsAhead t p one a s → IsBestThroughout t p other s ⊎ IsAhead t p other a s
      by (inl same) = inl (best_tighter s same)
      by (inr ahead) = inr (ahead_tighter a s ahead)

  gains_tighter : (s : NodeSet) (least : ℤ) → GainsMore t p s one least → GainsMore t p s other least
  gains_tighter s least (b, sat, more) = (b, sat, λ k v some inside. more k v some (wide k v inside))

  loss_tighter : (s : NodeSet) (left less : ℤ) → IsLoss t p s one left → IsLoss t p s other less → less ≤ℤ left
  loss_tighter s left less is was =
      let (k, v, b, some, inside, sat, e) = was.attained in
      times_cancel k less left some (omega (arith, ints, e, is.bound k v b some (wide k v inside) sat))

improves_tighter : (t : Tree) (p : Prices) (s : NodeSet) (old one other : Bounds) (improve : ℤ) → IsSatisfied t s → AreBounds (length t) one → AreBounds (length t) other → IsTighter (length t) one other
    → Improves t p s old one improve → Improves t p s old other improve
improves_tighter t p s old one other improve sat are were tight (loss, left, is, was, ends) =
    let (less, now, low) = loss_there t p other were.lo_count (λ n h. were.ordered n (omega (arith, h, were.lo_count))) s sat s sat in
    let le : less ≤ℤ left = loss_tighter t p one other are were tight s left less was now in
    (loss, less, is, now, by less low le ends)
  where
    by : (less : ℤ) → pos 0 ≤ℤ less → less ≤ℤ left → (left ≡ pos 0) ⊎ (left ≤ℤ (loss -ℤ (improve *ℤ pos p.den))) ⊎ GainsMore t p s one (loss -ℤ (improve *ℤ pos p.den))
        → (less ≡ pos 0) ⊎ (less ≤ℤ (loss -ℤ (improve *ℤ pos p.den))) ⊎ GainsMore t p s other (loss -ℤ (improve *ℤ pos p.den))
    by less low le (inl none) = inl (omega (arith, ints, low, le, none))
    by less low le (inr (inl small)) = inr (inl (omega (arith, ints, le, small)))
    by less low le (inr (inr more)) = inr (inr (gains_tighter t p one other are were tight s (loss -ℤ (improve *ℤ pos p.den)) more))

pub tighter_is_accepted : TighterIsAccepted
tighter_is_accepted t p improve s old one other sat olds are were tight (narrowed, mrpar, improves) = (
  record { uncrossed = λ n (h, less). let l : n < length t = omega (arith, h, were.lo_count) in omega (arith, ints, less, were.ordered n l); tight = λ n (h, ends). loose n (omega (arith, h, were.lo_count)) ends },
  mrpar_tighter t p one other are were tight s mrpar,
  improves_tighter t p s old one other improve sat are were tight improves,
)
  where
    loose : (n : ℕ) → n < length t → (weight_of other.lo n <ℤ weight_of old.lo n) ⊎ (weight_of old.hi n <ℤ weight_of other.hi n) → ⊥
    loose n l (inl less) = narrowed.tight n (omega (arith, l, are.lo_count), inl (omega (arith, ints, less, tight.low n l)))
    loose n l (inr less) = narrowed.tight n (omega (arith, l, are.lo_count), inr (omega (arith, ints, less, tight.high n l)))

-- ---- later attempts

halved_later : (a d : ℕ) (w : ℤ) → pos 0 ≤ℤ w → width_after_halvings (a + d) w ≤ℤ width_after_halvings a w
halved_later a d (pos n) low =
    let e : n / 2 ^ a / 2 ^ d ≡ n / 2 ^ (a + d) = shr-shr n a d in
    let le : n / 2 ^ a / 2 ^ d ≤ n / 2 ^ a = div-le_self (n / 2 ^ a) (2 ^ d) in
    omega (arith, ints, e, le)
halved_later a d (negsuc n) low = absurd (omega (arith, ints, low))

halved-le : (a b : ℕ) (w : ℤ) → a ≤ b → pos 0 ≤ℤ w → width_after_halvings b w ≤ℤ width_after_halvings a w
halved-le a b w le low =
    let e : a + (b - a) ≡ b = omega (arith, le) in
    subst (λ (c : ℕ). width_after_halvings c w ≤ℤ width_after_halvings a w) e (halved_later a (b - a) w low)

halved-times : (a : ℕ) (w : ℤ) → pos 0 ≤ℤ w → (pos (2 ^ a) *ℤ width_after_halvings a w) ≤ℤ w
halved-times a (pos n) low = let le : 2 ^ a * (n / 2 ^ a) ≤ n = mul-div-le n (2 ^ a) in omega (arith, ints, le)
halved-times a (negsuc n) low = absurd (omega (arith, ints, low))

module _ (nodes : ℕ) (old : Bounds) (truth : List ℤ) (are : AreBounds nodes old) (inside : IsInside 1 old truth) (n : ℕ) (h : n < nodes) where
  there : n < length truth
  there = omega (arith, inside.same_length, are.lo_count, h)

  low_width : pos 0 ≤ℤ (weight_of truth n -ℤ weight_of old.lo n)
  low_width = omega (arith, ints, inside.low n there, one_time (weight_of old.lo n))

  high_width : pos 0 ≤ℤ (weight_of old.hi n -ℤ weight_of truth n)
  high_width = omega (arith, ints, inside.high n there, one_time (weight_of old.hi n))

  lo_is : (a : ℕ) → weight_of (proposal old truth a).lo n ≡ weight_of truth n -ℤ width_after_halvings a (weight_of truth n -ℤ weight_of old.lo n)
  lo_is a = weight_of-proposed_lo a old.lo truth n inside.same_length (omega (arith, are.lo_count, h))

  hi_is : (a : ℕ) → weight_of (proposal old truth a).hi n ≡ weight_of truth n +ℤ width_after_halvings a (weight_of old.hi n -ℤ weight_of truth n)
  hi_is a = weight_of-proposed_hi a old.hi truth n (inside.same_length ∙ are.lo_count ∙ sym are.hi_count) (omega (arith, are.hi_count, h))

pub later_is_tighter : LaterIsTighter
later_is_tighter nodes old truth one other are inside le = record {
  low = λ n h. omega (arith, ints, lo_is nodes old truth are inside n h one, lo_is nodes old truth are inside n h other, halved-le one other (weight_of truth n -ℤ weight_of old.lo n) le (low_width nodes old truth are inside n h));
  high = λ n h. omega (arith, ints, hi_is nodes old truth are inside n h one, hi_is nodes old truth are inside n h other, halved-le one other (weight_of old.hi n -ℤ weight_of truth n) le (high_width nodes old truth are inside n h));
}

pub later_is_accepted : LaterIsAccepted
later_is_accepted p improve b truth one other sat are inside le accepted =
    tighter_is_accepted b.tree p improve b.set b.bounds (proposal b.bounds truth one) (proposal b.bounds truth other) sat are
    (proposed_bounds (length b.tree) b.bounds truth one are inside) (proposed_bounds (length b.tree) b.bounds truth other are inside)
    (later_is_tighter (length b.tree) b.bounds truth one other are inside le) accepted

pub widths_are_halved : WidthsAreHalved
widths_are_halved nodes old truth a are inside n h =
    let x : ℤ = width_after_halvings a (weight_of truth n -ℤ weight_of old.lo n) in
    let y : ℤ = width_after_halvings a (weight_of old.hi n -ℤ weight_of truth n) in
    let both : weight_of (proposal old truth a).hi n -ℤ weight_of (proposal old truth a).lo n
    ≡ width_after_halvings a (weight_of truth n -ℤ weight_of old.lo n) +ℤ width_after_halvings a (weight_of old.hi n -ℤ weight_of truth n) = omega (arith, ints, lo_is nodes old truth are inside n h a, hi_is nodes old truth are inside n h a) in
    let parts : pos (2 ^ a) *ℤ (weight_of (proposal old truth a).hi n -ℤ weight_of (proposal old truth a).lo n)
    ≡ (pos (2 ^ a) *ℤ width_after_halvings a (weight_of truth n -ℤ weight_of old.lo n)) +ℤ (pos (2 ^ a) *ℤ width_after_halvings a (weight_of old.hi n -ℤ weight_of truth n)) =
    ap (λ (z : ℤ). pos (2 ^ a) *ℤ z) both ∙ times_add (pos (2 ^ a)) (width_after_halvings a (weight_of truth n -ℤ weight_of old.lo n)) (width_after_halvings a (weight_of old.hi n -ℤ weight_of truth n)) in
    omega (arith, ints, parts, halved-times a (weight_of truth n -ℤ weight_of old.lo n) (low_width nodes old truth are inside n h), halved-times a (weight_of old.hi n -ℤ weight_of truth n) (high_width nodes old truth are inside n h))

-- ---- a required improvement above the loss

-- the set itself gains more over itself than what is left, which is negative
pub large_improve_asks_nothing : LargeImproveAsksNothing
large_improve_asks_nothing t p improve loss s old new sat are is less =
    let (left, was, low) = loss_there t p new are.lo_count (λ n h. are.ordered n (omega (arith, h, are.lo_count))) s sat s sat in
    (loss, left, is, was, inr (inr (s, sat, λ k v some inside. gains k v some)))
  where
    gains : (k : ℕ) (v : Weights) → 1 ≤ k → (pos k *ℤ (loss -ℤ (improve *ℤ pos p.den))) <ℤ (net_at t p k v s -ℤ net_at t p k v s)
    gains k v some =
        let below : (loss -ℤ (improve *ℤ pos p.den)) <ℤ pos 0 = omega (arith, ints, less) in
        omega (arith, ints, times-lt k (loss -ℤ (improve *ℤ pos p.den)) (pos 0) some below, *ℤ-zero (pos k))
