-- Where no free node leaves both children live, each bidder has one
-- set that it may still take, and a sweep closes the side.
use Rattle.std.proofs.Common.{ℕ, zero, suc, ◌^◌, ◌<◌, ◌≤◌, ◌≡◌, Bool, true, false, List, [], length, get_or, set, ℤ, pos, neg_ℤ, ◌+ℤ◌, ◌*ℤ◌, ◌≤ℤ◌, refl, arith, ap, sym, ◌∙◌, subst, ◌⊎◌, inl, inr, get_or-set_same, get_or-set_other}
use Rattle.std.proofs.lemmas.Int.{ints, by_lt_z}
use Rattle.std.proofs.lemmas.Bool.{cases_lt, cases_eq, true≢false}
use Rattle.std.proofs.lemmas.List.{length-set, length-replicate, ext_get_or}
use Rattle.ice_defs.specs.declared.Mark.{Mark}
use Rattle.ice_defs.specs.declared.Mark.TheVariants.{Free, Must, Never}
use Rattle.ice_defs.specs.Sum.{sum_below}
use Rattle.ice_defs.proofs.Sums.{sum_below-same}
use Rattle.ice_defs.specs.Tree.{Tree}
use Rattle.ice_defs.specs.Set.{NodeSet, has, Weights, value}
use Rattle.ice_defs.specs.Fixing.{Agrees, mark_of}
use Rattle.ice_defs.specs.Trade.{Assignment, tree_of, set_of, weights_of, fixing_of, total_units, total_value, is_exact, IsCovered, IsFeasible}
use Rattle.ice_defs.specs.Bound.{Multipliers, net, IsOpen, IsNetSum}
use Rattle.ice_defs.specs.Steps.{Side, with_mark}
use Rattle.ice_defs.specs.Log.{IsMultiplier}
use Rattle.ice_defs.specs.Sweep.{IsLive, IsLowest, SweepsBelow, Sweeps, idle, moves, all_zero}
use Rattle.ice_refute.proofs.Refutes.{meets_all_put}
use Rattle.ice_search_log.specs.Nodes.{HasNoNode, AreOpenSets}
use Rattle.ice_search_log.specs.Laws.{NodeIsThere}
use Rattle.ice_search_log.proofs.Swept.{nets_give_value}

-- ---- sums

-- two sums that differ in one term
sum_below-change : (f g : ℕ → ℤ) (p n : ℕ) → p < n → ((k : ℕ) → (k ≡ p → ⊥) → f k ≡ g k) → sum_below f n +ℤ g p ≡ sum_below g n +ℤ f p
sum_below-change f g p zero l same = absurd (omega (arith, l))
sum_below-change f g p (suc n) l same = by (cases_eq n p) (λ h. sum_below-change f g p n h same)
  where
    by : (n ≡ p) ⊎ (n ≡ p → ⊥) → (p < n → sum_below f n +ℤ g p ≡ sum_below g n +ℤ f p) → sum_below f (suc n) +ℤ g p ≡ sum_below g (suc n) +ℤ f p
    by (inl e) before =
        let front = sum_below-same f g n (λ k h. same k (λ e'. absurd (omega (arith, h, e, e')))) in
        omega (arith, ints, front, ap f e, ap g e)
    by (inr ne) before = omega (arith, ints, before (omega (arith, l, ne)), same n ne)

sum_below-low : (f : ℕ → ℤ) (n : ℕ) → ((k : ℕ) → k < n → pos 0 ≤ℤ f k) → pos 0 ≤ℤ sum_below f n
sum_below-low f zero each = omega (arith, ints)
sum_below-low f (suc n) each = omega (arith, ints, each n (omega arith), sum_below-low f n (λ k h. each k (omega arith)))

-- a term of a sum none of whose terms is negative
sum_below-term : (f : ℕ → ℤ) (p n : ℕ) → p < n → ((k : ℕ) → k < n → pos 0 ≤ℤ f k) → f p ≤ℤ sum_below f n
sum_below-term f p zero l each = absurd (omega (arith, l))
sum_below-term f p (suc n) l each = by (cases_eq n p) (λ h. sum_below-term f p n h (λ k h. each k (omega (arith, h))))
  where
    by : (n ≡ p) ⊎ (n ≡ p → ⊥) → (p < n → f p ≤ℤ sum_below f n) → f p ≤ℤ sum_below f (suc n)
    by (inl e) before = omega (arith, ints, ap f e, sum_below-low f n (λ k h. each k (omega arith)))
    by (inr ne) before = omega (arith, ints, before (omega (arith, l, ne)), each n (omega arith))

-- ---- goods

-- a multiplier as high or low as it may be costs much where a good isn't covered
high_cost : (e : Bool) (u t : ℤ) → ¬ IsCovered e u (pos 0) → ((other : ℤ) → IsMultiplier e other → (other *ℤ u) ≤ℤ t) → pos (2 ^ 56) ≤ℤ t
high_cost false u t not_covered most =
    by_lt_z (pos 0) u
    (λ above. let high = most (pos (2 ^ 56)) (record { low = omega (arith, ints); high = omega (arith, ints); sign = λ e. omega (arith, ints) }) in omega (arith, ints, high, above))
    (λ low. absurd (not_covered low))
high_cost true u t not_covered most =
    by_lt_z (pos 0) u
    (λ above. let high = most (pos (2 ^ 56)) (record { low = omega (arith, ints); high = omega (arith, ints); sign = λ e. omega (arith, ints) }) in omega (arith, ints, high, above))
    (λ low.
    by_lt_z u (pos 0)
    (λ below. let high = most (neg_ℤ (pos (2 ^ 56))) (record { low = omega (arith, ints); high = omega (arith, ints); sign = λ e. absurd (true≢false e) }) in omega (arith, ints, high, below))
    (λ above. absurd (not_covered (omega (arith, ints, low, above)))))

zero_is : (e : Bool) → IsMultiplier e (pos 0)
zero_is e = record { low = omega (arith, ints); high = omega (arith, ints); sign = λ _. omega (arith, ints) }

decided_covered : (e : Bool) (u : ℤ) → IsCovered e u (pos 0) ⊎ (IsCovered e u (pos 0) → ⊥)
decided_covered true u =
    by_lt_z u (pos 0) (λ less. inr (λ e. absurd (omega (arith, ints, less, e))))
    (λ le. by_lt_z (pos 0) u (λ less. inr (λ e. absurd (omega (arith, ints, less, e)))) (λ ge. inl (omega (arith, ints, le, ge))))
decided_covered false u = by_lt_z (pos 0) u (λ less. inr (λ h. absurd (omega (arith, ints, less, h)))) (λ le. inl le)

abbrev AllBelow : (ℕ → Type 0) → ℕ → Type 0
AllBelow Is n = (k : ℕ) → k < n → Is k

abbrev OneIsNot : (ℕ → Type 0) → ℕ → Type 0
OneIsNot Is n = (k : ℕ) × (k < n) × (Is k → ⊥)

all_or_one : (Is : ℕ → Type 0) → ((k : ℕ) → Is k ⊎ (Is k → ⊥)) → (n : ℕ) → AllBelow Is n ⊎ OneIsNot Is n
all_or_one Is decided zero = inl (λ k h. absurd (omega (arith, h)))
all_or_one Is decided (suc n) = by (all_or_one Is decided n) (decided n)
  where
    by : (AllBelow Is n ⊎ OneIsNot Is n) → (Is n ⊎ (Is n → ⊥)) → AllBelow Is (suc n) ⊎ OneIsNot Is (suc n)
    by (inr one) last = inr (one.0, omega (arith, one.1), one.2)
    by (inl before) (inr refuted) = inr (n, omega arith, refuted)
    by (inl before) (inl last) = inl (λ k h. at k (cases_lt k n) h)
      where
        at : (k : ℕ) → (k < n) ⊎ (n ≤ k) → k < suc n → Is k
        at k (inl l) h = before k l
        at k (inr l) h = let e : n ≡ k = omega (arith, l, h) in subst Is e last

module _ (ts : List Tree) (exact : List Bool) (ws : List Weights) (side : Side) (a : Assignment) (are : AreOpenSets ts side a) where
  -- ---- one set per bidder

  other_set : (b : ℕ) (s : NodeSet) → b < length ts → IsOpen (tree_of ts b) (fixing_of side b) s → AreOpenSets ts side (set a b s)
  other_set b s l is = record {
    same_length = omega (arith, are.same_length, length-set a b s);
    each = λ c h. by c h (cases_eq c b);
  }
    where
      by : (c : ℕ) → c < length ts → (c ≡ b) ⊎ (c ≡ b → ⊥) → IsOpen (tree_of ts c) (fixing_of side c) (set_of (set a b s) c)
      by c h (inl e) =
          subst (λ j. IsOpen (tree_of ts j) (fixing_of side j) (set_of (set a b s) j)) (sym e)
          (subst (IsOpen (tree_of ts b) (fixing_of side b)) (sym (get_or-set_same a b s [] (omega (arith, l, are.same_length)))) is)
      by c h (inr ne) = subst (IsOpen (tree_of ts c) (fixing_of side c)) (sym (get_or-set_other a b c s [] ne)) (are.each c h)

  live_marked : (x : Assignment) → AreOpenSets ts side x → (b n : ℕ) (m : Mark) → b < length ts → Agrees m (has (set_of x b) n) → IsLive ts (with_mark side b n m)
  live_marked x sets b n m l agrees c h =
      let there : b < length x = omega (arith, l, sets.same_length) in
      let meets = meets_all_put x side b n m (λ d i. (sets.each d (omega (arith, i, sets.same_length))).1) there agrees in
      (set_of x c, ((sets.each c h).0, meets c (omega (arith, h, sets.same_length))))

  module _ (none : HasNoNode ts side) where
    -- two sets that differ at a node leave both its children live
    differs : (b n : ℕ) (s : NodeSet) → b < length ts → n < length (tree_of ts b) → IsOpen (tree_of ts b) (fixing_of side b) s
        → (x y : Bool) → has s n ≡ x → has (set_of a b) n ≡ y → Agrees (mark_of (fixing_of side b) n) x → Agrees (mark_of (fixing_of side b) n) y → x ≡ y
    differs b n s l h is true true e f p q = refl
    differs b n s l h is false false e f p q = refl
    differs b n s l h is true false e f p q = by (mark_of (fixing_of side b) n) refl p q
      where
        by : (m : Mark) → mark_of (fixing_of side b) n ≡ m → Agrees m true → Agrees m false → true ≡ false
        by Free free p q =
            absurd (none b n (l, h, free)
            (live_marked (set a b s) (other_set b s l is) b n Must l (ap (λ t. has t n) (get_or-set_same a b s [] (omega (arith, l, are.same_length))) ∙ e))
            (live_marked a are b n Never l f))
        by Must must p q = sym q
        by Never never p q = p
    differs b n s l h is false true e f p q = by (mark_of (fixing_of side b) n) refl p q
      where
        by : (m : Mark) → mark_of (fixing_of side b) n ≡ m → Agrees m false → Agrees m true → false ≡ true
        by Free free p q =
            absurd (none b n (l, h, free) (live_marked a are b n Must l f)
            (live_marked (set a b s) (other_set b s l is) b n Never l (ap (λ t. has t n) (get_or-set_same a b s [] (omega (arith, l, are.same_length))) ∙ e)))
        by Must must p q = p
        by Never never p q = sym q

    only_set : (b : ℕ) (s : NodeSet) → b < length ts → IsOpen (tree_of ts b) (fixing_of side b) s → s ≡ set_of a b
    only_set b s l is =
        let mine = are.each b l in
        ext_get_or false s (set_of a b) (omega (arith, (is.0).same_length, (mine.0).same_length))
        (λ n h. differs b n s l (omega (arith, h, (is.0).same_length)) is (has s n) (has (set_of a b) n) refl refl (is.1 n h) (mine.1 n (omega (arith, h, (is.0).same_length, (mine.0).same_length))))

    -- ---- the sum of the nets

    net_of : Multipliers → ℤ
    net_of m = sum_below (λ b. net (tree_of ts b) (weights_of ws b) m (set_of a b)) (length ts)

    term : Multipliers → ℕ → ℤ
    term m g = get_or m g (pos 0) *ℤ total_units ts a g

    net_of-is : (m : Multipliers) → net_of m +ℤ sum_below (term m) (length m) ≡ pos 64 *ℤ total_value a ws
    unfolding net_of term
    net_of-is m = nets_give_value ts ws m a are.same_length

    net_sum : (m : Multipliers) → IsNetSum ts ws m side (net_of m)
    unfolding net_of
    net_sum m = (
      λ b. net (tree_of ts b) (weights_of ws b) m (set_of a b),
      λ b l. record {
        attained = (set_of a b, are.each b l, refl);
        bound = λ s is. let e = ap (net (tree_of ts b) (weights_of ws b) m) (only_set b s l is) in omega (arith, ints, e);
      },
      refl,
    )

    net_sum-one : (m : Multipliers) (total : ℤ) → IsNetSum ts ws m side total → total ≡ net_of m
    unfolding net_of
    net_sum-one m total (best, greatest, is) =
        sym is ∙ sum_below-same best (λ b. net (tree_of ts b) (weights_of ws b) m (set_of a b)) (length ts)
        (λ b l. let (s, open_set, e) = (greatest b l).attained in sym e ∙ ap (net (tree_of ts b) (weights_of ws b) m) (only_set b s l open_set))

    -- ---- a sweep

    -- each multiplier below n costs as much as any other would
    record IsCostly (n : ℕ) (m : Multipliers) : Type 0 where
      same_length : length m ≡ length exact
      most : (g : ℕ) → g < n → (other : ℤ) → IsMultiplier (is_exact exact g) other → (other *ℤ total_units ts a g) ≤ℤ term m g

    term_set : (m : Multipliers) (g : ℕ) (z : ℤ) → g < length m → term (set m g z) g ≡ z *ℤ total_units ts a g
    unfolding term
    term_set m g z l = ap (λ x. x *ℤ total_units ts a g) (get_or-set_same m g z (pos 0) l)

    term_other : (m : Multipliers) (g k : ℕ) (z : ℤ) → (k ≡ g → ⊥) → term (set m g z) k ≡ term m k
    unfolding term
    term_other m g k z ne = ap (λ x. x *ℤ total_units ts a k) (get_or-set_other m g k z (pos 0) ne)

    costs_most : (m : Multipliers) (g : ℕ) (z total other : ℤ) → g < length m → IsLowest ts exact ws side m g z total → IsMultiplier (is_exact exact g) other
        → (other *ℤ total_units ts a g) ≤ℤ (z *ℤ total_units ts a g)
    costs_most m g z total other l lowest may =
        let under = lowest.least other (net_of (set m g other)) may (net_sum (set m g other)) in
        let here = net_sum-one (set m g z) total lowest.has in
        let change = sum_below-change (term (set m g z)) (term (set m g other)) g (length m) l (λ k ne. term_other m g k z ne ∙ sym (term_other m g k other ne)) in
        omega (
          arith,
          ints,
          under,
          here,
          net_of-is (set m g z),
          net_of-is (set m g other),
          change,
          term_set m g z l,
          term_set m g other l,
          ap (sum_below (term (set m g z))) (length-set m g z),
          ap (sum_below (term (set m g other))) (length-set m g other),
        )

    sweeps_most : (n : ℕ) (from to : Multipliers) → n ≤ length exact → length from ≡ length exact → SweepsBelow ts exact ws side n from to → IsCostly n to
    sweeps_most zero from to h size is = record { same_length = ap length is ∙ size; most = λ g l. absurd (omega (arith, l)) }
    sweeps_most (suc n) from to h size (before, z, total, below, lowest, is) =
        let costly = sweeps_most n from before (omega (arith, h)) size below in
        record {
          same_length = ap length is ∙ length-set before n z ∙ costly.same_length;
          most = λ g l other may. subst (λ m. (other *ℤ total_units ts a g) ≤ℤ term m g) (sym is) (by costly.same_length costly.most g other l may (cases_eq g n));
        }
      where
        by : length before ≡ length exact → ((g : ℕ) → g < n → (other : ℤ) → IsMultiplier (is_exact exact g) other → (other *ℤ total_units ts a g) ≤ℤ term before g)
            → (g : ℕ) (other : ℤ) → g < suc n → IsMultiplier (is_exact exact g) other → (g ≡ n) ⊎ (g ≡ n → ⊥) → (other *ℤ total_units ts a g) ≤ℤ term (set before n z) g
        by size most g other l may (inl e) =
            let there : n < length before = omega (arith, h, size) in
            subst (λ k. (other *ℤ total_units ts a k) ≤ℤ term (set before n z) k) (sym e)
            (let low = costs_most before n z total other there lowest (subst (λ k. IsMultiplier (is_exact exact k) other) e may) in omega (arith, ints, low, term_set before n z there))
        by size most g other l may (inr ne) = omega (arith, ints, most g (omega (arith, l, ne)) other may, term_other before n g z ne)

    -- ---- so the side is closed

    closed : (value : ℤ) (m : Multipliers) (total v : ℤ) → IsCostly (length exact) m → IsNetSum ts ws m side total → (pos 64 *ℤ v) ≤ℤ total
        → (IsFeasible ts exact a → total_value a ws ≤ℤ value) → total_value a ws ≤ℤ (value +ℤ pos (2 ^ 50)) → v ≤ℤ value
    closed value m total v costly is low offered near =
        by (all_or_one (λ g. IsCovered (is_exact exact g) (total_units ts a g) (pos 0)) (λ g. decided_covered (is_exact exact g) (total_units ts a g)) (length exact))
      where
        not_negative : (g : ℕ) → g < length m → pos 0 ≤ℤ term m g
        not_negative g l = let over = costly.most g (omega (arith, l, costly.same_length)) (pos 0) (zero_is (is_exact exact g)) in omega (arith, ints, over)

        by : (AllBelow (λ g. IsCovered (is_exact exact g) (total_units ts a g) (pos 0)) (length exact) ⊎ OneIsNot (λ g. IsCovered (is_exact exact g) (total_units ts a g) (pos 0)) (length exact)) → v ≤ℤ value
        by (inl balanced) =
            let under = offered (record { same_length = are.same_length; satisfied = λ b l. (are.each b l).0; balanced = balanced }) in
            omega (arith, ints, under, low, net_sum-one m total is, net_of-is m, sum_below-low (term m) (length m) not_negative)
        by (inr one) =
            let high = high_cost (is_exact exact one.0) (total_units ts a one.0) (term m one.0) one.2 (costly.most one.0 one.1) in
            let over = sum_below-term (term m) one.0 (length m) (omega (arith, one.1, costly.same_length)) not_negative in
            omega (arith, ints, near, low, net_sum-one m total is, net_of-is m, high, over)

pub node_is_there : NodeIsThere
node_is_there ts exact ws side v a value (m, sweeps, (total, is, low, high)) none are offered near = by sweeps is
  where
    by : {m : Multipliers} → Sweeps ts exact ws side (all_zero ts exact ws) m → IsNetSum ts ws m side total → v ≤ℤ value
    by (idle dead) is = absurd (dead.1.1 (set_of a dead.0) (are.each dead.0 dead.1.0))
    by (moves live below) is = closed ts exact ws side a are none value _ total v (sweeps_most ts exact ws side a are none (length exact) (all_zero ts exact ws) _ (omega arith) (length-replicate (length exact) (pos 0)) below) is low offered near
