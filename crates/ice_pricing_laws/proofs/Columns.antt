-- What duals of both programs say, over a common denominator.
use Rattle.std.proofs.Common.{ℕ, suc, ◌+◌, ◌*◌, ◌<◌, ◌≡◌, ◌≢◌, ◌⊎◌, cond, eqb, List, [], ◌∷◌, ◌++◌, length, map, slice_index_or, slice_set, ℤ, pos, neg_ℤ, ◌+ℤ◌, ◌-ℤ◌, ◌*ℤ◌, ◌≤ℤ◌, refl, arith, ap, sym, subst, ◌∙◌, inl, inr}
use Rattle.std.proofs.lemmas.Int.{ints}
use Rattle.std.proofs.lemmas.Bool.{cases_eq}
use Rattle.std.proofs.lemmas.List.{get_or-set_same, get_or-set_other}
use Rattle.std.proofs.Math.IntN.{zero-*ℤ}
use Rattle.ice_defs.specs.Sum.{sum_below, numbers_below}
use Rattle.ice_defs.specs.Tree.{Tree}
use Rattle.ice_defs.specs.Set.{Weights}
use Rattle.ice_defs.specs.Trade.{Assignment}
use Rattle.ice_defs.specs.Fraction.{Fraction, whole_number, IsFraction, AtMost, fraction_at}
use Rattle.ice_defs.specs.Program.{Constraint, dot, leasts, AreNonNegative, AreDuals}
use Rattle.ice_defs.specs.PricingRun.{Member, only_at, worth_above, units_above, accuracy_program, balance_program}
use Rattle.ice_defs.proofs.Sums.{sum_below-same, sum_below-single, sum_below-zero, at_same, at_other}
use Rattle.ice_defs.proofs.Products.{sum_below-times}
use Rattle.ice_defs.proofs.Integers.{neg_times}
use Rattle.ice_defs.proofs.Multiples.{one_time}
use Rattle.ice_pricing_laws.specs.Pools.{member_at}
use Rattle.ice_pricing_laws.proofs.Lists.{all-at, get_or-map_push, get_or-map_end, get_or-only_at, length-only_at}
use Rattle.ice_pricing_laws.proofs.Dens.{IsOver, AreOver}
use Rattle.ice_pricing_laws.proofs.Dots.{coefficient, dot_num, dot-over, least-over, over-most}
use Rattle.ice_pricing_laws.proofs.Programs.{above, minus-*ℤ}
use Rattle.ice_pricing_laws.proofs.Duals.{pool_sum, dot-rows}

-- ---- the first rows

minus_at : (g i : ℕ) (c : ℤ) (a : ℕ → ℤ) → (g ≡ i → c ≡ neg_ℤ (pos 1)) → (g ≢ i → c ≡ pos 0) → c *ℤ a i ≡ cond (eqb g i) (neg_ℤ (a g)) (pos 0)
minus_at g i c a same other = by (cases_eq g i)
  where
    by : (g ≡ i) ⊎ (g ≢ i) → c *ℤ a i ≡ cond (eqb g i) (neg_ℤ (a g)) (pos 0)
    by (inl e) = ap (λ z. z *ℤ a i) (same e) ∙ minus-*ℤ (a i) ∙ ap (λ k. neg_ℤ (a k)) (sym e) ∙ sym (at_same g i (neg_ℤ (a g)) e)
    by (inr ne) = ap (λ z. z *ℤ a i) (other ne) ∙ zero-*ℤ (a i) ∙ sym (at_other g i (neg_ℤ (a g)) ne)

pub caps-column : (goods g : ℕ) (a : ℕ → ℤ) → g < goods → sum_below (λ i. coefficient (only_at (suc goods) i (neg_ℤ (pos 1))) g *ℤ a i) goods ≡ neg_ℤ (a g)
caps-column goods g a h =
    sum_below-same _ (λ i. cond (eqb g i) (neg_ℤ (a g)) (pos 0)) goods
    (λ i l. let e = get_or-only_at (suc goods) i g (neg_ℤ (pos 1)) (omega (arith, h)) in
    minus_at g i (coefficient (only_at (suc goods) i (neg_ℤ (pos 1))) g) a (λ same. e ∙ at_same i g (neg_ℤ (pos 1)) (sym same)) (λ ne. e ∙ at_other i g (neg_ℤ (pos 1)) (λ same. ne (sym same))))
    ∙ sum_below-single g goods (neg_ℤ (a g)) h

pub caps-last : (goods : ℕ) (a : ℕ → ℤ) → sum_below (λ i. coefficient (only_at (suc goods) i (neg_ℤ (pos 1))) goods *ℤ a i) goods ≡ pos 0
caps-last goods a =
    sum_below-zero _ goods
    (λ i l. ap (λ z. z *ℤ a i) (get_or-only_at (suc goods) i goods (neg_ℤ (pos 1)) (omega arith) ∙ at_other i goods (neg_ℤ (pos 1)) (λ e. absurd (omega (arith, e, l)))) ∙ zero-*ℤ (a i))

tops-column : (goods g : ℕ) (a : ℕ → ℤ) → g < goods → sum_below (λ i. coefficient (slice_set (only_at (suc goods) goods (pos 1)) i (neg_ℤ (pos 1))) g *ℤ a i) goods ≡ neg_ℤ (a g)
tops-column goods g a h =
    sum_below-same _ (λ i. cond (eqb g i) (neg_ℤ (a g)) (pos 0)) goods
    (λ i l. minus_at g i (coefficient (slice_set (only_at (suc goods) goods (pos 1)) i (neg_ℤ (pos 1))) g) a
    (λ same. subst (λ k. coefficient (slice_set (only_at (suc goods) goods (pos 1)) i (neg_ℤ (pos 1))) k ≡ neg_ℤ (pos 1)) (sym same)
    (get_or-set_same (only_at (suc goods) goods (pos 1)) i (neg_ℤ (pos 1)) (pos 0) (omega (arith, length-only_at (suc goods) goods (pos 1), l))))
    (λ ne. get_or-set_other (only_at (suc goods) goods (pos 1)) i g (neg_ℤ (pos 1)) (pos 0) ne
    ∙ get_or-only_at (suc goods) goods g (pos 1) (omega (arith, h)) ∙ at_other goods g (pos 1) (λ e. absurd (omega (arith, e, h)))))
    ∙ sum_below-single g goods (neg_ℤ (a g)) h

tops-last : (goods : ℕ) (a : ℕ → ℤ) → sum_below (λ i. coefficient (slice_set (only_at (suc goods) goods (pos 1)) i (neg_ℤ (pos 1))) goods *ℤ a i) goods ≡ sum_below a goods
tops-last goods a =
    sum_below-same _ a goods
    (λ i l. ap (λ z. z *ℤ a i)
    (get_or-set_other (only_at (suc goods) goods (pos 1)) i goods (neg_ℤ (pos 1)) (pos 0) (λ e. absurd (omega (arith, e, l)))
    ∙ get_or-only_at (suc goods) goods goods (pos 1) (omega arith) ∙ at_same goods goods (pos 1) refl)
    ∙ one_time (a i))

-- ---- both programs

module _ (ts : List Tree) (ws : List Weights) (sets : Assignment) (goods : ℕ) (cap : ℤ) (pool : List Member) where
  abbrev worth : Member → ℤ
  worth m = worth_above ts ws sets goods cap m

  members-column : (factor z : ℤ) (g : ℕ) (b : ℕ → ℤ) → g < goods
      → pool_sum pool (λ m. coefficient (units_above ts ws sets goods cap factor m ++ z ∷ []) g) b ≡ pool_sum pool (λ m. factor *ℤ above ts ws sets goods cap m g) b
  members-column factor z g b h =
      sum_below-same _ _ (length pool) (λ i l. ap (λ c. c *ℤ b i) (get_or-map_push (λ k. factor *ℤ above ts ws sets goods cap (member_at pool i) k) goods g z (pos 0) h))

  members-last : (factor z : ℤ) (b : ℕ → ℤ) → pool_sum pool (λ m. coefficient (units_above ts ws sets goods cap factor m ++ z ∷ []) goods) b ≡ pool_sum pool (λ m. z) b
  members-last factor z b =
      sum_below-same _ _ (length pool) (λ i l. ap (λ c. c *ℤ b i) (get_or-map_end (λ k. factor *ℤ above ts ws sets goods cap (member_at pool i) k) goods z (pos 0)))

  pub record AccuracyDuals (d : ℕ) (a : ℕ → ℤ) (sum : ℤ) : Type 0 where
    pub low : (g : ℕ) → g < goods → pos 0 ≤ℤ a g
    pub columns : (g : ℕ) → g < goods → pool_sum pool (λ m. pos 100 *ℤ above ts ws sets goods cap m g) (λ i. a (goods + i)) ≤ℤ a g
    pub last : pool_sum pool (λ m. pos 1) (λ i. a (goods + i)) ≤ℤ pos d
    pub total : sum ≡ pool_sum pool worth (λ i. a (goods + i)) -ℤ (cap *ℤ sum_below a goods)

  pub record BalanceDuals (delta : ℤ) (den : ℕ) (d : ℕ) (a : ℕ → ℤ) (sum : ℤ) : Type 0 where
    pub low : (g : ℕ) → g < goods → pos 0 ≤ℤ a g
    pub columns : (g : ℕ) → g < goods → pool_sum pool (λ m. pos (100 * den) *ℤ above ts ws sets goods cap m g) (λ i. a (goods + i)) ≤ℤ a g
    pub last : sum_below a goods ≤ℤ pos d
    pub total : sum ≡ pool_sum pool (λ m. (pos den *ℤ worth m) -ℤ delta) (λ i. a (goods + i))

  module _ (y : List Fraction) (d : ℕ) (a : ℕ → ℤ) (hd : 0 < d) (are : AreOver d a y) (size : length y ≡ goods + length pool) where
    sized : (cs : List ℤ) → IsOver d (dot_num cs a (goods + length pool)) (dot cs y)
    sized cs = subst (λ k. IsOver d (dot_num cs a k) (dot cs y)) size (dot-over d cs y a hd are)

    low-of : AreNonNegative y → (g : ℕ) → g < goods → pos 0 ≤ℤ a g
    low-of low g h =
        let at = all-at (λ f. IsFraction f × AtMost (whole_number (pos 0)) f) y g (whole_number (pos 0)) low (omega (arith, size, h)) in
        let some = least-over d (pos 0) (a g) (fraction_at y g) (are g (omega (arith, size, h))) at.1 in
        omega (arith, ints, some, zero-*ℤ (pos d))

    -- a column's sum is at most its cost
    column-most : (g : Constraint → ℤ) (first : ℕ → Constraint) (later : Member → Constraint) (most : ℤ)
        → AtMost (dot (map g (map first (numbers_below goods) ++ map later pool)) y) (whole_number most)
        → (sum_below (λ i. g (first i) *ℤ a i) goods +ℤ pool_sum pool (λ m. g (later m)) (λ i. a (goods + i))) ≤ℤ (most *ℤ pos d)
    column-most g first later most h =
        let row = over-most d most _ _ (sized (map g (map first (numbers_below goods) ++ map later pool))) h in
        subst (λ z. z ≤ℤ (most *ℤ pos d)) (dot-rows g goods first later pool a) row

    abbrev pub AccuracyTotal : ℤ
    AccuracyTotal = dot_num (leasts (accuracy_program ts ws sets goods cap pool)) a (goods + length pool)

    pub accuracy-total : IsOver d AccuracyTotal (dot (leasts (accuracy_program ts ws sets goods cap pool)) y)
    accuracy-total = sized (leasts (accuracy_program ts ws sets goods cap pool))

    abbrev cap_row : ℕ → Constraint
    cap_row g = record { coeffs = only_at (suc goods) g (neg_ℤ (pos 1)); least = neg_ℤ cap }

    abbrev accuracy_row : Member → Constraint
    accuracy_row m = record { coeffs = units_above ts ws sets goods cap (pos 100) m ++ pos 1 ∷ []; least = worth m }

    cost-of : (g : ℕ) → g < goods → coefficient (only_at (suc goods) goods (pos 1)) g ≡ pos 0
    cost-of g h = get_or-only_at (suc goods) goods g (pos 1) (omega (arith, h)) ∙ at_other goods g (pos 1) (λ e. absurd (omega (arith, e, h)))

    cost-last : coefficient (only_at (suc goods) goods (pos 1)) goods ≡ pos 1
    cost-last = get_or-only_at (suc goods) goods goods (pos 1) (omega arith) ∙ at_same goods goods (pos 1) refl

    pub accuracy-duals : (x : List Fraction) → AreDuals (accuracy_program ts ws sets goods cap pool) x y → AccuracyDuals d a AccuracyTotal
    accuracy-duals x duals =
        let width : length (only_at (suc goods) goods (pos 1)) ≡ suc goods = length-only_at (suc goods) goods (pos 1) in
        record {
          low = low-of duals.non_negative;
          columns = λ g h.
              let most = column-most (λ row. slice_index_or row.coeffs g (pos 0)) cap_row accuracy_row (coefficient (only_at (suc goods) goods (pos 1)) g) (duals.columns g (omega (arith, width, h))) in
              omega (arith, ints, most, caps-column goods g a h, members-column (pos 100) (pos 1) g (λ i. a (goods + i)) h, ap (λ z. z *ℤ pos d) (cost-of g h), zero-*ℤ (pos d));
          last =
              let most = column-most (λ row. slice_index_or row.coeffs goods (pos 0)) cap_row accuracy_row (coefficient (only_at (suc goods) goods (pos 1)) goods) (duals.columns goods (omega (arith, width))) in
              omega (arith, ints, most, caps-last goods a, members-last (pos 100) (pos 1) (λ i. a (goods + i)), ap (λ z. z *ℤ pos d) cost-last, one_time (pos d));
          total =
              let all = dot-rows (λ row. row.least) goods cap_row accuracy_row pool a in
              omega (arith, ints, all, sum_below-times (neg_ℤ cap) a goods, neg_times cap (sum_below a goods));
        }

    module _ (delta : ℤ) (den : ℕ) where
      abbrev pub BalanceTotal : ℤ
      BalanceTotal = dot_num (leasts (balance_program ts ws sets goods cap delta den pool)) a (goods + length pool)

      pub balance-total : IsOver d BalanceTotal (dot (leasts (balance_program ts ws sets goods cap delta den pool)) y)
      balance-total = sized (leasts (balance_program ts ws sets goods cap delta den pool))

      abbrev top_row : ℕ → Constraint
      top_row g = record { coeffs = slice_set (only_at (suc goods) goods (pos 1)) g (neg_ℤ (pos 1)); least = pos 0 }

      abbrev balance_row : Member → Constraint
      balance_row m = record { coeffs = units_above ts ws sets goods cap (pos (100 * den)) m ++ pos 0 ∷ []; least = (pos den *ℤ worth m) -ℤ delta }

      pub balance-duals : (x : List Fraction) → AreDuals (balance_program ts ws sets goods cap delta den pool) x y → BalanceDuals delta den d a BalanceTotal
      balance-duals x duals =
          let width : length (only_at (suc goods) goods (pos 1)) ≡ suc goods = length-only_at (suc goods) goods (pos 1) in
          record {
            low = low-of duals.non_negative;
            columns = λ g h.
                let most = column-most (λ row. slice_index_or row.coeffs g (pos 0)) top_row balance_row (coefficient (only_at (suc goods) goods (pos 1)) g) (duals.columns g (omega (arith, width, h))) in
                omega (arith, ints, most, tops-column goods g a h, members-column (pos (100 * den)) (pos 0) g (λ i. a (goods + i)) h, ap (λ z. z *ℤ pos d) (cost-of g h), zero-*ℤ (pos d));
            last =
                let most = column-most (λ row. slice_index_or row.coeffs goods (pos 0)) top_row balance_row (coefficient (only_at (suc goods) goods (pos 1)) goods) (duals.columns goods (omega (arith, width))) in
                let none = sum_below-zero (λ i. pos 0 *ℤ a (goods + i)) (length pool) (λ i l. zero-*ℤ (a (goods + i))) in
                omega (arith, ints, most, tops-last goods a, members-last (pos (100 * den)) (pos 0) (λ i. a (goods + i)), none, ap (λ z. z *ℤ pos d) cost-last, one_time (pos d));
            total =
                let all = dot-rows (λ row. row.least) goods top_row balance_row pool a in
                omega (arith, ints, all, sum_below-zero (λ i. pos 0 *ℤ a i) goods (λ i l. zero-*ℤ (a i)));
          }
