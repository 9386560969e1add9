-- The points of both programs over a common denominator, as inequalities of integers.
use Rattle.std.proofs.Common.{ℕ, suc, ◌*◌, ◌<◌, ◌≡◌, ◌≢◌, ◌⊎◌, cond, eqb, List, [], ◌∷◌, ◌++◌, length, map, slice_set, replicate, ℤ, pos, neg_ℤ, ◌+ℤ◌, ◌-ℤ◌, ◌*ℤ◌, ◌≤ℤ◌, refl, arith, ap, sym, subst, ◌∙◌, inl, inr}
use Rattle.std.specs.List.{AllByRecursion}
use Rattle.std.proofs.lemmas.Int.{ints}
use Rattle.std.proofs.lemmas.Bool.{cases_eq}
use Rattle.std.proofs.lemmas.List.{get_or-set_same, get_or-set_other, length-replicate, length-set}
use Rattle.std.proofs.Math.IntN.{zero-*ℤ, *ℤ_comm}
use Rattle.ice_defs.specs.Sum.{sum_below, numbers_below}
use Rattle.ice_defs.specs.Tree.{Tree}
use Rattle.ice_defs.specs.Set.{Weights, units}
use Rattle.ice_defs.specs.Trade.{Assignment, tree_of, set_of}
use Rattle.ice_defs.specs.Fraction.{Fraction, whole_number, IsFraction, AtMost, fraction_at}
use Rattle.ice_defs.specs.Program.{Constraint, dot, AreNonNegative, IsPoint}
use Rattle.ice_defs.specs.PricingRun.{Member, only_at, worth_above, units_above, accuracy_program, balance_program}
use Rattle.ice_defs.proofs.Products.{times_neg}
use Rattle.ice_defs.proofs.Sums.{sum_below-same, sum_below-single, at_same, at_other}
use Rattle.ice_defs.proofs.Lists.{all-append, all-first, all-last, map-all, all-from}
use Rattle.ice_defs.proofs.Integers.{neg_times}
use Rattle.ice_defs.proofs.Multiples.{one_time}
use Rattle.ice_pricing_laws.proofs.Lists.{all-map, all-each, all-at, all-below, below-all, get_or-map_push, get_or-map_end, get_or-only_at, length-only_at}
use Rattle.ice_pricing_laws.proofs.Dens.{IsOver, AreOver}
use Rattle.ice_pricing_laws.proofs.Dots.{coefficient, dot_num, dot-over, least-over, over-least}

-- ---- the rows' products

pub minus-*ℤ : (z : ℤ) → neg_ℤ (pos 1) *ℤ z ≡ neg_ℤ z
minus-*ℤ z = *ℤ_comm (neg_ℤ (pos 1)) z ∙ times_neg z (pos 1) ∙ ap neg_ℤ (*ℤ_comm z (pos 1) ∙ one_time z)

pub dot-only_at : (k g : ℕ) (z : ℤ) (n : ℕ → ℤ) → g < k → dot_num (only_at k g z) n k ≡ z *ℤ n g
dot-only_at k g z n h =
    sum_below-same (λ j. coefficient (only_at k g z) j *ℤ n j) (λ j. cond (eqb g j) (z *ℤ n g) (pos 0)) k (λ j l. ap (λ c. c *ℤ n j) (get_or-only_at k g j z l) ∙ at j)
    ∙ sum_below-single g k (z *ℤ n g) h
  where
    at : (j : ℕ) → cond (eqb g j) z (pos 0) *ℤ n j ≡ cond (eqb g j) (z *ℤ n g) (pos 0)
    at j = by (cases_eq g j)
      where
        by : (g ≡ j) ⊎ (g ≢ j) → cond (eqb g j) z (pos 0) *ℤ n j ≡ cond (eqb g j) (z *ℤ n g) (pos 0)
        by (inl e) = ap (λ c. c *ℤ n j) (at_same g j z e) ∙ ap (λ i. z *ℤ n i) (sym e) ∙ sym (at_same g j (z *ℤ n g) e)
        by (inr ne) = ap (λ c. c *ℤ n j) (at_other g j z ne) ∙ zero-*ℤ (n j) ∙ sym (at_other g j (z *ℤ n g) ne)

pub dot-push : (f : ℕ → ℤ) (k : ℕ) (z : ℤ) (n : ℕ → ℤ) → dot_num (map f (numbers_below k) ++ z ∷ []) n (suc k) ≡ sum_below (λ g. f g *ℤ n g) k +ℤ (z *ℤ n k)
dot-push f k z n =
    let front = sum_below-same (λ j. coefficient (map f (numbers_below k) ++ z ∷ []) j *ℤ n j) (λ g. f g *ℤ n g) k (λ g h. ap (λ c. c *ℤ n g) (get_or-map_push f k g z (pos 0) h)) in
    let last : coefficient (map f (numbers_below k) ++ z ∷ []) k *ℤ n k ≡ z *ℤ n k = ap (λ c. c *ℤ n k) (get_or-map_end f k z (pos 0)) in
    omega (arith, ints, front, last)

-- 1 at the last place, and less 1 at an earlier one
pub dot-less : (k g : ℕ) (n : ℕ → ℤ) → g < k → dot_num (slice_set (only_at (suc k) k (pos 1)) g (neg_ℤ (pos 1))) n (suc k) ≡ n k -ℤ n g
dot-less k g n h =
    let cs : List ℤ = slice_set (only_at (suc k) k (pos 1)) g (neg_ℤ (pos 1)) in
    let front = sum_below-same (λ j. coefficient cs j *ℤ n j) (λ j. cond (eqb g j) (neg_ℤ (n g)) (pos 0)) k at in
    let last : coefficient cs k *ℤ n k ≡ n k =
    ap (λ c. c *ℤ n k) (get_or-set_other (only_at (suc k) k (pos 1)) g k (neg_ℤ (pos 1)) (pos 0) (λ e. absurd (omega (arith, e, h))) ∙ get_or-only_at (suc k) k k (pos 1) (omega arith) ∙ at_same k k (pos 1) refl)
    ∙ one_time (n k) in
    omega (arith, ints, front, last, sum_below-single g k (neg_ℤ (n g)) h)
  where
    at : (j : ℕ) → j < k → coefficient (slice_set (only_at (suc k) k (pos 1)) g (neg_ℤ (pos 1))) j *ℤ n j ≡ cond (eqb g j) (neg_ℤ (n g)) (pos 0)
    at j l = by (cases_eq g j)
      where
        by : (g ≡ j) ⊎ (g ≢ j) → coefficient (slice_set (only_at (suc k) k (pos 1)) g (neg_ℤ (pos 1))) j *ℤ n j ≡ cond (eqb g j) (neg_ℤ (n g)) (pos 0)
        by (inl e) =
            let size : g < length (only_at (suc k) k (pos 1)) = omega (arith, length-set (replicate (suc k) (pos 0)) k (pos 1), length-replicate (suc k) (pos 0), h) in
            ap (λ c. c *ℤ n j) (subst (λ i. coefficient (slice_set (only_at (suc k) k (pos 1)) g (neg_ℤ (pos 1))) i ≡ neg_ℤ (pos 1)) e (get_or-set_same (only_at (suc k) k (pos 1)) g (neg_ℤ (pos 1)) (pos 0) size))
            ∙ minus-*ℤ (n j) ∙ ap (λ i. neg_ℤ (n i)) (sym e) ∙ sym (at_same g j (neg_ℤ (n g)) e)
        by (inr ne) =
            ap (λ c. c *ℤ n j)
            (get_or-set_other (only_at (suc k) k (pos 1)) g j (neg_ℤ (pos 1)) (pos 0) (λ e. ne (sym e))
            ∙ get_or-only_at (suc k) k j (pos 1) (omega (arith, l)) ∙ at_other k j (pos 1) (λ e. absurd (omega (arith, e, l))))
            ∙ zero-*ℤ (n j) ∙ sym (at_other g j (neg_ℤ (n g)) ne)

module _ (ts : List Tree) (ws : List Weights) (sets : Assignment) (goods : ℕ) (cap : ℤ) where
  abbrev pub above : Member → ℕ → ℤ
  above m g = units (tree_of ts m.bidder) m.set g -ℤ units (tree_of ts m.bidder) (set_of sets m.bidder) g

  -- ---- the accuracy program

  abbrev pub MeetsAccuracy : ℕ → (ℕ → ℤ) → Member → Type 0
  MeetsAccuracy d n m = (worth_above ts ws sets goods cap m *ℤ pos d) ≤ℤ (sum_below (λ g. (pos 100 *ℤ above m g) *ℤ n g) goods +ℤ n goods)

  pub record IsAccuracyPoint (pool : List Member) (d : ℕ) (n : ℕ → ℤ) : Type 0 where
    pub low : (j : ℕ) → j < suc goods → pos 0 ≤ℤ n j
    pub high : (g : ℕ) → g < goods → n g ≤ℤ (cap *ℤ pos d)
    pub members : AllByRecursion (MeetsAccuracy d n) pool

  -- ---- the balance program

  abbrev pub MeetsBalance : ℤ → ℕ → ℕ → (ℕ → ℤ) → Member → Type 0
  MeetsBalance delta den d n m = (((pos den *ℤ worth_above ts ws sets goods cap m) -ℤ delta) *ℤ pos d) ≤ℤ sum_below (λ g. (pos (100 * den) *ℤ above m g) *ℤ n g) goods

  pub record IsBalancePoint (delta : ℤ) (den : ℕ) (pool : List Member) (d : ℕ) (n : ℕ → ℤ) : Type 0 where
    pub low : (j : ℕ) → j < suc goods → pos 0 ≤ℤ n j
    pub high : (g : ℕ) → g < goods → n g ≤ℤ n goods
    pub members : AllByRecursion (MeetsBalance delta den d n) pool

  module _ (x : List Fraction) (d : ℕ) (n : ℕ → ℤ) (hd : 0 < d) (are : AreOver d n x) (size : length x ≡ suc goods) where
    sized-over : (cs : List ℤ) → IsOver d (dot_num cs n (suc goods)) (dot cs x)
    sized-over cs = subst (λ k. IsOver d (dot_num cs n k) (dot cs x)) size (dot-over d cs x n hd are)

    row-over : (cs : List ℤ) (m : ℤ) → dot_num cs n (suc goods) ≡ m → IsOver d m (dot cs x)
    row-over cs m e = subst (λ k. IsOver d k (dot cs x)) e (sized-over cs)

    cap-over : (g : ℕ) → g < goods → IsOver d (neg_ℤ (n g)) (dot (only_at (suc goods) g (neg_ℤ (pos 1))) x)
    cap-over g h = row-over _ _ (dot-only_at (suc goods) g (neg_ℤ (pos 1)) n (omega (arith, h)) ∙ minus-*ℤ (n g))

    top-over : (g : ℕ) → g < goods → IsOver d (n goods -ℤ n g) (dot (slice_set (only_at (suc goods) goods (pos 1)) g (neg_ℤ (pos 1))) x)
    top-over g h = row-over _ _ (dot-less goods g n h)

    member-over : (factor z : ℤ) (m : Member) → IsOver d (sum_below (λ g. (factor *ℤ above m g) *ℤ n g) goods +ℤ (z *ℤ n goods)) (dot (units_above ts ws sets goods cap factor m ++ z ∷ []) x)
    member-over factor z m = row-over _ _ (dot-push (λ g. factor *ℤ above m g) goods z n)

    pub cost-over : IsOver d (n goods) (dot (only_at (suc goods) goods (pos 1)) x)
    cost-over = row-over _ _ (dot-only_at (suc goods) goods (pos 1) n (omega arith) ∙ one_time (n goods))

    low-over : AreNonNegative x → (j : ℕ) → j < suc goods → pos 0 ≤ℤ n j
    low-over low j h =
        let is = are j (omega (arith, size, h)) in
        let at = all-at (λ f. IsFraction f × AtMost (whole_number (pos 0)) f) x j (whole_number (pos 0)) low (omega (arith, size, h)) in
        omega (arith, ints, least-over d (pos 0) (n j) (fraction_at x j) is at.1, zero-*ℤ (pos d))

    over-low : ((j : ℕ) → j < suc goods → pos 0 ≤ℤ n j) → AreNonNegative x
    over-low low = all-from (λ f. IsFraction f × AtMost (whole_number (pos 0)) f) x (whole_number (pos 0))
        (λ j h. let is = are j h in
        (is.proper, over-least d (pos 0) (n j) (fraction_at x j) hd is (let some = low j (omega (arith, size, h)) in omega (arith, ints, some, zero-*ℤ (pos d)))))

    abbrev Meets : Constraint → Type 0
    Meets row = AtMost (whole_number row.least) (dot row.coeffs x)

    abbrev Member100 : Member → Constraint
    Member100 m = record { coeffs = units_above ts ws sets goods cap (pos 100) m ++ pos 1 ∷ []; least = worth_above ts ws sets goods cap m }

    abbrev cap_row : ℕ → Constraint
    cap_row g = record { coeffs = only_at (suc goods) g (neg_ℤ (pos 1)); least = neg_ℤ cap }

    pub from_accuracy : (pool : List Member) → IsPoint (accuracy_program ts ws sets goods cap pool) x → IsAccuracyPoint pool d n
    from_accuracy pool point =
        let caps = all-first Meets (map cap_row (numbers_below goods)) (map Member100 pool) point.rows in
        let members = all-last Meets (map cap_row (numbers_below goods)) (map Member100 pool) point.rows in
        record {
          low = low-over point.non_negative;
          high = λ g h. let row = least-over d (neg_ℤ cap) (neg_ℤ (n g)) _ (cap-over g h) (below-all (λ i. Meets (cap_row i)) goods (map-all Meets cap_row (numbers_below goods) caps) g h) in
              omega (arith, ints, row, neg_times cap (pos d));
          members = all-each (λ m. Meets (Member100 m)) (MeetsAccuracy d n) pool
              (λ m h. let row = least-over d (worth_above ts ws sets goods cap m) _ _ (member-over (pos 100) (pos 1) m) h in omega (arith, ints, row, one_time (n goods)))
              (map-all Meets Member100 pool members);
        }

    pub to_accuracy : (pool : List Member) → IsAccuracyPoint pool d n → IsPoint (accuracy_program ts ws sets goods cap pool) x
    to_accuracy pool is = record {
      same_length = omega (arith, size, length-only_at (suc goods) goods (pos 1));
      non_negative = over-low is.low;
      rows = all-append Meets (map cap_row (numbers_below goods)) (map Member100 pool)
          (all-map Meets cap_row (numbers_below goods)
          (all-below (λ i. Meets (cap_row i)) goods
          (λ g h. over-least d (neg_ℤ cap) (neg_ℤ (n g)) _ hd (cap-over g h) (let most = is.high g h in omega (arith, ints, most, neg_times cap (pos d))))))
          (all-map Meets Member100 pool
          (all-each (MeetsAccuracy d n) (λ m. Meets (Member100 m)) pool
          (λ m h. over-least d (worth_above ts ws sets goods cap m) _ _ hd (member-over (pos 100) (pos 1) m) (omega (arith, ints, h, one_time (n goods)))) is.members));
    }

    module _ (delta : ℤ) (den : ℕ) where
      abbrev top_row : ℕ → Constraint
      top_row g = record { coeffs = slice_set (only_at (suc goods) goods (pos 1)) g (neg_ℤ (pos 1)); least = pos 0 }

      abbrev balance_row : Member → Constraint
      balance_row m = record { coeffs = units_above ts ws sets goods cap (pos (100 * den)) m ++ pos 0 ∷ []; least = (pos den *ℤ worth_above ts ws sets goods cap m) -ℤ delta }

      pub from_balance : (pool : List Member) → IsPoint (balance_program ts ws sets goods cap delta den pool) x → IsBalancePoint delta den pool d n
      from_balance pool point =
          let tops = all-first Meets (map top_row (numbers_below goods)) (map balance_row pool) point.rows in
          let members = all-last Meets (map top_row (numbers_below goods)) (map balance_row pool) point.rows in
          record {
            low = low-over point.non_negative;
            high = λ g h. let row = least-over d (pos 0) (n goods -ℤ n g) _ (top-over g h) (below-all (λ i. Meets (top_row i)) goods (map-all Meets top_row (numbers_below goods) tops) g h) in
                omega (arith, ints, row, zero-*ℤ (pos d));
            members = all-each (λ m. Meets (balance_row m)) (MeetsBalance delta den d n) pool
                (λ m h. let row = least-over d _ _ _ (member-over (pos (100 * den)) (pos 0) m) h in omega (arith, ints, row, zero-*ℤ (n goods)))
                (map-all Meets balance_row pool members);
          }

      pub to_balance : (pool : List Member) → IsBalancePoint delta den pool d n → IsPoint (balance_program ts ws sets goods cap delta den pool) x
      to_balance pool is = record {
        same_length = omega (arith, size, length-only_at (suc goods) goods (pos 1));
        non_negative = over-low is.low;
        rows = all-append Meets (map top_row (numbers_below goods)) (map balance_row pool)
            (all-map Meets top_row (numbers_below goods)
            (all-below (λ i. Meets (top_row i)) goods
            (λ g h. over-least d (pos 0) (n goods -ℤ n g) _ hd (top-over g h) (let most = is.high g h in omega (arith, ints, most, zero-*ℤ (pos d))))))
            (all-map Meets balance_row pool
            (all-each (MeetsBalance delta den d n) (λ m. Meets (balance_row m)) pool
            (λ m h. over-least d _ _ _ hd (member-over (pos (100 * den)) (pos 0) m) (omega (arith, ints, h, zero-*ℤ (n goods)))) is.members));
      }
