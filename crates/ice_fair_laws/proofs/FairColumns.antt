-- What duals of the fairness program say, over a common denominator.
use Rattle.std.proofs.Common.{ℕ, zero, suc, ◌+◌, ◌*◌, ◌<◌, ◌≡◌, List, [], ◌∷◌, ◌++◌, length, map, slice_index_or, ℤ, pos, neg_ℤ, ◌+ℤ◌, ◌-ℤ◌, ◌*ℤ◌, ◌≤ℤ◌, refl, arith, ap, subst, ◌∙◌}
use Rattle.std.specs.List.{flat_map}
use Rattle.std.proofs.lemmas.Int.{ints}
use Rattle.std.proofs.lemmas.Grind.{flat_map-append}
use Rattle.std.proofs.lemmas.List.{get_or-map, get_or_append_left, get_or-append-add, length-map, length-append, map-append}
use Rattle.std.proofs.Math.IntN.{zero-*ℤ}
use Rattle.ice_defs.specs.Sum.{sum_below, numbers_below}
use Rattle.ice_defs.specs.Fraction.{Fraction, whole_number, IsFraction, AtMost, fraction_at}
use Rattle.ice_defs.specs.Program.{Constraint, dot, leasts, AreDuals}
use Rattle.ice_defs.specs.PricingRun.{Member, only_at, worth_above, units_above}
use Rattle.ice_defs.proofs.Sums.{sum_below-same, sum_below-zero, at_same, at_other}
use Rattle.ice_defs.proofs.Products.{sum_below-times}
use Rattle.ice_defs.proofs.Integers.{neg_times}
use Rattle.ice_defs.proofs.Multiples.{one_time}
use Rattle.ice_pricing_laws.specs.Pools.{no_member, member_at}
use Rattle.ice_pricing_laws.proofs.Lists.{all-at, get_or-map_push, get_or-map_end, get_or-only_at, length-only_at, length-map_below, get_or-map_below}
use Rattle.ice_pricing_laws.proofs.Dens.{IsOver, AreOver}
use Rattle.ice_pricing_laws.proofs.Dots.{coefficient, dot_num, dot-over, least-over, over-most}
use Rattle.ice_pricing_laws.proofs.Programs.{above}
use Rattle.ice_pricing_laws.proofs.Duals.{pool_sum, sum_below-split}
use Rattle.ice_pricing_laws.proofs.Columns.{caps-column, caps-last}
use Rattle.ice_fair_laws.specs.Fair.{PaidTrade, own_units}
use Rattle.ice_fair_laws.specs.FairRun.{payment_num, set_units, over_row, under_row, bidder_rows, cap_row, member_row, fairness_program}

-- ---- lists one after the other

no_row : Constraint
no_row = record { coeffs = []; least = pos 0 }

dot-append : (xs ys : List ℤ) (a : ℕ → ℤ) (n k : ℕ) → length xs ≡ n → dot_num (xs ++ ys) a (n + k) ≡ dot_num xs a n +ℤ dot_num ys (λ i. a (n + i)) k
dot-append xs ys a n k size =
    let split = sum_below-split (λ j. coefficient (xs ++ ys) j *ℤ a j) n k in
    let left = sum_below-same (λ j. coefficient (xs ++ ys) j *ℤ a j) (λ j. coefficient xs j *ℤ a j) n (λ j h. ap (λ c. c *ℤ a j) (get_or_append_left xs ys (pos 0) j (omega (arith, size, h)))) in
    let right = sum_below-same (λ i. coefficient (xs ++ ys) (n + i) *ℤ a (n + i)) (λ i. coefficient ys i *ℤ a (n + i)) k
    (λ i h. ap (λ c. c *ℤ a (n + i)) (subst (λ m. coefficient (xs ++ ys) (m + i) ≡ coefficient ys i) size (get_or-append-add xs ys i (pos 0)))) in
    omega (arith, ints, split, left, right)

dot-below : (g : Constraint → ℤ) (first : ℕ → Constraint) (a : ℕ → ℤ) (n : ℕ) → dot_num (map g (map first (numbers_below n))) a n ≡ sum_below (λ i. g (first i) *ℤ a i) n
dot-below g first a n =
    sum_below-same _ (λ i. g (first i) *ℤ a i) n
    (λ i h. ap (λ c. c *ℤ a i) (get_or-map g (map first (numbers_below n)) i no_row (pos 0) (omega (arith, length-map_below first n, h)) ∙ ap g (get_or-map_below first n i no_row h)))

dot-pool : (g : Constraint → ℤ) (later : Member → Constraint) (pool : List Member) (a : ℕ → ℤ) → dot_num (map g (map later pool)) a (length pool) ≡ pool_sum pool (λ m. g (later m)) a
dot-pool g later pool a =
    sum_below-same _ (λ i. g (later (member_at pool i)) *ℤ a i) (length pool)
    (λ i h. ap (λ c. c *ℤ a i) (get_or-map g (map later pool) i no_row (pos 0) (omega (arith, length-map pool later, h)) ∙ ap g (get_or-map later pool i no_member no_row h)))

-- ---- two rows a bidder

pub length-pairs : {X : Type 0} (f g : ℕ → X) (n : ℕ) → length (flat_map (λ b. f b ∷ g b ∷ []) (numbers_below n)) ≡ 2 * n
length-pairs f g zero = refl
length-pairs f g (suc n) =
    let front = flat_map (λ b. f b ∷ g b ∷ []) (numbers_below n) in
    let e = ap length (flat_map-append (λ b. f b ∷ g b ∷ []) (numbers_below n) (n ∷ [])) in
    omega (arith, e, length-append front (f n ∷ g n ∷ []), length-pairs f g n)

dot-pairs : (g : Constraint → ℤ) (over under : ℕ → Constraint) (a : ℕ → ℤ) (n : ℕ)
    → dot_num (map g (flat_map (λ b. over b ∷ under b ∷ []) (numbers_below n))) a (2 * n) ≡ sum_below (λ b. (g (over b) *ℤ a (2 * b)) +ℤ (g (under b) *ℤ a (2 * b + 1))) n
dot-pairs g over under a zero = refl
dot-pairs g over under a (suc n) =
    let front : List Constraint = flat_map (λ b. over b ∷ under b ∷ []) (numbers_below n) in
    let pair : List Constraint = over n ∷ under n ∷ [] in
    let size : length (map g front) ≡ 2 * n = length-map front g ∙ length-pairs over under n in
    let rows : map g (flat_map (λ b. over b ∷ under b ∷ []) (numbers_below (suc n))) ≡ map g front ++ map g pair =
    ap (map g) (flat_map-append (λ b. over b ∷ under b ∷ []) (numbers_below n) (n ∷ [])) ∙ map-append g front pair in
    let long : 2 * suc n ≡ 2 * n + 2 = omega arith in
    let whole_sum = ap (λ rs. dot_num rs a (2 * suc n)) rows ∙ ap (dot_num (map g front ++ map g pair) a) long ∙ dot-append (map g front) (map g pair) a (2 * n) 2 size in
    let zeroth : a (2 * n + 0) ≡ a (2 * n) = (let e : 2 * n + 0 ≡ 2 * n = omega arith in ap a e) in
    let first = ap (λ z. g (over n) *ℤ z) zeroth in
    omega (arith, ints, whole_sum, dot-pairs g over under a n, first)

-- ---- the program

module _ (t : PaidTrade) (cut : ℕ) (delta : ℤ) (den : ℕ) (pool : List Member) where
  abbrev pub count : ℕ
  count = length t.trees

  -- the number of the rows behind those of the goods
  abbrev pub later_rows : ℕ
  later_rows = 2 * count + length pool

  abbrev pub worth : Member → ℤ
  worth m = worth_above t.trees t.weights t.sets t.goods t.cap m

  abbrev pub more : Member → ℕ → ℤ
  more m g = above t.trees t.weights t.sets t.goods t.cap m g

  pub rows-count : length (fairness_program t cut delta den pool).rows ≡ t.goods + later_rows
  rows-count =
      let caps : List Constraint = map (cap_row t cut delta den) (numbers_below t.goods) in
      let bidders : List Constraint = flat_map (bidder_rows t cut delta den) (numbers_below count) in
      let members : List Constraint = map (member_row t cut delta den) pool in
      omega (
        arith,
        length-append caps (bidders ++ members),
        length-append bidders members,
        length-map_below (cap_row t cut delta den) t.goods,
        length-pairs (over_row t cut delta den) (under_row t cut delta den) count,
        length-map pool (member_row t cut delta den),
      )

  module _ (a : ℕ → ℤ) where
    -- the numbers of a bidder's two rows, and of a member's row
    abbrev pub low_at : ℕ → ℤ
    low_at b = a (t.goods + 2 * b)

    abbrev pub high_at : ℕ → ℤ
    high_at b = a (t.goods + (2 * b + 1))

    abbrev pub member_num : ℕ → ℤ
    member_num i = a (t.goods + (2 * count + i))

    pub dot-program : (g : Constraint → ℤ) → dot_num (map g (fairness_program t cut delta den pool).rows) a (t.goods + later_rows)
        ≡ sum_below (λ i. g (cap_row t cut delta den i) *ℤ a i) t.goods
        +ℤ (sum_below (λ b. (g (over_row t cut delta den b) *ℤ low_at b) +ℤ (g (under_row t cut delta den b) *ℤ high_at b)) count +ℤ pool_sum pool (λ m. g (member_row t cut delta den m)) member_num)
    dot-program g =
        let caps : List Constraint = map (cap_row t cut delta den) (numbers_below t.goods) in
        let bidders : List Constraint = flat_map (bidder_rows t cut delta den) (numbers_below count) in
        let members : List Constraint = map (member_row t cut delta den) pool in
        let all : map g (caps ++ (bidders ++ members)) ≡ map g caps ++ (map g bidders ++ map g members) = map-append g caps (bidders ++ members) ∙ ap (λ rs. map g caps ++ rs) (map-append g bidders members) in
        let first = dot-append (map g caps) (map g bidders ++ map g members) a t.goods later_rows (length-map caps g ∙ length-map_below (cap_row t cut delta den) t.goods) in
        let second = dot-append (map g bidders) (map g members) (λ i. a (t.goods + i)) (2 * count) (length pool) (length-map bidders g ∙ length-pairs (over_row t cut delta den) (under_row t cut delta den) count) in
        omega (
          arith,
          ints,
          ap (λ rs. dot_num rs a (t.goods + later_rows)) all,
          first,
          second,
          dot-below g (cap_row t cut delta den) a t.goods,
          dot-pairs g (over_row t cut delta den) (under_row t cut delta den) (λ i. a (t.goods + i)) count,
          dot-pool g (member_row t cut delta den) pool (λ i. a (t.goods + (2 * count + i))),
        )

    -- what the duals say
    pub record FairDuals (d : ℕ) (sum : ℤ) : Type 0 where
      pub low : (j : ℕ) → j < t.goods + later_rows → pos 0 ≤ℤ a j
      pub columns : (g : ℕ) → g < t.goods
          → (sum_below (λ b. ((pos cut *ℤ own_units t b g) *ℤ low_at b) +ℤ ((neg_ℤ (pos cut) *ℤ own_units t b g) *ℤ high_at b)) count +ℤ pool_sum pool (λ m. pos (100 * den) *ℤ more m g) member_num) ≤ℤ a g
      pub last : sum_below (λ b. (pos cut *ℤ low_at b) +ℤ (pos cut *ℤ high_at b)) count ≤ℤ pos d
      pub total : sum ≡ (sum_below (λ b. (payment_num t cut delta den b *ℤ low_at b) +ℤ (neg_ℤ (payment_num t cut delta den b) *ℤ high_at b)) count
          +ℤ pool_sum pool (λ m. (pos den *ℤ worth m) -ℤ delta) member_num) -ℤ (t.cap *ℤ sum_below a t.goods)

    abbrev pub FairTotal : ℤ
    FairTotal = dot_num (leasts (fairness_program t cut delta den pool)) a (t.goods + later_rows)

    module _ (y : List Fraction) (d : ℕ) (hd : 0 < d) (are : AreOver d a y) (size : length y ≡ t.goods + later_rows) where
      sized : (cs : List ℤ) → IsOver d (dot_num cs a (t.goods + later_rows)) (dot cs y)
      sized cs = subst (λ k. IsOver d (dot_num cs a k) (dot cs y)) size (dot-over d cs y a hd are)

      pub fair-total : IsOver d FairTotal (dot (leasts (fairness_program t cut delta den pool)) y)
      fair-total = sized (leasts (fairness_program t cut delta den pool))

      column-most : (g : Constraint → ℤ) (most : ℤ) → AtMost (dot (map g (fairness_program t cut delta den pool).rows) y) (whole_number most)
          → (sum_below (λ i. g (cap_row t cut delta den i) *ℤ a i) t.goods
          +ℤ (sum_below (λ b. (g (over_row t cut delta den b) *ℤ low_at b) +ℤ (g (under_row t cut delta den b) *ℤ high_at b)) count +ℤ pool_sum pool (λ m. g (member_row t cut delta den m)) member_num))
          ≤ℤ (most *ℤ pos d)
      column-most g most h = subst (λ z. z ≤ℤ (most *ℤ pos d)) (dot-program g) (over-most d most _ _ (sized (map g (fairness_program t cut delta den pool).rows)) h)

      cost-of : (g : ℕ) → g < t.goods → coefficient (only_at (suc t.goods) t.goods (pos 1)) g ≡ pos 0
      cost-of g h = get_or-only_at (suc t.goods) t.goods g (pos 1) (omega (arith, h)) ∙ at_other t.goods g (pos 1) (λ e. absurd (omega (arith, e, h)))

      cost-last : coefficient (only_at (suc t.goods) t.goods (pos 1)) t.goods ≡ pos 1
      cost-last = get_or-only_at (suc t.goods) t.goods t.goods (pos 1) (omega arith) ∙ at_same t.goods t.goods (pos 1) refl

      pub fair-duals : (x : List Fraction) → AreDuals (fairness_program t cut delta den pool) x y → FairDuals d FairTotal
      fair-duals x duals =
          let width : length (only_at (suc t.goods) t.goods (pos 1)) ≡ suc t.goods = length-only_at (suc t.goods) t.goods (pos 1) in
          record {
            low = λ j h.
                let at = all-at (λ f. IsFraction f × AtMost (whole_number (pos 0)) f) y j (whole_number (pos 0)) duals.non_negative (omega (arith, size, h)) in
                let some = least-over d (pos 0) (a j) (fraction_at y j) (are j (omega (arith, size, h))) at.1 in
                omega (arith, ints, some, zero-*ℤ (pos d));
            columns = λ g h.
                let most = column-most (λ row. slice_index_or row.coeffs g (pos 0)) (coefficient (only_at (suc t.goods) t.goods (pos 1)) g) (duals.columns g (omega (arith, width, h))) in
                let sets = sum_below-same
                (λ b. (coefficient (set_units t cut delta den (pos cut) b ++ pos cut ∷ []) g *ℤ low_at b) +ℤ (coefficient (set_units t cut delta den (neg_ℤ (pos cut)) b ++ pos cut ∷ []) g *ℤ high_at b))
                (λ b. ((pos cut *ℤ own_units t b g) *ℤ low_at b) +ℤ ((neg_ℤ (pos cut) *ℤ own_units t b g) *ℤ high_at b)) count
                (λ b l. ap (λ c. (c *ℤ low_at b) +ℤ (coefficient (set_units t cut delta den (neg_ℤ (pos cut)) b ++ pos cut ∷ []) g *ℤ high_at b)) (get_or-map_push (λ k. pos cut *ℤ own_units t b k) t.goods g (pos cut) (pos 0) h)
                ∙ ap (λ c. ((pos cut *ℤ own_units t b g) *ℤ low_at b) +ℤ (c *ℤ high_at b)) (get_or-map_push (λ k. neg_ℤ (pos cut) *ℤ own_units t b k) t.goods g (pos cut) (pos 0) h)) in
                let members = sum_below-same (λ i. coefficient (units_above t.trees t.weights t.sets t.goods t.cap (pos (100 * den)) (member_at pool i) ++ pos 0 ∷ []) g *ℤ member_num i)
                (λ i. (pos (100 * den) *ℤ more (member_at pool i) g) *ℤ member_num i) (length pool)
                (λ i l. ap (λ c. c *ℤ member_num i) (get_or-map_push (λ k. pos (100 * den) *ℤ more (member_at pool i) k) t.goods g (pos 0) (pos 0) h)) in
                omega (arith, ints, most, caps-column t.goods g a h, sets, members, ap (λ z. z *ℤ pos d) (cost-of g h), zero-*ℤ (pos d));
            last =
                let most = column-most (λ row. slice_index_or row.coeffs t.goods (pos 0)) (coefficient (only_at (suc t.goods) t.goods (pos 1)) t.goods) (duals.columns t.goods (omega (arith, width))) in
                let sets = sum_below-same
                (λ b. (coefficient (set_units t cut delta den (pos cut) b ++ pos cut ∷ []) t.goods *ℤ low_at b) +ℤ (coefficient (set_units t cut delta den (neg_ℤ (pos cut)) b ++ pos cut ∷ []) t.goods *ℤ high_at b))
                (λ b. (pos cut *ℤ low_at b) +ℤ (pos cut *ℤ high_at b)) count
                (λ b l. ap (λ c. (c *ℤ low_at b) +ℤ (coefficient (set_units t cut delta den (neg_ℤ (pos cut)) b ++ pos cut ∷ []) t.goods *ℤ high_at b)) (get_or-map_end (λ k. pos cut *ℤ own_units t b k) t.goods (pos cut) (pos 0))
                ∙ ap (λ c. (pos cut *ℤ low_at b) +ℤ (c *ℤ high_at b)) (get_or-map_end (λ k. neg_ℤ (pos cut) *ℤ own_units t b k) t.goods (pos cut) (pos 0))) in
                let members = sum_below-zero (λ i. coefficient (units_above t.trees t.weights t.sets t.goods t.cap (pos (100 * den)) (member_at pool i) ++ pos 0 ∷ []) t.goods *ℤ member_num i) (length pool)
                (λ i l. ap (λ c. c *ℤ member_num i) (get_or-map_end (λ k. pos (100 * den) *ℤ more (member_at pool i) k) t.goods (pos 0) (pos 0)) ∙ zero-*ℤ (member_num i)) in
                omega (arith, ints, most, caps-last t.goods a, sets, members, ap (λ z. z *ℤ pos d) cost-last, one_time (pos d));
            total =
                let all = dot-program (λ row. row.least) in
                omega (arith, ints, all, sum_below-times (neg_ℤ t.cap) a t.goods, neg_times t.cap (sum_below a t.goods));
          }
