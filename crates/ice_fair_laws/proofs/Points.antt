-- The points of the fairness program over a common denominator, as inequalities of integers.
use Rattle.std.proofs.Common.{ℕ, zero, suc, ◌*◌, ◌<◌, ◌≡◌, List, [], ◌∷◌, ◌++◌, length, map, ℤ, pos, neg_ℤ, ◌+ℤ◌, ◌*ℤ◌, ◌≤ℤ◌, arith, subst, sym, ◌∙◌}
use Rattle.std.specs.List.{AllByRecursion, flat_map}
use Rattle.std.proofs.lemmas.Int.{ints}
use Rattle.std.proofs.lemmas.Grind.{flat_map-append}
use Rattle.std.proofs.Math.IntN.{zero-*ℤ}
use Rattle.ice_defs.specs.Sum.{sum_below, numbers_below}
use Rattle.ice_defs.specs.Fraction.{Fraction, whole_number, IsFraction, AtMost, fraction_at}
use Rattle.ice_defs.specs.Program.{Constraint, dot, IsPoint}
use Rattle.ice_defs.specs.PricingRun.{Member, only_at, units_above}
use Rattle.ice_defs.proofs.Lists.{all-append, all-first, all-last, map-all, all-from}
use Rattle.ice_defs.proofs.Integers.{neg_times}
use Rattle.ice_defs.proofs.Multiples.{one_time}
use Rattle.ice_pricing_laws.proofs.Lists.{all-map, all-each, all-at, all-below, below-all, length-only_at}
use Rattle.ice_pricing_laws.proofs.Dens.{IsOver, AreOver}
use Rattle.ice_pricing_laws.proofs.Dots.{dot_num, dot-over, least-over, over-least}
use Rattle.ice_pricing_laws.proofs.Programs.{above, MeetsBalance, minus-*ℤ, dot-only_at, dot-push}
use Rattle.ice_fair_laws.specs.Fair.{PaidTrade, own_units}
use Rattle.ice_fair_laws.specs.FairRun.{payment_num, set_units, over_row, under_row, bidder_rows, cap_row, member_row, fairness_program}

-- ---- two rows a bidder

pub all-pairs : {X : Type 0} (P : X → Type 0) (f g : ℕ → X) (n : ℕ) → ((b : ℕ) → b < n → P (f b) × P (g b)) → AllByRecursion P (flat_map (λ b. f b ∷ g b ∷ []) (numbers_below n))
all-pairs P f g zero each = tt
all-pairs P f g (suc n) each =
    subst (AllByRecursion P) (sym (flat_map-append (λ b. f b ∷ g b ∷ []) (numbers_below n) (n ∷ [])))
    (all-append P (flat_map (λ b. f b ∷ g b ∷ []) (numbers_below n)) (f n ∷ g n ∷ []) (all-pairs P f g n (λ b h. each b (omega (arith, h)))) ((each n (omega arith)).0, ((each n (omega arith)).1, tt)))

pub pairs-all : {X : Type 0} (P : X → Type 0) (f g : ℕ → X) (n : ℕ) → AllByRecursion P (flat_map (λ b. f b ∷ g b ∷ []) (numbers_below n)) → AllByRecursion (λ b. P (f b) × P (g b)) (numbers_below n)
pairs-all P f g zero are = tt
pairs-all P f g (suc n) are =
    let split = subst (AllByRecursion P) (flat_map-append (λ b. f b ∷ g b ∷ []) (numbers_below n) (n ∷ [])) are in
    let front = flat_map (λ b. f b ∷ g b ∷ []) (numbers_below n) in
    let last = all-last P front (f n ∷ g n ∷ []) split in
    all-append (λ b. P (f b) × P (g b)) (numbers_below n) (n ∷ []) (pairs-all P f g n (all-first P front (f n ∷ g n ∷ []) split)) ((last.0, last.1.0), tt)

-- ---- points

module _ (t : PaidTrade) (cut : ℕ) (delta : ℤ) (den : ℕ) where
  abbrev pub MeetsOver : ℕ → (ℕ → ℤ) → ℕ → Type 0
  MeetsOver d n b = (payment_num t cut delta den b *ℤ pos d) ≤ℤ (sum_below (λ g. (pos cut *ℤ own_units t b g) *ℤ n g) t.goods +ℤ (pos cut *ℤ n t.goods))

  abbrev pub MeetsUnder : ℕ → (ℕ → ℤ) → ℕ → Type 0
  MeetsUnder d n b = (neg_ℤ (payment_num t cut delta den b) *ℤ pos d) ≤ℤ (sum_below (λ g. (neg_ℤ (pos cut) *ℤ own_units t b g) *ℤ n g) t.goods +ℤ (pos cut *ℤ n t.goods))

  pub record IsFairPoint (pool : List Member) (d : ℕ) (n : ℕ → ℤ) : Type 0 where
    pub low : (j : ℕ) → j < suc t.goods → pos 0 ≤ℤ n j
    pub high : (g : ℕ) → g < t.goods → n g ≤ℤ (t.cap *ℤ pos d)
    pub bidders : (b : ℕ) → b < length t.trees → MeetsOver d n b × MeetsUnder d n b
    pub members : AllByRecursion (MeetsBalance t.trees t.weights t.sets t.goods t.cap delta den d n) pool

  module _ (x : List Fraction) (d : ℕ) (n : ℕ → ℤ) (hd : 0 < d) (are : AreOver d n x) (size : length x ≡ suc t.goods) where
    row-over : (cs : List ℤ) (m : ℤ) → dot_num cs n (suc t.goods) ≡ m → IsOver d m (dot cs x)
    row-over cs m e = subst (λ k. IsOver d k (dot cs x)) e (subst (λ k. IsOver d (dot_num cs n k) (dot cs x)) size (dot-over d cs x n hd are))

    cap-over : (g : ℕ) → g < t.goods → IsOver d (neg_ℤ (n g)) (dot (only_at (suc t.goods) g (neg_ℤ (pos 1))) x)
    cap-over g h = row-over _ _ (dot-only_at (suc t.goods) g (neg_ℤ (pos 1)) n (omega (arith, h)) ∙ minus-*ℤ (n g))

    set-over : (factor : ℤ) (b : ℕ) → IsOver d (sum_below (λ g. (factor *ℤ own_units t b g) *ℤ n g) t.goods +ℤ (pos cut *ℤ n t.goods)) (dot (set_units t cut delta den factor b ++ pos cut ∷ []) x)
    set-over factor b = row-over _ _ (dot-push (λ g. factor *ℤ own_units t b g) t.goods (pos cut) n)

    member-over : (m : Member) → IsOver d (sum_below (λ g. (pos (100 * den) *ℤ above t.trees t.weights t.sets t.goods t.cap m g) *ℤ n g) t.goods +ℤ (pos 0 *ℤ n t.goods))
        (dot (units_above t.trees t.weights t.sets t.goods t.cap (pos (100 * den)) m ++ pos 0 ∷ []) x)
    member-over m = row-over _ _ (dot-push (λ g. pos (100 * den) *ℤ above t.trees t.weights t.sets t.goods t.cap m g) t.goods (pos 0) n)

    pub fair-cost-over : IsOver d (n t.goods) (dot (only_at (suc t.goods) t.goods (pos 1)) x)
    fair-cost-over = row-over _ _ (dot-only_at (suc t.goods) t.goods (pos 1) n (omega arith) ∙ one_time (n t.goods))

    abbrev Meets : Constraint → Type 0
    Meets row = AtMost (whole_number row.least) (dot row.coeffs x)

    abbrev caps : List Constraint
    caps = map (cap_row t cut delta den) (numbers_below t.goods)

    abbrev bidders : List Constraint
    bidders = flat_map (bidder_rows t cut delta den) (numbers_below (length t.trees))

    pub from_fair : (pool : List Member) → IsPoint (fairness_program t cut delta den pool) x → IsFairPoint pool d n
    from_fair pool point =
        let members : List Constraint = map (member_row t cut delta den) pool in
        let first = all-first Meets caps (bidders ++ members) point.rows in
        let rest = all-last Meets caps (bidders ++ members) point.rows in
        let second = all-first Meets bidders members rest in
        let third = all-last Meets bidders members rest in
        record {
          low = λ j h.
              let at = all-at (λ f. IsFraction f × AtMost (whole_number (pos 0)) f) x j (whole_number (pos 0)) point.non_negative (omega (arith, size, h)) in
              let some = least-over d (pos 0) (n j) (fraction_at x j) (are j (omega (arith, size, h))) at.1 in
              omega (arith, ints, some, zero-*ℤ (pos d));
          high = λ g h.
              let row = least-over d (neg_ℤ t.cap) (neg_ℤ (n g)) _ (cap-over g h) (below-all (λ i. Meets (cap_row t cut delta den i)) t.goods (map-all Meets (cap_row t cut delta den) (numbers_below t.goods) first) g h) in
              omega (arith, ints, row, neg_times t.cap (pos d));
          bidders = λ b h.
              let both = below-all (λ i. Meets (over_row t cut delta den i) × Meets (under_row t cut delta den i)) (length t.trees) (pairs-all Meets (over_row t cut delta den) (under_row t cut delta den) (length t.trees) second) b h in (
                least-over d (payment_num t cut delta den b) _ _ (set-over (pos cut) b) both.0,
                least-over d (neg_ℤ (payment_num t cut delta den b)) _ _ (set-over (neg_ℤ (pos cut)) b) both.1,
              );
          members = all-each (λ m. Meets (member_row t cut delta den m)) (MeetsBalance t.trees t.weights t.sets t.goods t.cap delta den d n) pool
              (λ m h. let row = least-over d _ _ _ (member-over m) h in omega (arith, ints, row, zero-*ℤ (n t.goods)))
              (map-all Meets (member_row t cut delta den) pool third);
        }

    pub to_fair : (pool : List Member) → IsFairPoint pool d n → IsPoint (fairness_program t cut delta den pool) x
    to_fair pool is = record {
      same_length = omega (arith, size, length-only_at (suc t.goods) t.goods (pos 1));
      non_negative = all-from (λ f. IsFraction f × AtMost (whole_number (pos 0)) f) x (whole_number (pos 0))
          (λ j h. let one = are j h in
          (one.proper, over-least d (pos 0) (n j) (fraction_at x j) hd one (let some = is.low j (omega (arith, size, h)) in omega (arith, ints, some, zero-*ℤ (pos d)))));
      rows = all-append Meets caps (bidders ++ map (member_row t cut delta den) pool)
          (all-map Meets (cap_row t cut delta den) (numbers_below t.goods)
          (all-below (λ i. Meets (cap_row t cut delta den i)) t.goods
          (λ g h. over-least d (neg_ℤ t.cap) (neg_ℤ (n g)) _ hd (cap-over g h) (let most = is.high g h in omega (arith, ints, most, neg_times t.cap (pos d))))))
          (all-append Meets bidders (map (member_row t cut delta den) pool)
          (all-pairs Meets (over_row t cut delta den) (under_row t cut delta den) (length t.trees)
          (λ b h. (
            over-least d (payment_num t cut delta den b) _ _ hd (set-over (pos cut) b) (is.bidders b h).0,
            over-least d (neg_ℤ (payment_num t cut delta den b)) _ _ hd (set-over (neg_ℤ (pos cut)) b) (is.bidders b h).1,
          )))
          (all-map Meets (member_row t cut delta den) pool
          (all-each (MeetsBalance t.trees t.weights t.sets t.goods t.cap delta den d n) (λ m. Meets (member_row t cut delta den m)) pool
          (λ m h. over-least d _ _ _ hd (member-over m) (omega (arith, ints, h, zero-*ℤ (n t.goods)))) is.members)));
    }
