-- The duals of least points give rows that pass the tests.
use Rattle.std.proofs.Common.{ℕ, ◌+◌, ◌*◌, ◌<◌, ◌≤◌, ◌≡◌, List, ◌++◌, length, map, drop, ℤ, pos, ◌-ℤ◌, ◌*ℤ◌, ◌≤ℤ◌, arith, ap, sym, subst, ◌∙◌}
use Rattle.std.specs.List.{AllByRecursion}
use Rattle.std.proofs.lemmas.Int.{ints}
use Rattle.std.proofs.lemmas.List.{get_or-drop, length-drop, length-map, length-append}
use Rattle.std.proofs.Math.IntN.{*ℤ_comm}
use Rattle.ice_defs.specs.Sum.{sum_below, numbers_below}
use Rattle.ice_defs.specs.Tree.{Tree}
use Rattle.ice_defs.specs.Set.{Weights, value, units}
use Rattle.ice_defs.specs.Trade.{Assignment, tree_of, set_of, weights_of}
use Rattle.ice_defs.specs.Prices.{Prices, ArePrices}
use Rattle.ice_defs.specs.Pricing.{IsViolation, top_of}
use Rattle.ice_defs.specs.Rows.{Row, weighted_sum, demand}
use Rattle.ice_defs.specs.Rows as rows
use Rattle.ice_defs.specs.Fraction.{Fraction, whole_number, Equals, times, fraction_at}
use Rattle.ice_defs.specs.Program.{Constraint, dot, leasts, cost}
use Rattle.ice_defs.specs.PricingRun.{Member, accuracy_program, balance_program, solution_prices, worth_above}
use Rattle.ice_defs.proofs.Products.{times-le}
use Rattle.ice_frac.proofs.Ring.{is_diff, diff_same, diff_pos, diffs}
use Rattle.ice_frac.proofs.Fractions.{Equals-trans, Equals_from_AtMost, AtMost_from_Equals}
use Rattle.ice_row_laws.specs.Laws.{AreSatisfied}
use Rattle.ice_defs.proofs.Multiples.{times_less, times_swap, times_turn, times_keep, times_cancel, one_time}
use Rattle.ice_row_laws.proofs.Weighted.{total_weight, weighted_sum-ones}
use Rattle.ice_row_laws.proofs.Priced.{violation-ge, rows-le}
use Rattle.ice_row_laws.proofs.Accurate.{wanted-le}
use Rattle.ice_pricing_laws.specs.Weights.{rows_with, AreWeights, DualsPassAccuracy, DualsPassBalance}
use Rattle.ice_pricing_laws.proofs.Lists.{length-map_below}
use Rattle.ice_pricing_laws.proofs.Dens.{IsOver, AreOver}
use Rattle.ice_pricing_laws.proofs.Dots.{times-over, over-same}
use Rattle.ice_pricing_laws.proofs.Programs.{above, cost-over}
use Rattle.ice_pricing_laws.proofs.Solved.{den_of, num_at, den_of-pos, are_over-own, own-pos, own-over}
use Rattle.ice_pricing_laws.proofs.Accuracy.{point-size, least_is_accurate}
use Rattle.ice_pricing_laws.proofs.Balanced.{balance-size, violation-balance_point, least-top, point-top, least_is_balanced}
use Rattle.ice_pricing_laws.proofs.Duals.{pool_sum}
use Rattle.ice_pricing_laws.proofs.Columns.{AccuracyTotal, accuracy-total, accuracy-duals, BalanceTotal, balance-total, balance-duals}
use Rattle.ice_pricing_laws.proofs.Weighed.{weight_at, weighted-rows, rows-proper, cancel_left, pool_sum-times, pool_sum-same, AreMultiples, pool_sum-scaled, wanted-most}

-- ---- integers

accuracy-lower : (w s0 sa c wt v s : ℤ) (e d k : ℕ) → 0 < e → pos e *ℤ w ≡ pos d *ℤ s0 → (pos 100 *ℤ (pos e *ℤ wt)) ≤ℤ (pos d *ℤ sa) → pos 0 ≤ℤ c → s *ℤ pos k ≡ v *ℤ pos e → s ≡ s0 -ℤ (c *ℤ sa)
    → (v *ℤ pos d) ≤ℤ (pos k *ℤ (w -ℤ (pos 100 *ℤ (c *ℤ wt))))
accuracy-lower w s0 sa c wt v s e d k he worths wants some equal is =
    let t : ℤ = w -ℤ (pos 100 *ℤ (c *ℤ wt)) in
    let kept = times_keep c (pos 100 *ℤ (pos e *ℤ wt)) (pos d *ℤ sa) some wants in
    let under : (pos d *ℤ s) ≤ℤ (pos e *ℤ t) =
    omega (
      arith,
      ints,
      kept,
      times_swap 100 c (pos e *ℤ wt),
      times_swap e c wt,
      times_swap d c sa,
      worths,
      ap (λ z. pos d *ℤ z) is,
      times_less (pos d) s0 (c *ℤ sa),
      times_less (pos e) w (pos 100 *ℤ (c *ℤ wt)),
      times_swap 100 (pos e) (c *ℤ wt),
    ) in
    times_cancel e (v *ℤ pos d) (pos k *ℤ t) he
    (omega (
      arith,
      ints,
      times-le k (pos d *ℤ s) (pos e *ℤ t) under,
      times_swap d (pos k) s,
      ap (λ z. pos d *ℤ z) (*ℤ_comm (pos k) s ∙ equal),
      times_turn d e v,
      times_swap e (pos k) t,
    ))

balance-equal : (x y s v delta top : ℤ) (e d k m : ℕ) → 0 < e → 0 < m → pos m *ℤ x ≡ pos k *ℤ y → pos e *ℤ y ≡ pos d *ℤ (pos (100 * m) *ℤ s) → s *ℤ pos k ≡ top *ℤ pos e
    → x ≡ pos 100 *ℤ (pos d *ℤ top)
balance-equal x y s v delta top e d k m he hm both scaled total =
    let z : ℤ = pos 100 *ℤ (pos d *ℤ top) in
    let turned : s *ℤ pos k ≡ top *ℤ pos e → pos k *ℤ (pos d *ℤ (pos (100 * m) *ℤ s)) ≡ pos e *ℤ (pos m *ℤ z) = λ h. first ∙ ap (λ u. pos d *ℤ (pos (100 * m) *ℤ u)) h ∙ second in
    cancel_left m x z hm
    (cancel_left e (pos m *ℤ x) (pos m *ℤ z) he
    (ap (λ u. pos e *ℤ u) both ∙ sym (times_swap e (pos k) y) ∙ ap (λ u. pos k *ℤ u) scaled ∙ turned total))
  where
    first : pos k *ℤ (pos d *ℤ (pos (100 * m) *ℤ s)) ≡ pos d *ℤ (pos (100 * m) *ℤ (s *ℤ pos k))
    first = rw (is_diff s) (simp (diffs, diff_pos) (diff_same _ _ _ _ (omega arith)))

    second : pos d *ℤ (pos (100 * m) *ℤ (top *ℤ pos e)) ≡ pos e *ℤ (pos m *ℤ (pos 100 *ℤ (pos d *ℤ top)))
    second = rw (is_diff top) (simp (diffs, diff_pos) (diff_same _ _ _ _ (omega arith)))

-- ---- weights

module _ (goods : ℕ) (pool : List Member) (y : List Fraction) (d : ℕ) (a : ℕ → ℤ) (are : AreOver d a y) (size : length y ≡ goods + length pool) where
  weights-size : (factor den : ℕ) (ns : List ℕ) → AreWeights factor (drop goods y) den ns → length ns ≡ length pool
  weights-size factor den ns weights = omega (arith, weights.same_length, length-drop goods y, size)

  weights-multiples : (factor den : ℕ) (ns : List ℕ) → AreWeights factor (drop goods y) den ns → AreMultiples pool factor den d (weight_at ns) (λ i. a (goods + i))
  weights-multiples factor den ns weights i h =
      let f : Fraction = fraction_at y (goods + i) in
      let here = are (goods + i) (omega (arith, size, h)) in
      let whole_over : IsOver d (pos factor *ℤ a (goods + i)) (times (whole_number (pos factor)) f) = times-over d (pos factor) (a (goods + i)) f here in
      let e : Equals (record { num = weight_at ns i; den = den }) (times (whole_number (pos factor)) f) =
      subst (λ (g : Fraction). Equals (record { num = weight_at ns i; den = den }) (times (whole_number (pos factor)) g)) (get_or-drop goods y i (whole_number (pos 0))) (weights.equal i (omega (arith, length-drop goods y, size, h))) in
      over-same den d (weight_at ns i) (pos factor *ℤ a (goods + i)) (times (whole_number (pos factor)) f) (record { proper = whole_over.proper; equal = sym e }) whole_over

module _ (ts : List Tree) (ws : List Weights) (sets : Assignment) (goods : ℕ) (cap : ℤ) (pool : List Member) where
  units-rows : (g : ℕ) (ns : List ℕ) → length ns ≡ length pool → weighted_sum (rows.units_above ts ws sets g) (rows_with pool ns) ≡ pool_sum pool (λ m. above ts ws sets goods cap m g) (weight_at ns)
  units-rows g ns size = weighted-rows (λ b s. units (tree_of ts b) s g -ℤ units (tree_of ts b) (set_of sets b) g) pool ns size

  worth-rows : (ns : List ℕ) → length ns ≡ length pool → weighted_sum (rows.worth_above ts ws sets) (rows_with pool ns) ≡ pool_sum pool (λ m. worth_above ts ws sets goods cap m) (weight_at ns)
  worth-rows ns size = weighted-rows (λ b s. value s (weights_of ws b) -ℤ value (set_of sets b) (weights_of ws b)) pool ns size

  total-rows : (ns : List ℕ) → length ns ≡ length pool → pos (total_weight (rows_with pool ns)) ≡ pool_sum pool (λ m. pos 1) (weight_at ns)
  total-rows ns size = sym (weighted_sum-ones (rows_with pool ns)) ∙ weighted-rows (λ b s. pos 1) pool ns size

  -- the rows' worth above what they want at the cap is at
  -- most the violation at any prices within the cap
  worth-most : (p : Prices) (v : ℤ) (rs : List Row) (den : ℕ) → AreSatisfied ts sets → ArePrices goods cap p → IsViolation ts ws sets p v
      → AllByRecursion (rows.IsRow ts ws sets) rs → total_weight rs ≤ den
      → (pos p.den *ℤ (weighted_sum (rows.worth_above ts ws sets) rs -ℤ (pos 100 *ℤ (cap *ℤ demand ts ws sets goods rs)))) ≤ℤ (v *ℤ pos den)
  worth-most p v rs den satisfied within is are weights =
      let sum = weighted_sum (rows.worth_above ts ws sets) rs in
      let all = demand ts ws sets goods rs in
      let top = cap *ℤ pos p.den in
      let turned : top *ℤ all ≡ pos p.den *ℤ (cap *ℤ all) =
      *ℤ_comm top all ∙ ap (λ z. all *ℤ z) (*ℤ_comm cap (pos p.den)) ∙ times_swap p.den all cap ∙ ap (λ z. pos p.den *ℤ z) (*ℤ_comm all cap) in
      omega (
        arith,
        ints,
        rows-le ts ws sets p v is rs are,
        wanted-le ts ws sets goods p top rs within.same_length within.low within.high,
        turned,
        times_less (pos p.den) sum (pos 100 *ℤ (cap *ℤ all)),
        times_swap 100 (pos p.den) (cap *ℤ all),
        times_keep v (pos (total_weight rs)) (pos den) (violation-ge ts ws sets p v is satisfied) (omega (arith, ints, weights)),
      )

  rows-size : (first : ℕ → Constraint) (later : Member → Constraint) → length (map first (numbers_below goods) ++ map later pool) ≡ goods + length pool
  rows-size first later = omega (arith, length-append (map first (numbers_below goods)) (map later pool), length-map_below first goods, length-map pool later)

pub duals_pass_accuracy : DualsPassAccuracy
duals_pass_accuracy ts ws sets goods cap pool x y v den ns some satisfied members least duals none is weights =
    let program = accuracy_program ts ws sets goods cap pool in
    let p : Prices = solution_prices ts ws sets goods cap x in
    let rs : List Row = rows_with pool ns in
    let (accurate, equals) = least_is_accurate ts ws sets goods cap pool x v satisfied members least none is in
    let long : length y ≡ goods + length pool = duals.same_length ∙ rows-size ts ws sets goods cap pool _ _ in
    let e : ℕ = den_of y in
    let a : ℕ → ℤ = num_at y in
    let b : ℕ → ℤ = λ i. a (goods + i) in
    let he = own-pos y duals.non_negative in
    let over = own-over y duals.non_negative in
    let facts = accuracy-duals ts ws sets goods cap pool y e a he over long x duals in
    let s : ℤ = AccuracyTotal ts ws sets goods cap pool y e a he over long in
    let total = accuracy-total ts ws sets goods cap pool y e a he over long in
    let size = point-size ts ws sets goods cap pool x least.point in
    let low = least.point.non_negative in
    let dx : ℕ = den_of x in
    let top : ℤ = num_at x goods in
    let mine = cost-over ts ws sets goods cap x dx (num_at x) (den_of-pos goods x low size) (are_over-own goods x low size) size in
    let own = are_over-own goods x low size goods (omega (arith, size)) in
    let sum = dot (leasts program) y in
    let left : s *ℤ pos dx ≡ top *ℤ pos e =
    over-same e dx s top sum total (record { proper = total.proper; equal = Equals-trans sum (cost program x) (record { num = top; den = dx }) mine.proper duals.equal mine.equal }) in
    let right : v *ℤ pos dx ≡ top *ℤ pos p.den = over-same p.den dx v top (fraction_at x goods) (record { proper = own.proper; equal = sym equals }) own in
    let even : s *ℤ pos p.den ≡ v *ℤ pos e = Equals-trans (record { num = s; den = e }) (record { num = top; den = dx }) (record { num = v; den = p.den }) (den_of-pos goods x low size) left (sym right) in
    let few = weights-size goods pool y e a over long 1 den ns weights in
    let multiples = weights-multiples goods pool y e a over long 1 den ns weights in
    let scaled : (f : Member → ℤ) → pos e *ℤ pool_sum pool f (weight_at ns) ≡ pos den *ℤ pool_sum pool f b =
    λ f. pool_sum-scaled pool 1 den e (weight_at ns) b f multiples ∙ ap (λ z. pos den *ℤ z) (one_time (pool_sum pool f b)) in
    let worth : Member → ℤ = worth_above ts ws sets goods cap in
    let worths = ap (λ z. pos e *ℤ z) (worth-rows ts ws sets goods cap pool ns few) ∙ scaled worth in
    let each : (g : ℕ) → g < goods → (pos 100 *ℤ (pos e *ℤ weighted_sum (rows.units_above ts ws sets g) rs)) ≤ℤ (pos den *ℤ a g) =
    λ g h.
    let u : Member → ℤ = λ m. above ts ws sets goods cap m g in
    omega (
      arith,
      ints,
      times-le den (pool_sum pool (λ m. pos 100 *ℤ u m) b) (a g) (facts.columns g h),
      ap (λ z. pos den *ℤ z) (pool_sum-times pool (pos 100) u b),
      times_swap 100 (pos den) (pool_sum pool u b),
      ap (λ z. pos e *ℤ z) (units-rows ts ws sets goods cap pool g ns few) ∙ scaled u,
    ) in
    let wants = wanted-most 100 e den (λ g. weighted_sum (rows.units_above ts ws sets g) rs) a goods facts.low each in
    let heavy : total_weight rs ≤ den =
    (let most : pos (total_weight rs) ≤ℤ pos den =
    times_cancel e (pos (total_weight rs)) (pos den) he
    (omega (
      arith,
      ints,
      ap (λ z. pos e *ℤ z) (total-rows ts ws sets goods cap pool ns few) ∙ scaled (λ m. pos 1),
      times-le den (pool_sum pool (λ m. pos 1) b) (pos e) facts.last,
      *ℤ_comm (pos den) (pos e),
    )) in
    omega (arith, ints, most)) in
    let proper = rows-proper ts ws sets pool ns members in
    let lower =
    accuracy-lower (weighted_sum (rows.worth_above ts ws sets) rs) (pool_sum pool worth b) (sum_below a goods) cap (demand ts ws sets goods rs) v s e den p.den he worths wants some even facts.total in
    let upper = worth-most ts ws sets goods cap pool p v rs den satisfied accurate.within is proper heavy in
    record { proper = weights.positive; rows = proper; weights = heavy; equal = omega (arith, ints, lower, upper) }

pub duals_pass_balance : DualsPassBalance
duals_pass_balance ts ws sets goods cap pool p delta x y v den ns satisfied members accurate is least duals none other weights =
    let program = balance_program ts ws sets goods cap delta p.den pool in
    let r : Prices = solution_prices ts ws sets goods cap x in
    let rs : List Row = rows_with pool ns in
    let factor : ℕ = 100 * p.den in
    let (balanced, equals) = least_is_balanced ts ws sets goods cap pool p delta x v satisfied members accurate is least none other in
    let within = balanced.accurate.within in
    let long : length y ≡ goods + length pool = duals.same_length ∙ rows-size ts ws sets goods cap pool _ _ in
    let e : ℕ = den_of y in
    let a : ℕ → ℤ = num_at y in
    let b : ℕ → ℤ = λ i. a (goods + i) in
    let he = own-pos y duals.non_negative in
    let over = own-over y duals.non_negative in
    let facts = balance-duals ts ws sets goods cap pool y e a he over long delta p.den x duals in
    let s : ℤ = BalanceTotal ts ws sets goods cap pool y e a he over long delta p.den in
    let total = balance-total ts ws sets goods cap pool y e a he over long delta p.den in
    let size = balance-size ts ws sets goods cap delta p.den pool x least.point in
    let low = least.point.non_negative in
    let dx : ℕ = den_of x in
    let last : ℤ = num_at x goods in
    let mine = cost-over ts ws sets goods cap x dx (num_at x) (den_of-pos goods x low size) (are_over-own goods x low size) size in
    let sum = dot (leasts program) y in
    let left : s *ℤ pos dx ≡ last *ℤ pos e =
    over-same e dx s last sum total (record { proper = total.proper; equal = Equals-trans sum (cost program x) (record { num = last; den = dx }) mine.proper duals.equal mine.equal }) in
    let point = violation-balance_point ts ws sets goods cap delta p.den pool r v members within other (AtMost_from_Equals (record { num = v; den = r.den }) (record { num = delta; den = p.den }) equals) in
    let right : Equals (record { num = last; den = dx }) (record { num = top_of r; den = r.den }) =
    Equals_from_AtMost (record { num = last; den = dx }) (record { num = top_of r; den = r.den })
    (least-top ts ws sets goods cap delta p.den pool x r least within point) (point-top ts ws sets goods cap delta p.den pool x least.point) in
    let even : s *ℤ pos r.den ≡ top_of r *ℤ pos e = Equals-trans (record { num = s; den = e }) (record { num = last; den = dx }) (record { num = top_of r; den = r.den }) (den_of-pos goods x low size) left right in
    let few = weights-size goods pool y e a over long factor den ns weights in
    let multiples = weights-multiples goods pool y e a over long factor den ns weights in
    let scaled : (f : Member → ℤ) → pos e *ℤ pool_sum pool f (weight_at ns) ≡ pos den *ℤ (pos factor *ℤ pool_sum pool f b) =
    λ f. pool_sum-scaled pool factor den e (weight_at ns) b f multiples in
    let each : (g : ℕ) → g < goods → (pos 1 *ℤ (pos e *ℤ weighted_sum (rows.units_above ts ws sets g) rs)) ≤ℤ (pos den *ℤ a g) =
    λ g h.
    let u : Member → ℤ = λ m. above ts ws sets goods cap m g in
    omega (
      arith,
      ints,
      times-le den (pool_sum pool (λ m. pos factor *ℤ u m) b) (a g) (facts.columns g h),
      ap (λ z. pos den *ℤ z) (pool_sum-times pool (pos factor) u b),
      ap (λ z. pos e *ℤ z) (units-rows ts ws sets goods cap pool g ns few) ∙ scaled u,
      one_time (pos e *ℤ weighted_sum (rows.units_above ts ws sets g) rs),
    ) in
    let wants = wanted-most 1 e den (λ g. weighted_sum (rows.units_above ts ws sets g) rs) a goods facts.low each in
    let all : ℤ = demand ts ws sets goods rs in
    let asked : all ≤ℤ pos den =
    times_cancel e all (pos den) he (omega (arith, ints, wants, one_time (pos e *ℤ all), times-le den (sum_below a goods) (pos e) facts.last, *ℤ_comm (pos den) (pos e))) in
    let worth : Member → ℤ = worth_above ts ws sets goods cap in
    let first : Member → ℤ = λ m. (pos r.den *ℤ worth m) -ℤ v in
    let second : Member → ℤ = λ m. (pos p.den *ℤ worth m) -ℤ delta in
    let both : pos p.den *ℤ pool_sum pool first (weight_at ns) ≡ pos r.den *ℤ pool_sum pool second (weight_at ns) =
    sym (pool_sum-times pool (pos p.den) first (weight_at ns))
    ∙ pool_sum-same pool (λ m. pos p.den *ℤ first m) (λ m. pos r.den *ℤ second m) (weight_at ns)
    (λ m. omega (
      arith,
      ints,
      times_less (pos p.den) (pos r.den *ℤ worth m) v,
      times_less (pos r.den) (pos p.den *ℤ worth m) delta,
      times_swap r.den (pos p.den) (worth m),
      equals,
      *ℤ_comm (pos p.den) v,
      *ℤ_comm (pos r.den) delta,
    ))
    ∙ pool_sum-times pool (pos r.den) second (weight_at ns) in
    let turned : pos e *ℤ pool_sum pool second (weight_at ns) ≡ pos den *ℤ (pos factor *ℤ s) = scaled second ∙ ap (λ z. pos den *ℤ (pos factor *ℤ z)) (sym facts.total) in
    record {
      proper = weights.positive;
      rows = rows-proper ts ws sets pool ns members;
      weights = asked;
      equal =
          weighted-rows (λ c k. (pos r.den *ℤ (value k (weights_of ws c) -ℤ value (set_of sets c) (weights_of ws c))) -ℤ v) pool ns few
          ∙ balance-equal (pool_sum pool first (weight_at ns)) (pool_sum pool second (weight_at ns)) s v delta (top_of r) e den r.den p.den he accurate.within.positive both turned even;
    }
