-- How large a violation of provisional sets gets, and what their certificates may be written with.
use Rattle.std.proofs.Common.{ℕ, zero, suc, ◌*◌, ◌<◌, ◌≤◌, ◌≡◌, ◌^◌, List, [], ◌∷◌, length, map, ℤ, pos, ◌*ℤ◌, ◌-ℤ◌, ◌≤ℤ◌, arith, subst, ◌∙◌}
use Rattle.std.specs.Int.{int_max}
use Rattle.std.specs.List.{AllByRecursion}
use Rattle.std.proofs.lemmas.Int.{ints, clamps}
use Rattle.std.proofs.lemmas.List.Sums.{sum_by-cons}
use Rattle.std.proofs.Math.Nat.{mul-le-mul_right}
use Rattle.std.proofs.Math.IntN.{pos-*ℤ-pos, *ℤ-zero}
use Rattle.ice_defs.specs.Sum.{sum_below}
use Rattle.ice_defs.specs.Tree.{Tree}
use Rattle.ice_defs.specs.Set.{NodeSet, value}
use Rattle.ice_defs.specs.Trade.{Assignment, tree_of, set_of, weights_of, IsFeasible}
use Rattle.ice_defs.specs.Bounds.{Bounds}
use Rattle.ice_defs.specs.Weighing.{weighted_weights}
use Rattle.ice_defs.specs.Prices.{Prices}
use Rattle.ice_defs.specs.Pricing.{IsViolation}
use Rattle.ice_defs.specs.Rows.{Row, Certificate, weighted_sum, IsRow, worth_above, units_above, demand, PassesAccuracy}
use Rattle.ice_defs.specs.Exchange.{Bidder, Exchange, trees_of, exact_of}
use Rattle.ice_defs.specs.Lawful.{IsBidder, IsExchange}
use Rattle.ice_defs.proofs.Products.{times-le}
use Rattle.ice_defs.proofs.Multiples.{times_keep}
use Rattle.ice_frac.proofs.Ring.{cancel_le}
use Rattle.ice_defs.specs.Conditions as bound
use Rattle.ice_trade.proofs.Weighted.{length-trees}
use Rattle.ice_row_laws.specs.Sizes.{IsSizedWithin}
use Rattle.ice_row_laws.proofs.Weighted.{total_weight}
use Rattle.ice_row_laws.proofs.Priced.{violation-ge}
use Rattle.ice_certificate.proofs.Worths.{value-within}
use Rattle.ice_pricing.specs.Bounding.{AreBoundsOf}
use Rattle.ice_pricing.specs.Provisional.{ProvisionalTrade, IsProvisional, provisional_of}
use Rattle.ice_pricing.specs.Priced.{IsLimited}
use Rattle.ice_pricing.proofs.Weighing.{weighted-nodes, weighted-each, tree-limited}
use Rattle.ice_journal.specs.Ranges.{IsViolationField, IsBits}
use Rattle.ice_write_session.specs.Writable.{IsWritableRow, IsWritableCertificate}

-- ---- feasible sets at weighted values are a provisional trade

bounds_in_pricing : (ex : Exchange) (bounds : List Bounds) → bound.AreBoundsOf (trees_of ex) bounds → AreBoundsOf ex bounds
bounds_in_pricing ex bounds are = record {
  count = are.same_length ∙ length-trees ex;
  each = λ b h. are.each b (omega (arith, h, are.same_length));
}

pub provisional_is : (ex : Exchange) (bounds : List Bounds) (sets : Assignment) → IsExchange ex → bound.AreBoundsOf (trees_of ex) bounds → IsFeasible (trees_of ex) (exact_of ex) sets
    → IsProvisional (provisional_of ex (weighted_weights ex.settings.weight bounds) sets)
provisional_is ex bounds sets lawful are feasible =
    let trees = length-trees ex in
    let cap = lawful.settings.cap in
    record {
      bidders = (omega (arith, trees, lawful.bidders_count.0), omega (arith, trees, lawful.bidders_count.1));
      goods_count = lawful.goods_count;
      cap_low = omega (arith, ints, cap.0);
      cap_high = cap.1;
      count = feasible.same_length;
      satisfied = feasible.satisfied;
      nodes = weighted-nodes ex bounds ex.settings.weight (bounds_in_pricing ex bounds are);
      modest = weighted-each ex bounds ex.settings.weight lawful.settings.weight (bounds_in_pricing ex bounds are);
      limited = λ b h. tree-limited ex b lawful h;
    }

-- ---- the violation

module _ (t : ProvisionalTrade) (is : IsProvisional t) where
  row_high : (row : Row) → IsRow t.trees t.weights t.sets row → worth_above t.trees t.weights t.sets row ≤ℤ pos (2 ^ 49)
  row_high row (there, some, satisfied) =
      let w = weights_of t.weights row.bidder in
      let own = set_of t.sets row.bidder in
      let nodes = is.nodes.nodes row.bidder there in
      let few : length (tree_of t.trees row.bidder) ≤ 200 = is.limited row.bidder there in
      let mine = is.satisfied row.bidder there in
      let inside : row.bidder < length t.weights = omega (arith, there, is.nodes.count) in
      let one : IsSizedWithin (2 ^ 48) (value row.set w) = value-within row.set w (omega (arith, few, satisfied.same_length)) (omega (arith, nodes, satisfied.same_length)) (is.modest row.bidder inside) in
      let other : IsSizedWithin (2 ^ 48) (value own w) = value-within own w (omega (arith, few, mine.same_length)) (omega (arith, nodes, mine.same_length)) (is.modest row.bidder inside) in
      omega (arith, ints, one.high, other.low)

  rows_high : (rows : List Row) → AllByRecursion (IsRow t.trees t.weights t.sets) rows → weighted_sum (worth_above t.trees t.weights t.sets) rows ≤ℤ pos (total_weight rows * 2 ^ 49)
  rows_high [] are = omega (arith, ints)
  rows_high (row ∷ rows) (one, others) =
      omega (
        arith,
        ints,
        times-le row.weight (worth_above t.trees t.weights t.sets row) (pos (2 ^ 49)) (row_high row one),
        pos-*ℤ-pos row.weight (2 ^ 49),
        sum_by-cons (λ (r : Row). r.weight) row rows,
        rows_high rows others,
      )

  wanted_low : (f : ℕ → ℤ) (n : ℕ) → pos 0 ≤ℤ sum_below (λ g. int_max (f g) (pos 0)) n
  wanted_low f zero = omega (arith, ints)
  wanted_low f (suc n) = omega (arith, ints, clamps, wanted_low f n)

  pub violation_high : (p : Prices) (v : ℤ) (c : Certificate) → p.den ≤ 2 ^ 32 → PassesAccuracy t.trees t.weights t.sets t.goods t.cap p v c → v ≤ℤ pos (2 ^ 81)
  violation_high p v c few passes =
      let all = demand t.trees t.weights t.sets t.goods c.rows in
      let worths = weighted_sum (worth_above t.trees t.weights t.sets) c.rows in
      let free : pos 0 ≤ℤ (t.cap *ℤ all) = omega (arith, ints, times_keep t.cap (pos 0) all is.cap_low (wanted_low (λ g. weighted_sum (units_above t.trees t.weights t.sets g) c.rows) t.goods), *ℤ-zero t.cap) in
      let weights : total_weight c.rows * 2 ^ 49 ≤ c.den * 2 ^ 49 = mul-le-mul_right (2 ^ 49) passes.weights in
      let most : (worths -ℤ (pos 100 *ℤ (t.cap *ℤ all))) ≤ℤ pos (c.den * 2 ^ 49) = omega (arith, ints, free, weights, rows_high c.rows passes.rows) in
      let scaled = times-le p.den (worths -ℤ (pos 100 *ℤ (t.cap *ℤ all))) (pos (c.den * 2 ^ 49)) most in
      let dens : p.den * (c.den * 2 ^ 49) ≤ 2 ^ 32 * (c.den * 2 ^ 49) = mul-le-mul_right (c.den * 2 ^ 49) few in
      let same : 2 ^ 32 * (c.den * 2 ^ 49) ≡ 2 ^ 81 * c.den = omega arith in
      cancel_le c.den v (pos (2 ^ 81)) passes.proper (omega (arith, ints, passes.equal, scaled, pos-*ℤ-pos p.den (c.den * 2 ^ 49), pos-*ℤ-pos (2 ^ 81) c.den, dens, same))

  pub violation_may_be_written : (p : Prices) (v : ℤ) (c : Certificate) → p.den ≤ 2 ^ 32 → IsViolation t.trees t.weights t.sets p v → PassesAccuracy t.trees t.weights t.sets t.goods t.cap p v c → IsViolationField v
  violation_may_be_written p v c few violates passes = (violation-ge t.trees t.weights t.sets p v violates is.satisfied, omega (arith, ints, violation_high p v c few passes))

-- ---- the rows of a certificate

some_nodes : (goods : ℕ) (bidders : List Bidder) → AllByRecursion (IsBidder goods) bidders → (b : ℕ) → b < length (map (λ x. x.tree) bidders) → 1 ≤ length (tree_of (map (λ x. x.tree) bidders) b)
some_nodes goods [] are b there = absurd (omega (arith, there))
some_nodes goods (x ∷ bidders) are zero there = are.0.tree.tree.rooted
some_nodes goods (x ∷ bidders) are (suc b) there = some_nodes goods bidders are.1 b (omega (arith, there))

module _ (ex : Exchange) (lawful : IsExchange ex) where
  -- the set of a bidder has 1 to 200 bits
  pub bits_of : (b : ℕ) (s : NodeSet) → b < length (trees_of ex) → length s ≡ length (tree_of (trees_of ex) b) → IsBits s
  bits_of b s there same = (omega (arith, same, some_nodes (length ex.goods) ex.bidders lawful.bidders b there), omega (arith, same, tree-limited ex b lawful there))

  pub bidder_number : (b : ℕ) → b < length (trees_of ex) → b ≤ 39
  bidder_number b there = omega (arith, there, length-trees ex, lawful.bidders_count.1)

  module _ (t : ProvisionalTrade) (same : t.trees ≡ trees_of ex) where
    rows_may_be_written : (rows : List Row) → AllByRecursion (IsRow (trees_of ex) t.weights t.sets) rows → AllByRecursion (λ row. row.weight ≤ 2 ^ 32) rows → AllByRecursion IsWritableRow rows
    rows_may_be_written [] are few = tt
    rows_may_be_written (row ∷ rows) ((there, some, satisfied), others) (fits, fit) = (
      (bidder_number row.bidder there, (some, fits), bits_of row.bidder row.set there satisfied.same_length),
      rows_may_be_written rows others fit,
    )

    pub certificate_may_be_written : (c : Certificate) → AllByRecursion (IsRow t.trees t.weights t.sets) c.rows → IsLimited c → IsWritableCertificate c
    certificate_may_be_written c rows limited = record {
      den = (limited.positive, limited.den_fits);
      rows = rows_may_be_written c.rows (subst (λ (ts : List Tree). AllByRecursion (IsRow ts t.weights t.sets) c.rows) same rows) limited.weights_fit;
    }
