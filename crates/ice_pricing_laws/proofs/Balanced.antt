-- Where no set is to be added, the least point of the balance program has balanced prices.
use Rattle.std.proofs.Common.{ℕ, suc, ◌<◌, ◌≡◌, List, length, ℤ, pos, ◌*ℤ◌, ◌≤ℤ◌, arith, sym, subst}
use Rattle.std.specs.List.{AllByRecursion}
use Rattle.std.proofs.lemmas.Int.{ints}
use Rattle.std.proofs.Math.IntN.{zero-*ℤ, *ℤ_comm}
use Rattle.ice_defs.specs.Tree.{Tree}
use Rattle.ice_defs.specs.Set.{Weights}
use Rattle.ice_defs.specs.Trade.{Assignment}
use Rattle.ice_defs.specs.Prices.{Prices, price_of, ArePrices}
use Rattle.ice_defs.specs.Pricing.{IsChoice, IsViolation, IsAccurate, top_of}
use Rattle.ice_defs.specs.Fraction.{Fraction, AtMost}
use Rattle.ice_defs.specs.Program.{IsPoint, IsLeast, cost}
use Rattle.ice_defs.specs.PricingRun.{Member, balance_program, solution_prices}
use Rattle.ice_defs.proofs.Products.{times-le}
use Rattle.ice_frac.proofs.Fractions.{AtMost-trans, Equals_from_AtMost}
use Rattle.ice_frac.proofs.Ring.{cancel_le, scale_le, turn3}
use Rattle.ice_pricing_laws.specs.Laws.{AreMembers, balance_at, LeastIsBalanced}
use Rattle.ice_pricing_laws.proofs.Lists.{all-each, length-only_at}
use Rattle.ice_pricing_laws.proofs.Dots.{over-le}
use Rattle.ice_pricing_laws.proofs.Programs.{MeetsBalance, cost-over, from_balance, to_balance}
use Rattle.ice_pricing_laws.proofs.Excess.{excess, excess-balance}
use Rattle.ice_pricing_laws.proofs.Solved.{den_of, num_at, den_of-pos, are_over-own, prices-pos, are_prices-over, nums_with, point_with, point_with-size, point_with-over, nums_with-price, nums_with-last, point_with-prices}
use Rattle.ice_pricing_laws.proofs.Tops.{top-keeps}
use Rattle.ice_pricing_laws.proofs.Accuracy.{each-below, none-le}
use Rattle.ice_row_laws.proofs.Balanced.{top-low, top-high}

module _ (ts : List Tree) (ws : List Weights) (sets : Assignment) (goods : ℕ) (cap : ℤ) where
  pub violation-one : (p : Prices) (a b : ℤ) → IsViolation ts ws sets p a → IsViolation ts ws sets p b → a ≡ b
  violation-one p a b is other =
      let (c, there, e) = is.attained in
      let (k, here, f) = other.attained in
      omega (arith, ints, e, f, is.bound k here, other.bound c there)

  -- accurate prices have the least violation
  pub accurate-le : (p q : Prices) (v y : ℤ) → IsAccurate ts ws sets goods cap p → IsViolation ts ws sets p v → ArePrices goods cap q → IsViolation ts ws sets q y
      → AtMost (record { num = v; den = p.den }) (record { num = y; den = q.den })
  accurate-le p q v y accurate is are other =
      let (z, own, most) = accurate.least in
      subst (λ k. (k *ℤ pos q.den) ≤ℤ (y *ℤ pos p.den)) (violation-one p z v own is) (most q y are other)

  module _ (delta : ℤ) (den : ℕ) (pool : List Member) where
    -- prices with their greatest are a point, where no member's excess is above what is allowed
    pub allowed_is_point : (q : Prices) → ArePrices goods cap q → AllByRecursion (λ m. (pos den *ℤ excess ts ws sets goods cap q m) ≤ℤ (delta *ℤ pos q.den)) pool
        → IsPoint (balance_program ts ws sets goods cap delta den pool) (point_with q (top_of q))
    allowed_is_point q are bound =
        let y : ℤ = top_of q in
        let n : ℕ → ℤ = nums_with q y in
        let price : (g : ℕ) → g < goods → n g ≡ price_of q g = nums_with-price goods q y are.positive are.same_length in
        let last : n goods ≡ y = nums_with-last goods q y are.positive are.same_length in
        to_balance ts ws sets goods cap (point_with q y) q.den n are.positive
        (point_with-over goods q y are.positive are.same_length) (point_with-size goods q y are.positive are.same_length) delta den pool
        (record {
          low = each-below (λ j. pos 0 ≤ℤ n j) goods (λ g h. subst (λ z. pos 0 ≤ℤ z) (sym (price g h)) (are.low g h)) (subst (λ z. pos 0 ≤ℤ z) (sym last) (top-low q));
          high = λ g h. let most = top-high q g (omega (arith, are.same_length, h)) in omega (arith, ints, price g h, last, most);
          members = all-each (λ m. (pos den *ℤ excess ts ws sets goods cap q m) ≤ℤ (delta *ℤ pos q.den)) (MeetsBalance ts ws sets goods cap delta den q.den n) pool
              (λ m h. excess-balance ts ws sets goods cap q q.den n (point_with-prices goods q y are.positive are.same_length) m delta den are.positive h) bound;
        })

    -- so are prices whose violation is at most what is allowed
    pub violation-balance_point : (q : Prices) (y : ℤ) → AreMembers ts ws sets pool → ArePrices goods cap q → IsViolation ts ws sets q y
        → AtMost (record { num = y; den = q.den }) (record { num = delta; den = den })
        → IsPoint (balance_program ts ws sets goods cap delta den pool) (point_with q (top_of q))
    violation-balance_point q y members are is most =
        allowed_is_point q are
        (all-each (λ m. IsChoice ts ws sets (m.bidder, m.set)) (λ m. (pos den *ℤ excess ts ws sets goods cap q m) ≤ℤ (delta *ℤ pos q.den)) pool
        (λ m h. let le = times-le den (excess ts ws sets goods cap q m) y (is.bound (m.bidder, m.set) h) in omega (arith, ints, le, most, *ℤ_comm (pos den) y)) members)

    pub balance-size : (x : List Fraction) → IsPoint (balance_program ts ws sets goods cap delta den pool) x → length x ≡ suc goods
    balance-size x point = omega (arith, point.same_length, length-only_at (suc goods) goods (pos 1))

    -- the least point's greatest price is at most that of any prices that are a point
    pub least-top : (x : List Fraction) (q : Prices) → IsLeast (balance_program ts ws sets goods cap delta den pool) x → ArePrices goods cap q
        → IsPoint (balance_program ts ws sets goods cap delta den pool) (point_with q (top_of q))
        → AtMost (record { num = num_at x goods; den = den_of x }) (record { num = top_of q; den = q.den })
    least-top x q least are point =
        let size = balance-size x least.point in
        let low = least.point.non_negative in
        let p = balance_program ts ws sets goods cap delta den pool in
        let y : ℤ = top_of q in
        let mine = cost-over ts ws sets goods cap x (den_of x) (num_at x) (den_of-pos goods x low size) (are_over-own goods x low size) size in
        let other = cost-over ts ws sets goods cap (point_with q y) q.den (nums_with q y) are.positive (point_with-over goods q y are.positive are.same_length) (point_with-size goods q y are.positive are.same_length) in
        let le : (num_at x goods *ℤ pos q.den) ≤ℤ (nums_with q y goods *ℤ pos (den_of x)) =
        over-le (den_of x) q.den (num_at x goods) (nums_with q y goods) (cost p x) (cost p (point_with q y)) (den_of-pos goods x low size) mine other (least.least (point_with q y) point) in
        subst (λ z. (num_at x goods *ℤ pos q.den) ≤ℤ (z *ℤ pos (den_of x))) (nums_with-last goods q y are.positive are.same_length) le

    -- the prices of a point are at most its last number
    pub point-top : (x : List Fraction) → IsPoint (balance_program ts ws sets goods cap delta den pool) x
        → AtMost (record { num = top_of (solution_prices ts ws sets goods cap x); den = (solution_prices ts ws sets goods cap x).den }) (record { num = num_at x goods; den = den_of x })
    point-top x point =
        let size = balance-size x point in
        let low = point.non_negative in
        let p : Prices = solution_prices ts ws sets goods cap x in
        let n : ℕ → ℤ = num_at x in
        let d : ℕ = den_of x in
        let over = are_prices-over goods x low size in
        let is = from_balance ts ws sets goods cap x d n (den_of-pos goods x low size) (are_over-own goods x low size) size delta den pool point in
        top-keeps (λ z. (z *ℤ pos d) ≤ℤ (n goods *ℤ pos p.den)) p
        (let some = scale_le p.den (pos 0) (n goods) (is.low goods (omega arith)) in omega (arith, ints, some, zero-*ℤ (pos p.den), zero-*ℤ (pos d)))
        (λ g h. let below : g < goods = omega (arith, h, over.size) in
        let some = scale_le p.den (n g) (n goods) (is.high g below) in omega (arith, ints, some, over.same g below))

    -- they are within the cap, where some prices within it are a point
    pub balance-within : (x : List Fraction) (q : Prices) → IsLeast (balance_program ts ws sets goods cap delta den pool) x → ArePrices goods cap q
        → IsPoint (balance_program ts ws sets goods cap delta den pool) (point_with q (top_of q)) → ArePrices goods cap (solution_prices ts ws sets goods cap x)
    balance-within x q least are point =
        let size = balance-size x least.point in
        let low = least.point.non_negative in
        let p : Prices = solution_prices ts ws sets goods cap x in
        let n : ℕ → ℤ = num_at x in
        let d : ℕ = den_of x in
        let hd = den_of-pos goods x low size in
        let over = are_prices-over goods x low size in
        let is = from_balance ts ws sets goods cap x d n hd (are_over-own goods x low size) size delta den pool least.point in
        let tops : (top_of p *ℤ pos q.den) ≤ℤ (top_of q *ℤ pos p.den) =
        AtMost-trans (record { num = top_of p; den = p.den }) (record { num = n goods; den = d }) (record { num = top_of q; den = q.den }) hd (point-top x least.point) (least-top x q least are point) in
        record {
          positive = prices-pos goods x low size;
          same_length = over.size;
          low = λ g h. cancel_le d (pos 0) (price_of p g) hd (let most = scale_le p.den (pos 0) (n g) (is.low g (omega (arith, h))) in omega (arith, ints, most, over.same g h));
          high = λ g h.
              let price : price_of p g ≤ℤ top_of p = top-high p g (omega (arith, h, over.size)) in
              let some : pos 0 ≤ℤ (cap *ℤ pos q.den) = (let a = are.low g h in let b = are.high g h in omega (arith, ints, a, b)) in
              let top : top_of q ≤ℤ (cap *ℤ pos q.den) = top-keeps (λ z. z ≤ℤ (cap *ℤ pos q.den)) q some (λ i l. are.high i (omega (arith, l, are.same_length))) in
              let first = scale_le q.den (price_of p g) (top_of p) price in
              let second = scale_le p.den (top_of q) (cap *ℤ pos q.den) top in
              cancel_le q.den (price_of p g) (cap *ℤ pos p.den) are.positive (omega (arith, ints, first, tops, second, turn3 cap q.den p.den));
        }

pub least_is_balanced : LeastIsBalanced
least_is_balanced ts ws sets goods cap pool p delta x v satisfied members accurate is least none other =
    let r : Prices = solution_prices ts ws sets goods cap x in
    let mine : Fraction = record { num = v; den = r.den } in
    let first : Fraction = record { num = delta; den = p.den } in
    let feasible = violation-balance_point ts ws sets goods cap delta p.den pool p delta members accurate.within is (let e : AtMost first first = omega (arith, ints) in e) in
    let within = balance-within ts ws sets goods cap delta p.den pool x p least accurate.within feasible in
    let most : AtMost mine first = none-le ts ws sets goods cap (balance_at delta p.den) x v none other in
    let few : AtMost first mine = accurate-le ts ws sets goods cap p r delta v accurate is within other in (
      record {
        accurate = record {
          within = within;
          least = (v, other, λ q y are there. AtMost-trans mine first (record { num = y; den = q.den }) accurate.within.positive most (accurate-le ts ws sets goods cap p q delta y accurate is are there));
        };
        least = λ q same.
            let (y, there, _) = same.least in
            let point = violation-balance_point ts ws sets goods cap delta p.den pool q y members same.within there (accurate-le ts ws sets goods cap q p y delta same there accurate.within is) in
            let size = balance-size ts ws sets goods cap delta p.den pool x least.point in
            AtMost-trans (record { num = top_of r; den = r.den }) (record { num = num_at x goods; den = den_of x }) (record { num = top_of q; den = q.den })
            (den_of-pos goods x least.point.non_negative size)
            (point-top ts ws sets goods cap delta p.den pool x least.point) (least-top ts ws sets goods cap delta p.den pool x q least same.within point);
      },
      Equals_from_AtMost mine first most few,
    )
