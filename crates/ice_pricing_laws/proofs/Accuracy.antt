-- Where no set is to be added, the least point of the accuracy program has accurate prices.
use Rattle.std.proofs.Common.{ℕ, suc, ◌<◌, ◌≤◌, ◌≡◌, ◌⊎◌, List, length, ℤ, pos, ◌*ℤ◌, ◌≤ℤ◌, arith, ap, sym, subst, inl, inr}
use Rattle.std.specs.List.{AllByRecursion}
use Rattle.std.proofs.lemmas.Int.{ints, by_lt_z}
use Rattle.std.proofs.lemmas.Bool.{cases_lt}
use Rattle.std.proofs.Math.IntN.{*ℤ_comm}
use Rattle.ice_defs.specs.Tree.{Tree}
use Rattle.ice_defs.specs.Set.{Weights}
use Rattle.ice_defs.specs.Trade.{Assignment}
use Rattle.ice_defs.specs.Prices.{Prices, price_of, ArePrices}
use Rattle.ice_defs.specs.Pricing.{IsChoice, IsViolation}
use Rattle.ice_defs.specs.Fraction.{Fraction, AtMost, Below, fraction_at}
use Rattle.ice_defs.specs.Program.{IsPoint, IsLeast, cost}
use Rattle.ice_defs.specs.PricingRun.{Member, StageAt, first_stage, accuracy_program, solution_prices, allowance, HasNoneToAdd, excess_of}
use Rattle.ice_defs.proofs.Products.{times-le}
use Rattle.ice_frac.proofs.Fractions.{AtMost-trans, Equals_from_AtMost, AtMost-left}
use Rattle.ice_frac.proofs.Ring.{cancel_le, scale_le, turn3}
use Rattle.ice_row_laws.specs.Laws.{AreSatisfied}
use Rattle.ice_row_laws.proofs.Priced.{violation-ge}
use Rattle.ice_pricing_laws.specs.Laws.{AreMembers, LeastIsAccurate}
use Rattle.ice_pricing_laws.proofs.Lists.{all-each, length-only_at}
use Rattle.ice_pricing_laws.proofs.Dots.{over-le}
use Rattle.ice_pricing_laws.proofs.Programs.{MeetsAccuracy, cost-over, from_accuracy, to_accuracy}
use Rattle.ice_pricing_laws.proofs.Excess.{excess, excess-accuracy}
use Rattle.ice_pricing_laws.proofs.Solved.{den_of, num_at, den_of-pos, are_over-own, prices-pos, are_prices-over, nums_with, point_with, point_with-size, point_with-over, nums_with-price, nums_with-last, point_with-prices}

-- what isn't below is at most
pub at_most_from_not : (a b : Fraction) → ¬ Below a b → AtMost b a
at_most_from_not a b h = by_lt_z (a.num *ℤ pos b.den) (b.num *ℤ pos a.den) (λ less. absurd (h less)) (λ le. le)

pub each-below : (P : ℕ → Type 0) (n : ℕ) → ((g : ℕ) → g < n → P g) → P n → (j : ℕ) → j < suc n → P j
each-below P n before last j h = by (cases_lt j n)
  where
    by : (j < n) ⊎ (n ≤ j) → P j
    by (inl l) = before j l
    by (inr l) = let e : n ≡ j = omega arith in subst P e last

module _ (ts : List Tree) (ws : List Weights) (sets : Assignment) (goods : ℕ) (cap : ℤ) where
  -- prices within the cap with a bound of all excesses are a point
  pub bound_is_point : (pool : List Member) (q : Prices) (y : ℤ) → ArePrices goods cap q → pos 0 ≤ℤ y → AllByRecursion (λ m. excess ts ws sets goods cap q m ≤ℤ y) pool
      → IsPoint (accuracy_program ts ws sets goods cap pool) (point_with q y)
  bound_is_point pool q y are some bound =
      to_accuracy ts ws sets goods cap (point_with q y) q.den (nums_with q y) are.positive
      (point_with-over goods q y are.positive are.same_length) (point_with-size goods q y are.positive are.same_length) pool
      (record {
        low = each-below (λ j. pos 0 ≤ℤ nums_with q y j) goods (λ g h. subst (λ z. pos 0 ≤ℤ z) (sym (nums_with-price goods q y are.positive are.same_length g h)) (are.low g h))
            (subst (λ z. pos 0 ≤ℤ z) (sym (nums_with-last goods q y are.positive are.same_length)) some);
        high = λ g h. subst (λ z. z ≤ℤ (cap *ℤ pos q.den)) (sym (nums_with-price goods q y are.positive are.same_length g h)) (are.high g h);
        members = all-each (λ m. excess ts ws sets goods cap q m ≤ℤ y) (MeetsAccuracy ts ws sets goods cap q.den (nums_with q y)) pool
            (λ m h. excess-accuracy ts ws sets goods cap q q.den (nums_with q y) (point_with-prices goods q y are.positive are.same_length) m are.positive
            (let most : (pos q.den *ℤ excess ts ws sets goods cap q m) ≤ℤ (pos q.den *ℤ y) = times-le q.den (excess ts ws sets goods cap q m) y h in
            omega (arith, ints, most, *ℤ_comm (pos q.den) y, ap (λ z. z *ℤ pos q.den) (nums_with-last goods q y are.positive are.same_length))))
            bound;
      })

  pub violation-point : (pool : List Member) (q : Prices) (y : ℤ) → AreSatisfied ts sets → AreMembers ts ws sets pool → ArePrices goods cap q → IsViolation ts ws sets q y
      → IsPoint (accuracy_program ts ws sets goods cap pool) (point_with q y)
  violation-point pool q y satisfied members are is =
      bound_is_point pool q y are (violation-ge ts ws sets q y is satisfied)
      (all-each (λ m. IsChoice ts ws sets (m.bidder, m.set)) (λ m. excess ts ws sets goods cap q m ≤ℤ y) pool (λ m h. is.bound (m.bidder, m.set) h) members)

  pub point-size : (pool : List Member) (x : List Fraction) → IsPoint (accuracy_program ts ws sets goods cap pool) x → length x ≡ suc goods
  point-size pool x point = omega (arith, point.same_length, length-only_at (suc goods) goods (pos 1))

  -- the prices of a point are within the cap
  pub prices-within : (pool : List Member) (x : List Fraction) → IsPoint (accuracy_program ts ws sets goods cap pool) x → ArePrices goods cap (solution_prices ts ws sets goods cap x)
  prices-within pool x point =
      let size = point-size pool x point in
      let low = point.non_negative in
      let p : Prices = solution_prices ts ws sets goods cap x in
      let d : ℕ = den_of x in
      let n : ℕ → ℤ = num_at x in
      let over = are_prices-over goods x low size in
      let is = from_accuracy ts ws sets goods cap x d n (den_of-pos goods x low size) (are_over-own goods x low size) size pool point in
      record {
        positive = prices-pos goods x low size;
        same_length = over.size;
        low = λ g h. cancel_le d (pos 0) (price_of p g) (den_of-pos goods x low size) (let most = scale_le p.den (pos 0) (n g) (is.low g (omega (arith, h))) in omega (arith, ints, most, over.same g h));
        high = λ g h. cancel_le d (price_of p g) (cap *ℤ pos p.den) (den_of-pos goods x low size)
            (let most = scale_le p.den (n g) (cap *ℤ pos d) (is.high g h) in omega (arith, ints, most, over.same g h, turn3 cap d p.den));
      }

  -- the least point's violation is at most a number that is a point with prices within the cap
  pub least-at : (pool : List Member) (x : List Fraction) (q : Prices) (y : ℤ) → IsLeast (accuracy_program ts ws sets goods cap pool) x
      → ArePrices goods cap q → IsPoint (accuracy_program ts ws sets goods cap pool) (point_with q y) → AtMost (fraction_at x goods) (record { num = y; den = q.den })
  least-at pool x q y least are point =
      let size = point-size pool x least.point in
      let low = least.point.non_negative in
      let p = accuracy_program ts ws sets goods cap pool in
      let mine = cost-over ts ws sets goods cap x (den_of x) (num_at x) (den_of-pos goods x low size) (are_over-own goods x low size) size in
      let other = cost-over ts ws sets goods cap (point_with q y) q.den (nums_with q y) are.positive (point_with-over goods q y are.positive are.same_length) (point_with-size goods q y are.positive are.same_length) in
      let own = are_over-own goods x low size goods (omega (arith, size)) in
      let le : (num_at x goods *ℤ pos q.den) ≤ℤ (nums_with q y goods *ℤ pos (den_of x)) =
      over-le (den_of x) q.den (num_at x goods) (nums_with q y goods) (cost p x) (cost p (point_with q y)) (den_of-pos goods x low size) mine other (least.least (point_with q y) point) in
      let at : AtMost (record { num = num_at x goods; den = den_of x }) (record { num = y; den = q.den }) =
      subst (λ z. (num_at x goods *ℤ pos q.den) ≤ℤ (z *ℤ pos (den_of x))) (nums_with-last goods q y are.positive are.same_length) le in
      AtMost-left (record { num = num_at x goods; den = den_of x }) (fraction_at x goods) (record { num = y; den = q.den }) (den_of-pos goods x low size) (sym own.equal) at

  -- so at most that of any prices within the cap
  pub least-le : (pool : List Member) (x : List Fraction) (q : Prices) (y : ℤ) → AreSatisfied ts sets → AreMembers ts ws sets pool → IsLeast (accuracy_program ts ws sets goods cap pool) x
      → ArePrices goods cap q → IsViolation ts ws sets q y → AtMost (fraction_at x goods) (record { num = y; den = q.den })
  least-le pool x q y satisfied members least are is = least-at pool x q y least are (violation-point pool q y satisfied members are is)

  -- where none is to be added, no excess is above what is allowed
  pub none-le : (at : StageAt) (x : List Fraction) (v : ℤ) → HasNoneToAdd ts ws sets goods cap at x → IsViolation ts ws sets (solution_prices ts ws sets goods cap x) v
      → AtMost (record { num = v; den = (solution_prices ts ws sets goods cap x).den }) (allowance ts ws sets goods cap at x)
  none-le at x v none is =
      let ((b, s), there, e) = is.attained in
      let m : Member = record { bidder = b; set = s } in
      let most = at_most_from_not (allowance ts ws sets goods cap at x) (excess_of ts ws sets goods cap (solution_prices ts ws sets goods cap x) m) (λ below. none m (there, below)) in
      subst (λ z. AtMost (record { num = z; den = (solution_prices ts ws sets goods cap x).den }) (allowance ts ws sets goods cap at x)) e most

pub least_is_accurate : LeastIsAccurate
least_is_accurate ts ws sets goods cap pool x v satisfied members least none is =
    let within = prices-within ts ws sets goods cap pool x least.point in
    let p : Prices = solution_prices ts ws sets goods cap x in
    let most = none-le ts ws sets goods cap first_stage x v none is in
    let size = point-size ts ws sets goods cap pool x least.point in
    let own = are_over-own goods x least.point.non_negative size goods (omega (arith, size)) in (
      record {
        within = within;
        least = (
          v,
          is,
          λ q y are other.
              AtMost-trans (record { num = v; den = p.den }) (fraction_at x goods) (record { num = y; den = q.den }) own.proper most
              (least-le ts ws sets goods cap pool x q y satisfied members least are other),
        );
      },
      Equals_from_AtMost (record { num = v; den = p.den }) (fraction_at x goods) most (least-le ts ws sets goods cap pool x p v satisfied members least within is),
    )
